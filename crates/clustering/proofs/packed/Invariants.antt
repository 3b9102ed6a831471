-- `packed` meets its contract: the marks before j are packed.
use Prim.Native.Nat.{ℕ, ◌<◌}
use mathlib.Core.Path.{◌≡◌}
use mathlib.Core.Bool.{Bool}
use Rattle.scope.specs.PackedRows.{packed_row}
use Rattle.clustering.specs.Table.{Shows}
use Rattle.clustering.proofs.packed.Given as goal

abbrev pub invariant-loop-j : goal.invariant-loop-j
invariant-loop-j l = (f : ℕ → ℕ → Bool) → l.i < l.n → Shows l.n l.m f → l.row ≡ packed_row l.j (f l.i)
