-- `pack` meets its contract, row by row.
use Prim.Native.Nat.{ℕ}
use mathlib.Core.Bool.{Bool}
use Rattle.clustering.specs.Table.{Shows}
use Rattle.clustering.proofs.Packing.{HeldTo}
use Rattle.clustering.proofs.pack.Given as goal

abbrev pub invariant-loop-i : goal.invariant-loop-i
invariant-loop-i l = (f : ℕ → ℕ → Bool) → Shows l.n l.m f → HeldTo l.n l.i l.rows f
