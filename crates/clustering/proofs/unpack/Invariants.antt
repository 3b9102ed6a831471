-- `unpack` meets its contract, row by row: the rows before i show what the words hold. Equal words have equal rows, so one may be copied.
use Prim.Native.Nat.{ℕ}
use mathlib.Core.Bool.{Bool}
use Rattle.clustering.specs.Table.{Shows, Holds}
use Rattle.clustering.proofs.Packing.{shown_to}
use Rattle.clustering.proofs.unpack.Given as goal

abbrev pub invariant-loop-i : goal.invariant-loop-i
invariant-loop-i l = (f g : ℕ → ℕ → Bool) → Holds l.n l.rows f → Shows l.n l.initial.m g → Shows l.n l.m (shown_to f g l.i)
