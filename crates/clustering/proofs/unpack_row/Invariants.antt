-- `unpack_row` meets its contract: row i is cleared, and shows the places of the word that are not left.
use Prim.Native.Nat.{ℕ}
use mathlib.Core.Path.{◌≡◌}
use mathlib.Core.Bool.{Bool, true}
use Rattle.scope.specs.Runs.{bit}
use Rattle.clustering.specs.Table.{Shows}
use Rattle.clustering.proofs.Packing.{with_places}
use Rattle.clustering.proofs.unpack_row.Given as goal

abbrev pub invariant-loop-rest : goal.invariant-loop-rest
invariant-loop-rest l =
    ((j : ℕ) → bit l.rest j ≡ true → bit l.row j ≡ true)
    × ((n : ℕ) (f : ℕ → ℕ → Bool) → Shows n l.initial.m (with_places f l.i l.row l.row) → Shows n l.m (with_places f l.i l.row l.rest))

abbrev pub decreases-loop-rest : goal.decreases-loop-rest
decreases-loop-rest l = l.rest
