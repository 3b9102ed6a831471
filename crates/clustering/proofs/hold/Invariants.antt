-- `hold` meets its contract: the mask has been joined to the rows of its circles but those of `rest`.
use Prim.Native.Nat.{ℕ, ◌≤◌}
use mathlib.Core.Path.{◌≡◌}
use mathlib.Core.Bool.{Bool, true, false}
use Rattle.scope.specs.Runs.{bit}
use Rattle.intake.specs.Limits.{max_circles}
use Rattle.clustering.specs.Table.{Holds}
use Rattle.clustering.proofs.Rows.{joined_but}
use Rattle.clustering.proofs.hold.Given as goal

abbrev pub invariant-loop-rest : goal.invariant-loop-rest
invariant-loop-rest l =
    ((j : ℕ) → bit l.rest j ≡ true → bit l.mask j ≡ true)
    × ((n : ℕ) (f : ℕ → ℕ → Bool) → n ≤ max_circles → Holds n l.initial.rows f → ((j : ℕ) → n ≤ j → bit l.mask j ≡ false) → Holds n l.rows (joined_but l.mask l.rest f))

abbrev pub decreases-loop-rest : goal.decreases-loop-rest
decreases-loop-rest l = l.rest
