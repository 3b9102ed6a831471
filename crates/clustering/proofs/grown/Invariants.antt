-- `grown` meets its contract: all that the row holds is reached from i, and it holds the links of each place that has been joined to it.
use Prim.Native.Nat.{ℕ, ◌≤◌, ◌<◌}
use Rattle.scope.specs.Closure.{Marks}
use Rattle.intake.specs.Limits.{max_circles}
use Rattle.clustering.specs.Table.{Holds, closed_to}
use Rattle.clustering.proofs.Growing.{Left, Growing, places_left}
use Rattle.clustering.proofs.grown.Given as goal

abbrev pub invariant-loop-rest : goal.invariant-loop-rest
invariant-loop-rest l = Left l.all l.joined l.rest × ((n : ℕ) (t : Marks) → n ≤ max_circles → l.i < n → Holds n l.rows (closed_to l.i n t) → Growing n t l.i l.all l.joined)

abbrev pub decreases-loop-rest : goal.decreases-loop-rest
decreases-loop-rest l = places_left max_circles l.joined
