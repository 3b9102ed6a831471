-- `numbered` meets its contract: the clusters whose smallest circle comes before i have their number, and their circles are marked as seen.
use Prim.Native.Nat.{◌≤◌}
use mathlib.Core.Path.{◌≡◌}
use lib.ListN.{length}
use Rattle.scope.specs.Closure.{Marks, at}
use Rattle.laws.proofs.Closure.{Equivalence}
use Rattle.intake.specs.Limits.{max_circles}
use Rattle.clustering.specs.Table.{Shows}
use Rattle.clustering.proofs.Numbering.{Numbered}
use Rattle.clustering.proofs.numbered.Given as goal

abbrev pub invariant-loop-i : goal.invariant-loop-i
invariant-loop-i l =
    (l.count ≤ l.i)
    × ((t : Marks) → Shows l.n l.m (at t) → Equivalence l.n t → (length l.given.numbers ≡ max_circles) × (length l.given.seen ≡ max_circles)
    × Numbered l.n t l.i l.count l.given.numbers l.given.seen)
