-- `join` meets its contract, circle by circle.
use mathlib.Core.Path.{◌≡◌}
use Rattle.scope.specs.Links.{nowhere}
use Rattle.intake.proofs.InPlace.{so_far}
use Rattle.layout.proofs.Joined.{recentred}
use Rattle.layout.proofs.lent.join.Given as goal

abbrev pub invariant-loop-i : goal.invariant-loop-i
invariant-loop-i l = l.circles ≡ so_far (recentred l.xs l.ys) nowhere l.i l.initial.circles
