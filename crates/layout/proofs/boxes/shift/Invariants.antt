-- `shift` meets its contract, circle by circle: every cluster number has its middles.
use mathlib.Core.Path.{◌≡◌}
use lib.ListN.{get_or}
use lib.Ieee.{nan}
use Rattle.scope.specs.Numbers.{◌+ᶠ◌, ◌-ᶠ◌}
use Rattle.intake.specs.Columns.{at}
use Rattle.intake.proofs.InPlace.{so_far}
use Rattle.layout.proofs.boxes.shift.Given as goal

abbrev pub invariant-loop-i : goal.invariant-loop-i
invariant-loop-i l =
    l.coords ≡ so_far (λ k x. x +ᶠ (at l.news (get_or l.numbers k 0) -ᶠ at l.olds (get_or l.numbers k 0))) nan l.i l.initial.coords
