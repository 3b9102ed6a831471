-- `translate` meets its contract, number by number.
use mathlib.Core.Path.{◌≡◌}
use lib.Ieee.{nan}
use Rattle.scope.specs.Numbers.{◌+ᶠ◌}
use Rattle.intake.proofs.InPlace.{so_far}
use Rattle.layout.proofs.axis.translate.Given as goal

abbrev pub invariant-loop-x : goal.invariant-loop-x
invariant-loop-x l = l.coords ≡ so_far (λ k x. x +ᶠ l.d) nan l.x-index l.initial.coords
