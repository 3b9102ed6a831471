-- `too_many` meets its contract.
use mathlib.Core.Path.{refl}
use Rattle.scope.specs.Limits.{circle_cap}
use Rattle.scope.specs.Refusals.{too_many}
use Rattle.intake.proofs.limits.too_many.Goals as goal

pub returns : goal.returns
unfolding too_many circle_cap
returns c = refl
