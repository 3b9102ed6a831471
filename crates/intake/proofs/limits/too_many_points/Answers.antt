-- `too_many_points` meets its contract.
use mathlib.Core.Path.{refl}
use Rattle.scope.specs.Limits.{point_cap}
use Rattle.scope.specs.Refusals.{too_many_points}
use Rattle.intake.proofs.limits.too_many_points.Goals as goal

pub returns : goal.returns
unfolding too_many_points point_cap
returns c = refl
