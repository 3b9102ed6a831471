-- `too_many_regions` meets its contract.
use mathlib.Core.Path.{refl}
use Rattle.scope.specs.Limits.{region_cap}
use Rattle.scope.specs.Refusals.{too_many_regions}
use Rattle.intake.proofs.limits.too_many_regions.Goals as goal

pub returns : goal.returns
unfolding too_many_regions region_cap
returns c = refl
