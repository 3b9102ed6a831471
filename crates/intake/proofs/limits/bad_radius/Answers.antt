-- `bad_radius` meets its contract.
use mathlib.Core.Path.{ap}
use mathlib.Core.Bool.{not}
use Rattle.scope.specs.Limits.{radius_ok, within}
use Rattle.scope.specs.Refusals.{bad_radius}
use Rattle.intake.proofs.limits.bad_radius.Goals as goal

pub returns : goal.returns
unfolding bad_radius radius_ok within
returns c = ap not c.radius_in_range.ensures
