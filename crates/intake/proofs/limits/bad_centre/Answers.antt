-- `bad_centre` meets its contract.
use Rattle.scope.specs.Refusals.{bad_centre}
use Rattle.intake.proofs.limits.bad_centre.Goals as goal

pub returns : goal.returns
unfolding bad_centre
returns c = c.bad_point.ensures
