-- `magnitude` meets its contract, step by step.
use Rattle.scope.specs.Offset.{magnitude}
use Rattle.geometry.proofs.lengths.magnitude.Goals as goal

pub returns : goal.returns
unfolding magnitude
returns c = c.root_or_nan.ensures
