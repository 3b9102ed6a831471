-- `raw_intersects` meets its contract.
use Rattle.scope.specs.Distance.{intersects}
use Rattle.geometry.proofs.circle.raw_intersects.Goals as goal

pub returns : goal.returns
unfolding intersects
returns c = rw (c.crossing.ensures, c.raw_distance.ensures)
