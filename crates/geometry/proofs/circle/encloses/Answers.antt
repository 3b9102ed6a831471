-- `encloses` meets its contract.
use Rattle.scope.specs.Distance.{contains}
use Rattle.geometry.proofs.circle.encloses.Goals as goal

pub returns : goal.returns
unfolding contains
returns c = rw (c.within.ensures, c.raw_distance.ensures)
