-- `raw_circle_distance` meets its contract: each way out knows how the test went.
use lib.Ieee.{of_bits}
use Rattle.scope.specs.Distance.{circle_distance}
use Rattle.geometry.proofs.circle.raw_circle_distance.Goals as goal

pub returns-then-s-d : goal.returns-then-s-d
unfolding circle_distance of_bits
returns-then-s-d c = rw (← c.raw_distance-d.ensures, c.if-s-d.true)

pub returns-else-s-d : goal.returns-else-s-d
unfolding circle_distance of_bits
returns-else-s-d c = rw (← c.raw_distance-d.ensures, c.if-s-d.false)
