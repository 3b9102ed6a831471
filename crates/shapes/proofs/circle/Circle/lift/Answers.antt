-- `Circle::lift` meets its contract: the constant's pattern is the smallest normal number.
use lib.Ieee.{of_bits}
use Rattle.shapes.specs.Limits.{smallest_normal}
use Rattle.shapes.specs.Lift.{lift}
use Rattle.shapes.proofs.circle.Circle.lift.Goals as goal

pub returns : goal.returns
unfolding lift of_bits smallest_normal
returns c = c.maximum.ensures
