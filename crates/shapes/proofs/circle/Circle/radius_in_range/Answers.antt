-- `Circle::radius_in_range` meets its contract: the constants' patterns are the two limits.
use lib.Ieee.{of_bits}
use Rattle.shapes.specs.Limits.{smallest_radius, largest_radius}
use Rattle.shapes.proofs.circle.Circle.radius_in_range.Goals as goal

pub returns-then-radius : goal.returns-then-radius
unfolding smallest_radius largest_radius of_bits
returns-then-radius c = rw c.if-radius.true

pub returns-else-radius : goal.returns-else-radius
unfolding smallest_radius largest_radius of_bits
returns-else-radius c = rw c.if-radius.false
