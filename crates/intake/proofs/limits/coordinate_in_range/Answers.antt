-- `coordinate_in_range` meets its contract: the constant's pattern is 2^20.
use lib.Ieee.{of_bits}
use Rattle.scope.specs.Limits.{coordinate_ok, within}
use Rattle.intake.proofs.limits.coordinate_in_range.Goals as goal

pub returns-then-x : goal.returns-then-x
unfolding coordinate_ok within of_bits
returns-then-x c = rw c.if-x.true

pub returns-else-x : goal.returns-else-x
unfolding coordinate_ok within of_bits
returns-else-x c = rw c.if-x.false
