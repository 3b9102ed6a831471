-- `is_still` meets its contract.
use lib.Ieee.{of_bits}
use Rattle.layout.proofs.gauge.is_still.Goals as goal

pub returns-then-dx : goal.returns-then-dx
unfolding of_bits
returns-then-dx c = rw c.if-dx.true

pub returns-else-dx : goal.returns-else-dx
unfolding of_bits
returns-else-dx c = rw c.if-dx.false
