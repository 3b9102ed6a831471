-- `maximum` meets its contract: each way out knows how the test went.
use Rattle.rounding.specs.Extremes.{maximum}
use Rattle.shapes.proofs.extremes.maximum.Goals as goal

pub returns-then-x-y : goal.returns-then-x-y
unfolding maximum
returns-then-x-y c = rw c.if-x-y.true

pub returns-else-x-y : goal.returns-else-x-y
unfolding maximum
returns-else-x-y c = rw c.if-x-y.false
