-- `minimum` meets its contract: each way out knows how the test went.
use Rattle.rounding.specs.Extremes.{minimum}
use Rattle.shapes.proofs.extremes.minimum.Goals as goal

pub returns-then-y-x : goal.returns-then-y-x
unfolding minimum
returns-then-y-x c = rw c.if-y-x.true

pub returns-else-y-x : goal.returns-else-y-x
unfolding minimum
returns-else-y-x c = rw c.if-y-x.false
