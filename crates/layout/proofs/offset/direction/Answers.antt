-- `direction` meets its contract: each way out knows how the test went.
use lib.Ieee.{of_bits}
use Rattle.scope.specs.Numbers.{e_9}
use Rattle.scope.specs.Offset.{direction}
use Rattle.layout.proofs.offset.direction.Goals as goal

pub returns-then-maximum-mag : goal.returns-then-maximum-mag
unfolding direction e_9 of_bits
returns-then-maximum-mag c =
    rw (← c.magnitude-mag.ensures, ← c.diagonal.ensures, ← c.maximum.ensures, c.if-maximum-mag.true)

pub returns : goal.returns
unfolding direction e_9 of_bits
returns c =
    rw (← c.magnitude-mag.ensures, ← c.diagonal.ensures, ← c.maximum.ensures, c.if-maximum-mag.false)
