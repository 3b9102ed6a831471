-- `there` meets its contract.
use lib.Ieee.{of_bits}
use Rattle.scope.specs.Numbers.{e_9}
use Rattle.scope.specs.Offset.{there}
use Rattle.layout.proofs.offset.there.Goals as goal

pub returns : goal.returns
unfolding there e_9 of_bits
returns c = rw (c.magnitude.ensures, c.maximum.ensures)
