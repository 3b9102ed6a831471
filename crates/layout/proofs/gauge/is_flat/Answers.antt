-- `is_flat` meets its contract.
use lib.Ieee.{of_bits}
use Rattle.scope.specs.Numbers.{e_10}
use Rattle.layout.proofs.gauge.is_flat.Goals as goal

pub returns-then-dx : goal.returns-then-dx
unfolding e_10 of_bits
returns-then-dx c = rw (c.if-dx.true, ← c.absolute.ensures)

pub returns-else-dx : goal.returns-else-dx
unfolding e_10 of_bits
returns-else-dx c = rw c.if-dx.false
