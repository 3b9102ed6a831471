-- `placed` meets its contract.
use lib.Ieee.{of_bits}
use Rattle.layout.specs.Settling.{placed}
use Rattle.layout.proofs.settling.placed.Goals as goal

pub returns-then-is_off : goal.returns-then-is_off
unfolding placed of_bits
returns-then-is_off c = rw (← c.is_off.ensures, c.if-is_off.true, c.new-then-is_off.ensures, c.new.ensures)

pub returns : goal.returns
unfolding placed
returns c = rw (← c.is_off.ensures, c.if-is_off.false)
