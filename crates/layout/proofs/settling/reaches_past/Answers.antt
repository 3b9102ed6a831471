-- `reaches_past` meets its contract: one axis, then the other.
use lib.Ieee.{of_bits}
use Rattle.scope.specs.Numbers.{e_9}
use Rattle.layout.specs.Settling.{past_either}
use Rattle.layout.proofs.settling.reaches_past.Goals as goal

pub returns-then-is_past : goal.returns-then-is_past
unfolding past_either e_9 of_bits
returns-then-is_past c =
    rw (← c.maximum.ensures, ← c.maximum-tolerance.ensures, ← c.is_past.ensures, c.if-is_past.true)

pub returns-else-is_past : goal.returns-else-is_past
unfolding past_either e_9 of_bits
returns-else-is_past c =
    rw (← c.maximum.ensures, ← c.maximum-tolerance.ensures, ← c.is_past.ensures, c.if-is_past.false, ← c.is_past-else-is_past.ensures)
