-- `stays` meets its contract: the three cases in turn.
use borrow.Author.Tests.{eq-eqb, ne_eqb}
use Rattle.layout.specs.Settling.{stays}
use Rattle.layout.proofs.settling.stays.Goals as goal

pub returns-then-n-eq0 : goal.returns-then-n-eq0
unfolding stays
returns-then-n-eq0 c = rw (eq-eqb _ 0 c.if-n-eq0.true)

pub returns-then-reaches_past : goal.returns-then-reaches_past
unfolding stays
returns-then-reaches_past c = rw (ne_eqb _ 0 c.if-n-eq0.false, ← c.reaches_past.ensures, c.if-reaches_past.true)

pub returns-else-reaches_past : goal.returns-else-reaches_past
unfolding stays
returns-else-reaches_past c =
    rw (ne_eqb _ 0 c.if-n-eq0.false, ← c.reaches_past.ensures, c.if-reaches_past.false, ← c.middle.ensures, ← c.middle-else-reaches_past.ensures, ← c.is_near.ensures)
