-- `meets` meets its contract. The first two tests are read as one.
use Rattle.geometry.proofs.lengths.meets.Goals as goal
use Rattle.geometry.proofs.lengths.meets.Goals.{then-crossing, else-crossing}

pub returns-then-within : goal.returns-then-within
returns-then-within c =
    rw (c.if-within.true, ← c.crossing.ensures)
    (elim c.if-crossing.branch [ then-crossing w ↦ rw w.if-crossing.true | else-crossing w ↦ rw (w.if-crossing.false, ← w.within.ensures, ← w.value-is, c.if-within.true) ])

pub returns-else-within : goal.returns-else-within
returns-else-within c =
    rw (← c.crossing.ensures)
    (elim c.if-crossing.branch [ then-crossing w ↦ cc | else-crossing w ↦ rw (w.if-crossing.false, ← w.within.ensures, ← w.value-is, c.if-within.false, c.within-else-within.ensures) ])
