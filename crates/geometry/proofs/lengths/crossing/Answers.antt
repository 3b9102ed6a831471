-- `crossing` meets its contract: below the sum of the radii, and above their difference.
use Rattle.geometry.proofs.lengths.crossing.Goals as goal

pub returns-then-d-a : goal.returns-then-d-a
returns-then-d-a c = rw (c.if-d-a.true, c.absolute.ensures)

pub returns-else-d-a : goal.returns-else-d-a
returns-else-d-a c = rw c.if-d-a.false
