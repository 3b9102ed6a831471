-- `is_past` meets its contract.
use Rattle.layout.proofs.settling.is_past.Goals as goal

pub returns-then-r-half : goal.returns-then-r-half
returns-then-r-half c = rw c.if-r-half.true

pub returns-else-r-half : goal.returns-else-r-half
returns-else-r-half c = rw c.if-r-half.false
