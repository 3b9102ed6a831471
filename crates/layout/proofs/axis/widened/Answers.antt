-- `widened` meets its contract.
use Rattle.layout.proofs.axis.widened.Goals as goal

pub returns : goal.returns
returns c = rw (c.minimum.ensures, c.maximum.ensures)
