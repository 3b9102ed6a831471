-- `to_origin` meets its contract.
use Rattle.layout.proofs.axis.to_origin.Goals as goal

pub returns : goal.returns
returns c = rw (c.translate.ensures, c.middle.ensures)
