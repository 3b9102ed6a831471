-- `centre` meets its contract.
use Rattle.layout.proofs.axis.centre.Goals as goal

pub returns : goal.returns
returns c = rw (c.to_origin.ensures, c.range_of.ensures)
