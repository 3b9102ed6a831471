-- `Bounds::union` meets its contract, by those of `minimum` and `maximum`.
use Rattle.shapes.proofs.bounds.Bounds.union.Goals as goal

pub returns : goal.returns
returns c = rw (c.maximum-2.ensures, c.minimum-2.ensures, c.maximum.ensures, c.minimum.ensures)
