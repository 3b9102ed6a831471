-- `diagonal` meets its contract, step by step.
use Rattle.scope.specs.Offset.{diagonal}
use Rattle.layout.proofs.offset.diagonal.Goals as goal

pub returns : goal.returns
unfolding diagonal
returns c = rw (c.magnitude.ensures, c.bounds-b.ensures)
