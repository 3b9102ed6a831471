-- `contains_at` meets its contract, step by step.
use Rattle.scope.specs.Offset.{contains_at}
use Rattle.layout.proofs.offset.contains_at.Goals as goal

pub returns : goal.returns
unfolding contains_at
returns c = rw (c.encloses.ensures, c.child_at.ensures)
