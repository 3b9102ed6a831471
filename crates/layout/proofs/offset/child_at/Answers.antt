-- `child_at` meets its contract, step by step.
use Rattle.scope.specs.Offset.{child_at, translated}
use Rattle.layout.proofs.offset.child_at.Goals as goal

pub returns : goal.returns
unfolding child_at translated
returns c = rw (c.moved_to.ensures, c.way_to-m.ensures)
