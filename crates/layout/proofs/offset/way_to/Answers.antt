-- `way_to` meets its contract, step by step.
use mathlib.Core.Path.{refl}
use Rattle.scope.specs.Offset.{move}
use Rattle.layout.proofs.offset.way_to.Goals as goal

pub returns : goal.returns
unfolding move
returns c = refl
