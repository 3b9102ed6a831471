-- `raw_contains_point` meets its contract.
use mathlib.Core.Path.{refl}
use Rattle.geometry.proofs.circle.raw_contains_point.Goals as goal

pub returns : goal.returns
returns c = c.covers.ensures _ _ refl refl refl
