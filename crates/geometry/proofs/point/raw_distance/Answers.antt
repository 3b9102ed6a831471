-- `raw_distance` meets its contract.
use mathlib.Core.Path.{refl}
use Rattle.geometry.proofs.point.raw_distance.Goals as goal

pub returns : goal.returns
returns c = c.apart.ensures _ _ refl refl
