-- `apart` meets its contract.
use mathlib.Core.Path.{◌∙◌}
use Rattle.geometry.proofs.Meeting.{hypot_is_distance}
use Rattle.geometry.proofs.lengths.apart.Goals as goal

pub returns : goal.returns
returns c = λ p q ex ey. c.hypot.ensures ∙ rw (← ex, ← ey) (hypot_is_distance p q)
