-- `overlap` meets its contract: what is said of the distance and the radii is said of the circles.
use mathlib.Core.Path.{refl, ◌∙◌}
use Rattle.geometry.proofs.Meeting.{meeting_is_overlap}
use Rattle.geometry.proofs.circle.overlap.Goals as goal

pub returns : goal.returns
returns c = c.meets.ensures ∙ rw (c.apart.ensures _ _ refl refl) (meeting_is_overlap _ _)
