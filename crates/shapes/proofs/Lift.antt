-- The lift keeps whatever is not below the smallest normal number: every accepted radius, and NaN.
use mathlib.Core.Path.{◌≡◌, refl}
use mathlib.Core.Bool.{true, false}
use lib.Ieee.{Float, nan, lt}
use Rattle.rounding.specs.Extremes.{maximum}
use Rattle.shapes.specs.Limits.{smallest_normal, radius_in_range}
use Rattle.shapes.specs.Lift.{lift}
use Rattle.shapes.proofs.Limits.{accepted_not_below}

pub lift_keeps : (r : Float) → lt r smallest_normal ≡ false → lift r ≡ r
unfolding lift maximum
lift_keeps r h = rw h

pub lift_keeps_accepted : (r : Float) → radius_in_range r ≡ true → lift r ≡ r
lift_keeps_accepted r h = lift_keeps r (accepted_not_below r h)

pub lift-nan : lift nan ≡ nan
unfolding lt
lift-nan = lift_keeps nan refl
