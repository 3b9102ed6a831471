-- Circles as three lists of numbers of one length: their centres' x, their centres' y, their radii. The steps of a layout work on such lists, in place.
-- No step looks at an ink, so there the circles stand with ink 0; their inks are a fourth list, which is put on again at the end.
use Rattle.std.specs.Prelude.{ℕ, ◌≡◌, ◌-◌, Bool, cond, List, ◌++◌, get_or, length, drop, replicate, Float}
use Rattle.std.specs.Float.{nan}
use Rattle.shapes.specs.declared.circle.Circle.{Circle}
use Rattle.shapes.specs.declared.rectangle.Rectangle.{Rectangle}
use Rattle.shapes.specs.Records.{circle_of}
use Rattle.shapes.specs.Lift.{lift}
use Rattle.scope.specs.Numbers.{nought}
use Rattle.scope.specs.Runs.{tab}
use Rattle.scope.specs.Links.{circle}
use Rattle.scope.specs.Packing.{rectangle}
use Rattle.intake.specs.Limits.{max_circles}

-- the number at a place of a list; past the end, a NaN
abbrev pub at : List Float → ℕ → Float
at l i = get_or l i nan

-- a circle as the steps see it
abbrev pub bare_circle : Float → Float → Float → Circle
bare_circle x y r = circle_of x y r 0

-- the circles that the lists show
unfoldable pub circles_of : List Float → List Float → List Float → List Circle
circles_of xs ys rs = tab (length xs) (λ i. bare_circle (at xs i) (at ys i) (at rs i))

-- the lists of a run of circles
unfoldable pub xs_of : List Circle → List Float
xs_of cs = tab (length cs) (λ i. (circle cs i).center.x)

unfoldable pub ys_of : List Circle → List Float
ys_of cs = tab (length cs) (λ i. (circle cs i).center.y)

unfoldable pub radii_of : List Circle → List Float
radii_of cs = tab (length cs) (λ i. (circle cs i).radius)

-- the lists of a run of boxes
unfoldable pub widths_of : List Rectangle → List Float
widths_of rects = tab (length rects) (λ i. (rectangle rects i).width)

unfoldable pub heights_of : List Rectangle → List Float
heights_of rects = tab (length rects) (λ i. (rectangle rects i).height)

-- every number changed by f, which knows its place
abbrev pub each : (ℕ → Float → Float) → List Float → List Float
each f l = tab (length l) (λ i. f i (at l i))

-- the members' numbers changed
abbrev pub members : (ℕ → Bool) → (ℕ → Float → Float) → List Float → List Float
members member f l = each (λ i x. cond (member i) (f i x) x) l

-- radii that the lift leaves as they are, as all accepted ones
abbrev pub Lifted : List Float → Type 0
Lifted rs = (i : ℕ) → lift (at rs i) ≡ at rs i

-- a list written over the front of another
unfoldable pub overwritten : {A : Type 0} → List A → List A → List A
overwritten l m = l ++ drop (length l) m

-- an array of which no place from n on was written
abbrev pub NoughtFrom : ℕ → List Float → Type 0
NoughtFrom n l = drop n l ≡ replicate (max_circles - n) nought
