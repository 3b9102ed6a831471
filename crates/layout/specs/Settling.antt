-- The container's steps, an axis at a time.
use Rattle.std.specs.Prelude.{ℕ, Bool, ◌&&◌, ◌||◌, cond, List, eqb, Float}
use Rattle.std.specs.Float.Ieee.{neg}
use Rattle.rounding.specs.Extremes.{maximum}
use Rattle.shapes.specs.declared.rectangle.Rectangle.{Rectangle}
use Rattle.shapes.specs.Records.{point_at, rectangle_of}
use Rattle.scope.specs.Numbers.{◌+ᶠ◌, ◌-ᶠ◌, ◌*ᶠ◌, ◌/ᶠ◌, ◌<ᶠ◌, nought, one, two, e_9, e_12, abs}
use Rattle.layout.specs.Ranges.{middle_of, moved_back}
use Rattle.layout.specs.declared.axis.Range.{Range}

-- the two tests of a point against the origin
abbrev pub off : Float → Float → Bool
off x y = (e_12 <ᶠ abs x) || (e_12 <ᶠ abs y)

abbrev pub near : Float → Float → Bool
near x y = (abs x <ᶠ e_12) && (abs y <ᶠ e_12)

-- a range reaches past the half of a side, on either side of the origin
abbrev pub past : Range → Float → Float → Bool
past r half tol = (r.low <ᶠ neg half -ᶠ tol) || (half +ᶠ tol <ᶠ r.high)

unfoldable pub past_either : Float → Float → Range → Range → Bool
past_either width height across up =
    let halfW = width /ᶠ two in
    let halfH = height /ᶠ two in
    let tol = e_9 *ᶠ maximum (maximum halfW halfH) one in
    past across halfW tol || past up halfH tol

-- n circles stay where they are in a container of these sides
unfoldable pub stays : ℕ → Float → Float → Range → Range → Bool
stays n width height across up = eqb n 0 || past_either width height across up || near (middle_of across) (middle_of up)

-- a container that has gone to the origin; only its sides are looked at then
abbrev pub at_origin : Float → Float → Rectangle
at_origin width height = rectangle_of (point_at nought nought) width height

-- where a container stands after the call
unfoldable pub placed : Rectangle → Rectangle
placed container = cond (off container.center.x container.center.y) (at_origin container.width container.height) container

-- an axis of the circles that go along with a container at x and y, by -d
unfoldable pub along : Float → Float → Float → List Float → List Float
along x y d coords = cond (off x y) (moved_back d coords) coords
