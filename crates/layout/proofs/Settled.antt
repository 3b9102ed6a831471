-- The layout centred, and settled in its container: the lists moved on each axis show the circles that scope's definitions have.
use mathlib.Core.Path.{◌≡◌, refl, ap}
use mathlib.Core.Bool.{Bool, true, false, cond, or_assoc}
use mathlib.Core.List.{List}
use lib.ListN.{length}
use lib.Ieee.{Float, neg}
use Rattle.rounding.specs.Extremes.{maximum}
use Rattle.shapes.specs.declared.circle.Circle.{Circle}
use Rattle.shapes.specs.declared.rectangle.Rectangle.{Rectangle}
use Rattle.scope.specs.Numbers.{◌+ᶠ◌, ◌-ᶠ◌, ◌*ᶠ◌, ◌/ᶠ◌, ◌<ᶠ◌, one, two, e_9}
use Rattle.scope.specs.Runs.{always}
use Rattle.scope.specs.Container.{reaches_past, centred_in, settled}
use Rattle.scope.specs.Centring.{centred_layout}
use Rattle.scope.specs.Padding.{box_all}
use Rattle.intake.specs.Columns.{circles_of, Lifted}
use Rattle.intake.proofs.Columns.{length_shown, translated_shown}
use Rattle.layout.specs.Ranges.{range_of_all, middle_of, moved_back, centred_on}
use Rattle.layout.specs.Settling.{off, past, past_either, stays, along, at_origin}
use Rattle.layout.specs.declared.axis.Range.{Range}
use Rattle.layout.proofs.Ranges.{circles-box}

module _ (xs ys rs : List Float) (even : length ys ≡ length xs) (lifted : Lifted rs) where
  abbrev cs : List Circle
  cs = circles_of xs ys rs

  -- the circles moved by -dx and -dy
  abbrev back : Float → Float → List Circle
  back dx dy = circles_of (moved_back dx xs) (moved_back dy ys) rs

  pub layout-centred : circles_of (centred_on xs rs) (centred_on ys rs) rs ≡ centred_layout cs
  unfolding centred_layout
  layout-centred = rw (circles-box always xs ys rs even) (translated_shown xs ys rs _ _ even lifted)

  module _ (width height : Float) where
    past_shown : reaches_past (at_origin width height) (box_all always cs) ≡ past_either width height (range_of_all xs rs) (range_of_all ys rs)
    unfolding reaches_past past_either
    past_shown =
        let halfW = width /ᶠ two in
        let halfH = height /ᶠ two in
        let tol = e_9 *ᶠ maximum (maximum halfW halfH) one in
        let up = range_of_all ys rs in
        rw (circles-box always xs ys rs even) (or_assoc (past (range_of_all xs rs) halfW tol) (up.low <ᶠ neg halfH -ᶠ tol) (halfH +ᶠ tol <ᶠ up.high))

    by_axes : (across up : Range) → across ≡ range_of_all xs rs → up ≡ range_of_all ys rs → cond (stays (length xs) width height across up) cs (back (middle_of across) (middle_of up)) ≡ centred_in (at_origin width height) cs
    unfolding centred_in stays
    by_axes across up e f =
        rw (e, f, past_shown, circles-box always xs ys rs even, length_shown xs ys rs)
        (ap (λ (l : List Circle). cond (stays (length xs) width height (range_of_all xs rs) (range_of_all ys rs)) cs l) (translated_shown xs ys rs _ _ even lifted))

    module _ (across up : Range) (e : across ≡ range_of_all xs rs) (f : up ≡ range_of_all ys rs) where
      pub circles_stay : stays (length xs) width height across up ≡ true → cs ≡ centred_in (at_origin width height) cs
      circles_stay h = rw h at (by_axes across up e f)

      pub circles-centred : stays (length xs) width height across up ≡ false → back (middle_of across) (middle_of up) ≡ centred_in (at_origin width height) cs
      circles-centred h = rw h at (by_axes across up e f)

  module _ (container : Rectangle) where
    abbrev cx : Float
    cx = container.center.x

    abbrev cy : Float
    cy = container.center.y

    abbrev sides : Rectangle
    sides = at_origin container.width container.height

    only_sides : (l : List Circle) → centred_in sides l ≡ centred_in container l
    unfolding centred_in reaches_past
    only_sides l = refl

    -- the circles gone along with the container, and then centred
    pub settled-along : centred_in sides (circles_of (along cx cy cx xs) (along cx cy cy ys) rs) ≡ (settled container cs).circles
    unfolding settled along
    settled-along = by_test (off cx cy) refl
      where
        by_test : (b : Bool) → off cx cy ≡ b → centred_in sides (circles_of (along cx cy cx xs) (along cx cy cy ys) rs) ≡ (settled container cs).circles
        by_test true h = rw (h, translated_shown xs ys rs (neg cx) (neg cy) even lifted)
        by_test false h = rw h (only_sides cs)
