-- Boxes of given sides in the grid: their lines, where their centres come to stand, and what packing answers for them. Only the sides matter.
use Rattle.std.proofs.Common.{◌≡◌, ℕ, ◌*◌, ◌/◌, ◌%◌, ◌<◌, ◌≤◌, Bool, true, false, cond, not, ◌||◌, T, List, [], ◌∷◌, ◌++◌, length, get_or, take, drop, sym, refl, ap, ◌∙◌, div-le_self, arith, length-take-le, get_or-take, le-ltb}
use native.Mathlib.Nat.{mod-le}
use mathlib.Core.Bool.{and-false}
use lib.Ieee.{Float, nan, inf, fin, lt, eq, up, down}
use Rattle.shapes.specs.Records.{point_at, rectangle_of}
use Rattle.shapes.specs.declared.rectangle.Rectangle.{Rectangle}
use Rattle.scope.specs.Numbers.{◌*ᶠ◌, nought}
use Rattle.scope.specs.Runs.{tab, any}
use Rattle.scope.specs.Limits.{side_ok, circle_cap}
use Rattle.scope.specs.Refusals.{front_to_back, too_many, bad_side, bad_padding, bad_proportion, pack_refusal}
use Rattle.scope.specs.Packing.{columns, before, place, placed, no_rectangle, rectangle, rectangle_area, places, column_of, row_of, width_at, height_at, placed_centre, packed}
use Rattle.laws.proofs.Runs.{length-tab, get_or_tab, tab_equal, many_equal, many_at_most, many_weaker_once}
use Rattle.intake.specs.Columns.{at, overwritten}
use Rattle.intake.specs.Limits.{max_circles}
use Rattle.intake.proofs.Columns.{any-either, not_both}
use Rattle.laws.proofs.Counted.{few, by_many}
use Rattle.intake.proofs.Checked.{boxes_in_order}
use Rattle.packing.specs.Sides.{sided, sides_number, centre_xs, centre_ys, Sides}
use Rattle.packing.specs.Lists.{At, Lined}
use Rattle.packing.proofs.Arrays.{at_all}
use Rattle.packing.proofs.Grid.{placed_equal}

place_equal : (n : ℕ) (area size : ℕ → Float) → ((i : ℕ) → i < n → area i ≡ size i) → (i : ℕ) → i < n → place n area i ≡ place n size i
unfolding place before
place_equal n area size e i h = many_equal n (before area i) (before size i) (λ j g. rw (e i h, e j g))

-- ---- no box goes before itself, whatever its area, so its place is below the count
not_below_itself : (x : Float) → lt x x ≡ false
unfolding lt
not_below_itself nan = refl
not_below_itself (inf true) = refl
not_below_itself (inf false) = refl
not_below_itself (fin true m e) = le-ltb (m * up e * down e) (m * up e * down e) (omega arith)
not_below_itself (fin false m e) = le-ltb (m * up e * down e) (m * up e * down e) (omega arith)

not_before_itself : (area : ℕ → Float) (i : ℕ) → ¬ T (before area i i)
unfolding before
not_before_itself area i t = (rw (not_below_itself (area i), le-ltb i i (omega arith), and-false (eq (area i) (area i))) at t)

place-below : (k : ℕ) (area : ℕ → Float) (i : ℕ) → i < k → place k area i < k
unfolding place
place-below k area i l = omega (arith, many_weaker_once (before area i) (λ a. true) k (λ a la t. tt) i l (not_before_itself area i) tt, many_at_most k (λ a. true))

-- ---- lines: a box's place is below the count, and so are its column and its row
module _ (proportion : Float) (k : ℕ) (area : ℕ → Float) (cols rows : List ℕ) (l : Lined proportion k (place k area) cols rows) (i : ℕ) (h : i < k) where
  pub column_inside : get_or cols i 0 < k
  column_inside = rw (l.across.is i h) (omega (arith, mod-le (place k area i) (columns k proportion), place-below k area i h))

  pub row_inside : get_or rows i 0 < k
  row_inside = rw (l.down.is i h) (omega (arith, div-le_self (place k area i) (columns k proportion), place-below k area i h))

-- ---- boxes of these sides
module _ (k : ℕ) (ws hs : List Float) where
  abbrev area : ℕ → Float
  area i = at ws i *ᶠ at hs i

  abbrev column : Float → ℕ → ℕ
  column proportion i = place k area i % columns k proportion

  abbrev row : Float → ℕ → ℕ
  row proportion i = place k area i / columns k proportion

  pub sided_sides : Sides k ws hs (sided k ws hs)
  unfolding sided
  sided_sides =
      let box : ℕ → Rectangle = λ i. rectangle_of (point_at nought nought) (at ws i) (at hs i) in
      record {
        long = length-tab k box;
        wide = λ i h. ap (λ (r : Rectangle). r.width) (get_or_tab k box i no_rectangle h);
        high = λ i h. ap (λ (r : Rectangle). r.height) (get_or_tab k box i no_rectangle h);
      }

  module _ (rects : List Rectangle) (s : Sides k ws hs rects) (pad proportion : Float) where
    listed-place : (i : ℕ) → i < k → get_or (places rects) i 0 ≡ place k area i
    unfolding places rectangle_area
    listed-place i h =
        rw s.long
        (get_or_tab k (place k (λ b. get_or (tab k (λ j. rectangle_area (rectangle rects j))) b nought)) i 0 h
        ∙ place_equal k _ area (λ j g. get_or_tab k (λ b. rectangle_area (rectangle rects b)) j nought g ∙ rw (s.wide j g, s.high j g)) i h)

    in_columns : (i : ℕ) → i < k → placed k (column_of (columns k proportion) (places rects)) (width_at rects) pad i ≡ placed k (column proportion) (at ws) pad i
    in_columns i h = placed_equal k (column_of (columns k proportion) (places rects)) (column proportion) (width_at rects) (at ws) pad (λ b g. ap (λ (p : ℕ). p % columns k proportion) (listed-place b g)) s.wide i h

    in_rows : (i : ℕ) → i < k → placed k (row_of (columns k proportion) (places rects)) (height_at rects) pad i ≡ placed k (row proportion) (at hs) pad i
    in_rows i h = placed_equal k (row_of (columns k proportion) (places rects)) (row proportion) (height_at rects) (at hs) pad (λ b g. ap (λ (p : ℕ). p / columns k proportion) (listed-place b g)) s.high i h

    abbrev boxed : ℕ → Rectangle
    boxed i = rectangle_of (placed_centre (columns k proportion) (places rects) rects pad i) (width_at rects i) (height_at rects i)

    packed_is : packed proportion rects pad ≡ tab k boxed
    unfolding packed
    packed_is = rw s.long

    pub length-packed : length (packed proportion rects pad) ≡ k
    length-packed = rw packed_is (length-tab k boxed)

    packed_at : (i : ℕ) → i < k → rectangle (packed proportion rects pad) i ≡ boxed i
    packed_at i h = rw packed_is (get_or_tab k boxed i no_rectangle h)

    -- a packed box keeps its sides
    pub boxed_at : (i : ℕ) → i < k → rectangle (packed proportion rects pad) i ≡ rectangle_of (rectangle (packed proportion rects pad) i).center (at ws i) (at hs i)
    boxed_at i h = rw (packed_at i h, s.wide i h, s.high i h)

    -- the boxes, by their sides alone
    pub packed_by_sides : packed proportion rects pad ≡ tab k (λ i. rectangle_of (point_at (placed k (column proportion) (at ws) pad i) (placed k (row proportion) (at hs) pad i)) (at ws i) (at hs i))
    unfolding placed_centre
    packed_by_sides =
        packed_is
        ∙ tab_equal k _ _ (λ i h. rw (s.long, s.wide i h, s.high i h, in_columns i h, in_rows i h))

    pub centre_xs_lem : centre_xs (packed proportion rects pad) ≡ tab k (placed k (column proportion) (at ws) pad)
    unfolding centre_xs placed_centre
    centre_xs_lem = rw length-packed (tab_equal k _ _ (λ i h. rw (packed_at i h, s.long) (in_columns i h)))

    pub centre_ys_lem : centre_ys (packed proportion rects pad) ≡ tab k (placed k (row proportion) (at hs) pad)
    unfolding centre_ys placed_centre
    centre_ys_lem = rw length-packed (tab_equal k _ _ (λ i h. rw (packed_at i h, s.long) (in_rows i h)))

  -- ---- what the code finds
  module _ (pad proportion : Float) (areas : List Float) (a : At k areas nan area) (cols rows : List ℕ) (l : Lined proportion k (place k (at areas)) cols rows) where
    same_place : (i : ℕ) → i < k → place k (at areas) i ≡ place k area i
    same_place i h = place_equal k (at areas) area a.is i h

    pub found_xs : (xs : List Float) → length xs ≡ k → At k xs nan (placed k (λ b. get_or cols b 0) (at ws) pad) → xs ≡ centre_xs (packed proportion (sided k ws hs) pad)
    found_xs xs long x =
        at_all nan _ k xs long x
        ∙ tab_equal k _ _ (placed_equal k (λ b. get_or cols b 0) (column proportion) (at ws) (at ws) pad (λ b g. l.across.is b g ∙ ap (λ (p : ℕ). p % columns k proportion) (same_place b g)) (λ b g. refl))
        ∙ sym (centre_xs_lem (sided k ws hs) sided_sides pad proportion)

    pub found_ys : (ys : List Float) → length ys ≡ k → At k ys nan (placed k (λ b. get_or rows b 0) (at hs) pad) → ys ≡ centre_ys (packed proportion (sided k ws hs) pad)
    found_ys ys long y =
        at_all nan _ k ys long y
        ∙ tab_equal k _ _ (placed_equal k (λ b. get_or rows b 0) (row proportion) (at hs) (at hs) pad (λ b g. l.down.is b g ∙ ap (λ (p : ℕ). p / columns k proportion) (same_place b g)) (λ b g. refl))
        ∙ sym (centre_ys_lem (sided k ws hs) sided_sides pad proportion)

-- ---- the front of longer lists
module _ (n : ℕ) (ws hs : List Float) (w : n ≤ length ws) (h : n ≤ length hs) where
  sided-front : sided (length (take n ws)) (take n ws) (take n hs) ≡ sided n ws hs
  unfolding sided
  sided-front = rw (length-take-le n ws w) (tab_equal n _ _ (λ i g. rw (get_or-take n ws i nan g, get_or-take n hs i nan g)))

  length-placed : (pad proportion : Float) → length (packed proportion (sided n ws hs) pad) ≡ n
  length-placed pad proportion = length-packed n ws hs (sided n ws hs) (sided_sides n ws hs) pad proportion

  pub length_xs : (pad proportion : Float) → length (centre_xs (packed proportion (sided n ws hs) pad)) ≡ n
  unfolding centre_xs
  length_xs pad proportion = length-tab (length (packed proportion (sided n ws hs) pad)) (λ i. (rectangle (packed proportion (sided n ws hs) pad) i).center.x) ∙ length-placed pad proportion

  pub length_ys : (pad proportion : Float) → length (centre_ys (packed proportion (sided n ws hs) pad)) ≡ n
  unfolding centre_ys
  length_ys pad proportion = length-tab (length (packed proportion (sided n ws hs) pad)) (λ i. (rectangle (packed proportion (sided n ws hs) pad) i).center.y) ∙ length-placed pad proportion

  -- what the grid of the front leaves of a longer list
  pub front_xs : (pad proportion : Float) (xs new : List Float) → new ≡ centre_xs (packed proportion (sided (length (take n ws)) (take n ws) (take n hs)) pad)
      → new ++ drop n xs ≡ overwritten (centre_xs (packed proportion (sided n ws hs) pad)) xs
  unfolding overwritten
  front_xs pad proportion xs new e = rw (length_xs pad proportion) (ap (λ (l : List Float). l ++ drop n xs) (rw sided-front at e))

  pub front_ys : (pad proportion : Float) (ys new : List Float) → new ≡ centre_ys (packed proportion (sided (length (take n ws)) (take n ws) (take n hs)) pad)
      → new ++ drop n ys ≡ overwritten (centre_ys (packed proportion (sided n ws hs) pad)) ys
  unfolding overwritten
  front_ys pad proportion ys new e = rw (length_ys pad proportion) (ap (λ (l : List Float). l ++ drop n ys) (rw sided-front at e))

-- ---- the number that comes back
module _ (n : ℕ) (ws hs : List Float) (pad proportion : Float) (w : length ws ≡ max_circles) (h : length hs ≡ max_circles) where
  abbrev long : Float → Bool
  long x = not (side_ok x)

  any_side : n ≤ max_circles → any bad_side (sided n ws hs) ≡ any long (take n ws) || any long (take n hs)
  unfolding bad_side
  any_side l =
      let k = length-take-le n ws (omega arith) in
      let s = sided_sides n ws hs in
      any-either bad_side long (sided n ws hs) no_rectangle (take n ws) (take n hs) (s.long ∙ sym k) (length-take-le n hs (omega arith) ∙ sym k)
      (λ i g. let below : i < n = rw k at g in
      rw (s.wide i below, s.high i below, get_or-take n ws i nan below, get_or-take n hs i nan below) (not_both (side_ok (at ws i)) (side_ok (at hs i))))

  pub sides_number_lem :
      front_to_back
      ((1, too_many n) ∷ (7, any long (take (cond (too_many n) 0 n) ws)) ∷ (7, any long (take (cond (too_many n) 0 n) hs)) ∷ (8, bad_padding pad) ∷ (16, bad_proportion proportion) ∷ [])
      ≡ sides_number n ws hs pad proportion
  unfolding sides_number pack_refusal circle_cap front_to_back
  sides_number_lem = by_many n (λ e. rw e) (λ e.
      let l : n ≤ max_circles = few n e in
      rw ((sided_sides n ws hs).long, e, any_side l, boxes_in_order))
