-- The whole answer for boxes of given sides: refused, or the boxes put together again from their sides and the places of their centres.
use Rattle.std.proofs.Common.{◌≡◌, ℕ, ◌<◌, ◌≤◌, true, not, ◌||◌, T, List, length, take, drop, sym, refl, ap, ◌∙◌, get_or-take, ext_get_or, take_all}
use lib.ListN.{get_or-append}
use lib.Ieee.{Float, nan}
use Rattle.shapes.specs.declared.rectangle.Rectangle.{Rectangle}
use Rattle.shapes.specs.Records.{rectangle_of}
use Rattle.scope.specs.Runs.{tab, filled, any}
use Rattle.scope.specs.Limits.{circle_cap, side_ok, proportion_ok}
use Rattle.scope.specs.Refusals.{causes, cause_holds, first, refusal, too_many, bad_side, pack_refusal}
use Rattle.scope.specs.Packing.{Packing, no_rectangle, rectangle, packed, refused_packing, accepted_packing, packing, skyline_pack}
use Rattle.laws.proofs.Cases.{is_false}
use Rattle.laws.proofs.Accepted.{not_too_many_iff, not_bad_proportion_iff}
use Rattle.laws.proofs.EntryPoints.{pack_reads}
use Rattle.laws.proofs.Runs.{length-tab, get_or_tab}
use Rattle.intake.specs.Limits.{max_circles}
use Rattle.intake.specs.Columns.{at, overwritten, widths_of, heights_of}
use Rattle.laws.specs.Answers.{Answers}
use Rattle.laws.proofs.AfterRefusal.{packing-answers}
use Rattle.laws.proofs.Counted.{few, by_many, none-counted}
use Rattle.laws.proofs.ByValue.{unless-many}
use Rattle.intake.proofs.Columns.{any-either, not_both, width_at_lem, height_at_lem}
use Rattle.packing.specs.Sides.{sided, sides_number, sided_packing, centre_xs, centre_ys, box_at, Sides}
use Rattle.packing.proofs.Packings.{sided_sides, length-packed, packed_by_sides, boxed_at}

-- ---- a list over the front of another
front_at : (l m : List Float) (i : ℕ) → i < length l → at (overwritten l m) i ≡ at l i
unfolding overwritten
front_at l m i h = get_or-append l (drop (length l) m) nan i h

-- ---- refused or accepted
module _ (n : ℕ) (ws hs : List Float) (pad proportion : Float) where
  pub sided-answers :
      Answers (λ (a : Packing). a.refusal) (sides_number n ws hs pad proportion) (sided_packing n ws hs pad proportion) refused_packing (accepted_packing (packed proportion (sided n ws hs) pad))
  unfolding sides_number sided_packing
  sided-answers = unless-many (too_many n) (λ k. refl) (packing-answers (sided n ws hs) pad proportion)

  pub accepted_few : sides_number n ws hs pad proportion ≡ 0 → n ≤ max_circles
  unfolding sides_number circle_cap
  accepted_few z = (none-counted n (pack_refusal (sided n ws hs) pad proportion) z).1

  pub accepted_proportion : sides_number n ws hs pad proportion ≡ 0 → T (proportion_ok proportion)
  unfolding sides_number
  accepted_proportion z =
      let each = (pack_reads (sided n ws hs) pad proportion).accepted.0 (none-counted n (pack_refusal (sided n ws hs) pad proportion) z).2 in
      (not_bad_proportion_iff proportion).0 each.1.1.1.0

  -- ---- the boxes from their sides and the places of their centres
  abbrev boxes : List Rectangle
  boxes = packed proportion (sided n ws hs) pad

  length-boxes : length boxes ≡ n
  length-boxes = length-packed n ws hs (sided n ws hs) (sided_sides n ws hs) pad proportion

  module _ (xs ys : List Float) where
    x_at : (i : ℕ) → i < n → at (overwritten (centre_xs boxes) xs) i ≡ (rectangle boxes i).center.x
    unfolding centre_xs
    x_at i h =
        let long : length (centre_xs boxes) ≡ n = length-tab (length boxes) (λ k. (rectangle boxes k).center.x) ∙ length-boxes in
        front_at (centre_xs boxes) xs i (rw long h) ∙ get_or_tab (length boxes) (λ k. (rectangle boxes k).center.x) i nan (rw length-boxes h)

    y_at : (i : ℕ) → i < n → at (overwritten (centre_ys boxes) ys) i ≡ (rectangle boxes i).center.y
    unfolding centre_ys
    y_at i h =
        let long : length (centre_ys boxes) ≡ n = length-tab (length boxes) (λ k. (rectangle boxes k).center.y) ∙ length-boxes in
        front_at (centre_ys boxes) ys i (rw long h) ∙ get_or_tab (length boxes) (λ k. (rectangle boxes k).center.y) i nan (rw length-boxes h)

    pub boxes-back : tab n (box_at (overwritten (centre_xs boxes) xs) (overwritten (centre_ys boxes) ys) ws hs) ≡ boxes
    boxes-back =
        ext_get_or no_rectangle _ boxes (length-tab n _ ∙ sym length-boxes) (λ i g.
        let h : i < n = rw (length-tab n (box_at (overwritten (centre_xs boxes) xs) (overwritten (centre_ys boxes) ys) ws hs)) at g in
        let s = sided_sides n ws hs in
        get_or_tab n _ i no_rectangle h ∙ rw (x_at i h, y_at i h) (sym (sides_kept i h)))
      where
        sides_kept : (i : ℕ) → i < n → rectangle boxes i ≡ rectangle_of (rectangle boxes i).center (at ws i) (at hs i)
        sides_kept i h = boxed_at n ws hs (sided n ws hs) (sided_sides n ws hs) pad proportion i h

  -- what the code puts together is the answer
  pub put_together : (xs ys xs' ys' : List Float) (rects : List Rectangle) → sides_number n ws hs pad proportion ≡ 0
      → xs' ≡ overwritten (centre_xs boxes) xs → ys' ≡ overwritten (centre_ys boxes) ys → rects ≡ filled circle_cap no_rectangle (tab n (box_at xs' ys' ws hs))
      → record { refusal = 0; rectangles = rects } ≡ sided_packing n ws hs pad proportion
  put_together xs ys xs' ys' rects none x y e =
      ap (λ (l : List Rectangle). record { refusal = 0; rectangles = l }) (e ∙ rw (x, y, boxes-back xs ys)) ∙ sym (sided-answers.on_acceptance none)

-- ---- only the sides matter
by_lists : {k : ℕ} {ws hs : List Float} (l : List Rectangle) → Sides k ws hs l → any bad_side l ≡ any (λ x. not (side_ok x)) (tab k (at ws)) || any (λ x. not (side_ok x)) (tab k (at hs))
unfolding bad_side
by_lists {k} {ws} {hs} l t =
    let w = length-tab k (at ws) in
    any-either bad_side (λ x. not (side_ok x)) l no_rectangle (tab k (at ws)) (tab k (at hs)) (t.long ∙ sym w) (length-tab k (at hs) ∙ sym w)
    (λ i h. let g : i < k = rw w at h in rw (t.wide i g, t.high i g, get_or_tab k (at ws) i nan g, get_or_tab k (at hs) i nan g) (not_both (side_ok (at ws i)) (side_ok (at hs i))))

module _ (k : ℕ) (ws hs : List Float) (rects : List Rectangle) (s : Sides k ws hs rects) (pad proportion : Float) where
  pub same_boxes : packed proportion rects pad ≡ packed proportion (sided k ws hs) pad
  same_boxes = packed_by_sides k ws hs rects s pad proportion ∙ sym (packed_by_sides k ws hs (sided k ws hs) (sided_sides k ws hs) pad proportion)

  same_side : any bad_side rects ≡ any bad_side (sided k ws hs)
  same_side = by_lists rects s ∙ sym (by_lists (sided k ws hs) (sided_sides k ws hs))

  pub same_number : pack_refusal rects pad proportion ≡ pack_refusal (sided k ws hs) pad proportion
  unfolding pack_refusal
  same_number = rw (s.long, (sided_sides k ws hs).long, same_side)

  -- so boxes that are accepted are accepted by their sides
  pub sides_accepted : k ≤ max_circles → pack_refusal rects pad proportion ≡ 0 → sides_number k ws hs pad proportion ≡ 0
  unfolding sides_number circle_cap
  sides_accepted l h = rw (is_false (too_many k) ((not_too_many_iff k).1 l)) (sym same_number ∙ h)

  pub packing_by_sides : skyline_pack rects pad proportion ≡ skyline_pack (sided k ws hs) pad proportion
  unfolding skyline_pack pack_refusal
  packing_by_sides = rw (s.long, (sided_sides k ws hs).long, same_side, same_boxes)

-- ---- a run whose sides stand in two lists, unless there are too many boxes
many-refused : (rects : List Rectangle) (pad proportion : Float) → too_many (length rects) ≡ true → refused_packing 1 ≡ skyline_pack rects pad proportion
unfolding skyline_pack pack_refusal refusal first cause_holds causes packing
many-refused rects pad proportion h = rw h

in_columns : (rects : List Rectangle) (ws hs : List Float) → take (length rects) ws ≡ widths_of rects → take (length rects) hs ≡ heights_of rects
    → Sides (length rects) ws hs rects
in_columns rects ws hs w h = record {
  long = refl;
  wide = λ i g. sym (sym (get_or-take (length rects) ws i nan g) ∙ rw w (width_at_lem rects i g));
  high = λ i g. sym (sym (get_or-take (length rects) hs i nan g) ∙ rw h (height_at_lem rects i g));
}

pub by_columns : (rects : List Rectangle) (k : ℕ) (ws hs : List Float) (pad proportion : Float) → k ≡ length (take max_circles rects)
    → take k ws ≡ widths_of (take max_circles rects) → take k hs ≡ heights_of (take max_circles rects)
    → sided_packing (length rects) ws hs pad proportion ≡ skyline_pack rects pad proportion
unfolding sided_packing circle_cap
by_columns rects k ws hs pad proportion e w h =
    by_many (length rects) (λ t. rw t (many-refused rects pad proportion t)) (λ t.
    let all : take max_circles rects ≡ rects = take_all max_circles rects (few (length rects) t) in
    rw t (sym (packing_by_sides _ _ _ rects (in_columns rects ws hs (rw (e, all) at w) (rw (e, all) at h)) pad proportion)))
