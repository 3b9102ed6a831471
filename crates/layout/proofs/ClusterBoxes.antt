-- The boxes of the clusters as lists of numbers: ranges of all clusters in one pass, and what the middles, lengths, padding and shift made of them stand for.
use Prim.Native.Nat.{ℕ, zero, suc, ◌+◌, ◌≤◌, ◌<◌}
use native.Mathlib.Numerals.{add-one}
use native.Mathlib.Decide.{ℕ_discrete}
use mathlib.Core.Path.{◌≡◌, refl, sym, ap, ◌∙◌}
use mathlib.Core.Bool.{cond}
use mathlib.Core.List.{List, ◌∷◌}
use lib.Dec.{ltb}
use lib.ListN.{length, get_or, set, length-set, replicate}
use lib.Seq.{ext_get_or, get_or-set_same, get_or-set_other}
use lib.Ieee.{Float, nan, binary64}
use borrow.Author.Tests.{lt-ltb, le-ltb}
use Rattle.rounding.specs.Root.{root}
use Rattle.shapes.specs.declared.circle.Circle.{Circle}
use Rattle.shapes.specs.declared.rectangle.Rectangle.{Rectangle}
use Rattle.shapes.specs.Records.{point_at, rectangle_of}
use Rattle.scope.specs.Numbers.{◌+ᶠ◌, ◌-ᶠ◌, ◌*ᶠ◌, nought}
use Rattle.scope.specs.Runs.{tab, gather, always}
use Rattle.scope.specs.Gauge.{in_cluster, middle}
use Rattle.scope.specs.Links.{circle}
use Rattle.scope.specs.Offset.{translated}
use Rattle.scope.specs.Packing.{no_rectangle, rectangle, rectangle_area, packed}
use Rattle.scope.specs.Padding.{as_rectangle, boxes, padding, shift, shifted, pack_clusters}
use Rattle.laws.proofs.Runs.{length-tab, get_or_tab, tab_equal, gather-takes, gather-leaves, gather_equal}
use Rattle.laws.proofs.Cases.{eqb_iff}
use Rattle.intake.specs.Columns.{at, circles_of, Lifted, widths_of, heights_of}
use Rattle.intake.proofs.Columns.{length_shown, shown_at, shown_equal}
use Rattle.layout.specs.Ranges.{range_of, middle_of}
use Rattle.packing.specs.Sides.{centre_xs, centre_ys}
use Rattle.layout.specs.ClusterBoxes.{InClusters, lows_of, highs_of, middles_of, lengths_of, padding_for, shifted_by}
use Rattle.layout.proofs.Ranges.{circles-box}

-- ---- one circle more in the ranges of all clusters: its cluster's end is changed, and no other

constant : (n : ℕ) (z : Float) → replicate n z ≡ tab n (λ _. z)
unfolding tab
constant zero z = refl
constant (suc n) z = ap {B = List Float} (λ l. z ∷ l) (constant n z)

module _ (op : Float → Float → Float) (z : Float) (numbers : List ℕ) (count : ℕ) (f : ℕ → Float) where
  -- an end of each cluster's range, after i circles
  abbrev pub ends_after : ℕ → List Float
  ends_after i = tab count (λ a. gather op z (in_cluster numbers a) i f)

  pub ends-at_first : replicate count z ≡ ends_after 0
  unfolding gather
  ends-at_first = constant count z

  pub ends_next : (i : ℕ) {l : List Float} → get_or numbers i 0 < count → l ≡ ends_after i
      → set l (get_or numbers i 0) (op (at l (get_or numbers i 0)) (f i)) ≡ ends_after (i + 1)
  ends_next i {l} h e =
      let k = get_or numbers i 0 in
      let long : length l ≡ count = ap length e ∙ length-tab count (λ a. gather op z (in_cluster numbers a) i f) in
      let was : (a : ℕ) → a < count → at l a ≡ gather op z (in_cluster numbers a) i f = λ a b. rw e (get_or_tab count (λ a. gather op z (in_cluster numbers a) i f) a nan b) in
      let is : (a : ℕ) → a < count → at (ends_after (i + 1)) a ≡ gather op z (in_cluster numbers a) (i + 1) f = λ a b. get_or_tab count (λ a. gather op z (in_cluster numbers a) (i + 1) f) a nan b in
      ext_get_or nan _ (ends_after (i + 1)) (length-set l k _ ∙ long ∙ sym (length-tab count (λ a. gather op z (in_cluster numbers a) (i + 1) f))) (λ a b.
      let below : a < count = rw (length-set l k (op (at l k) (f i)), long) at b in
      rw (is a below, add-one i)
      (elim (ℕ_discrete a k) [
        | yes q ↦ rw (q, get_or-set_same l k (op (at l k) (f i)) nan (rw long h), was k h) (sym (gather-takes op z (in_cluster numbers k) i f ((eqb_iff k k).1 refl)))
        | no q ↦ rw (get_or-set_other l k a (op (at l k) (f i)) nan q, was a below) (sym (gather-leaves op z (in_cluster numbers a) i f (λ t. q (sym ((eqb_iff k a).0 t)))))
      ]))

-- ---- the lists of a run of boxes

module _ (rects : List Rectangle) where
  pub centre_x_at : (a : ℕ) → a < length rects → at (centre_xs rects) a ≡ (rectangle rects a).center.x
  unfolding centre_xs
  centre_x_at a h = get_or_tab (length rects) (λ b. (rectangle rects b).center.x) a nan h

  pub centre_y_at : (a : ℕ) → a < length rects → at (centre_ys rects) a ≡ (rectangle rects a).center.y
  unfolding centre_ys
  centre_y_at a h = get_or_tab (length rects) (λ b. (rectangle rects b).center.y) a nan h

  pub padding_shown : (factor : Float) → padding_for (widths_of rects) (heights_of rects) factor ≡ padding rects factor
  unfolding padding_for padding widths_of heights_of rectangle_area
  padding_shown factor =
      let n = length rects in
      rw (length-tab n (λ a. (rectangle rects a).width))
      (ap (λ (s : Float). cond (ltb n 2) nought (root binary64 s *ᶠ factor))
      (gather_equal ◌+ᶠ◌ nought always always n _ (λ a. rectangle_area (rectangle rects a)) (λ i h. refl)
      (λ i h. rw (get_or_tab n (λ a. (rectangle rects a).width) i nan h, get_or_tab n (λ a. (rectangle rects a).height) i nan h))))

-- ---- boxes of the circles shown

-- lists made of the ends of n ranges
module _ (n : ℕ) (low high : ℕ → Float) where
  middles_of_ends : middles_of (tab n low) (tab n high) ≡ tab n (λ a. middle (low a) (high a))
  middles_of_ends = rw (length-tab n low) (tab_equal n _ _ (λ a h. rw (get_or_tab n low a nan h, get_or_tab n high a nan h)))

  lengths_of_ends : lengths_of (tab n low) (tab n high) ≡ tab n (λ a. high a -ᶠ low a)
  lengths_of_ends = rw (length-tab n high) (tab_equal n _ _ (λ a h. rw (get_or_tab n low a nan h, get_or_tab n high a nan h)))

module _ (count : ℕ) (numbers : List ℕ) (xs ys rs : List Float) (even : length ys ≡ length xs) where
  abbrev rects : List Rectangle
  rects = boxes count numbers (circles_of xs ys rs)

  -- box a, by the ranges of cluster a
  abbrev box_by : ℕ → Rectangle
  box_by a =
      let across = range_of (in_cluster numbers a) xs rs in
      let up = range_of (in_cluster numbers a) ys rs in
      rectangle_of (point_at (middle_of across) (middle_of up)) (across.high -ᶠ across.low) (up.high -ᶠ up.low)

  boxes_by_ranges : rects ≡ tab count box_by
  unfolding boxes as_rectangle
  boxes_by_ranges = tab_equal count _ box_by (λ a h. rw (circles-box (in_cluster numbers a) xs ys rs even))

  -- a list made of the boxes
  of_boxes : (part : Rectangle → Float) → tab count (λ a. part (box_by a)) ≡ tab (length rects) (λ a. part (rectangle rects a))
  of_boxes part = rw (boxes_by_ranges, length-tab count box_by) (tab_equal count _ _ (λ a h. rw (get_or_tab count box_by a no_rectangle h)))

  pub middles_across : middles_of (lows_of count numbers xs rs) (highs_of count numbers xs rs) ≡ centre_xs rects
  unfolding centre_xs
  middles_across = middles_of_ends count _ _ ∙ of_boxes (λ r. r.center.x)

  pub middles_up : middles_of (lows_of count numbers ys rs) (highs_of count numbers ys rs) ≡ centre_ys rects
  unfolding centre_ys
  middles_up = middles_of_ends count _ _ ∙ of_boxes (λ r. r.center.y)

  pub lengths_across : lengths_of (lows_of count numbers xs rs) (highs_of count numbers xs rs) ≡ widths_of rects
  unfolding widths_of
  lengths_across = lengths_of_ends count _ _ ∙ of_boxes (λ r. r.width)

  pub lengths_up : lengths_of (lows_of count numbers ys rs) (highs_of count numbers ys rs) ≡ heights_of rects
  unfolding heights_of
  lengths_up = lengths_of_ends count _ _ ∙ of_boxes (λ r. r.height)

-- ---- the shift

-- each circle of the lists is moved as the centre of its cluster's box is
pub shift_shown : (numbers : List ℕ) (old new : List Rectangle) (xs ys rs : List Float) → length ys ≡ length xs → length numbers ≡ length xs → length new ≡ length old → InClusters (length old) numbers → Lifted rs
    → circles_of (shifted_by numbers (centre_xs old) (centre_xs new) xs) (shifted_by numbers (centre_ys old) (centre_ys new) ys) rs ≡ shifted numbers old new (circles_of xs ys rs)
unfolding shifted shift translated
shift_shown numbers old new xs ys rs even all same numbered lifted =
    let cs = circles_of xs ys rs in
    let moved : List Float → List Float → ℕ → Float → Float = λ olds news i x. x +ᶠ (at news (get_or numbers i 0) -ᶠ at olds (get_or numbers i 0)) in
    rw (length_shown xs ys rs)
    (shown_equal _ _ rs (length xs) (λ i. shift (rectangle old (get_or numbers i 0)) (rectangle new (get_or numbers i 0)) (circle cs i)) (length-tab (length xs) (λ i. moved (centre_xs old) (centre_xs new) i (at xs i)))
    (λ i h.
    let a = get_or numbers i 0 in
    let in-old : a < length old = numbered i (rw all h) in
    let in-new : a < length new = rw same in-old in
    rw (shown_at xs ys rs i h, lifted i, get_or_tab (length xs) (λ k. moved (centre_xs old) (centre_xs new) k (at xs k)) i nan h, get_or_tab (length ys) (λ k. moved (centre_ys old) (centre_ys new) k (at ys k)) i nan (rw even h), centre_x_at old a in-old, centre_x_at new a in-new, centre_y_at old a in-old, centre_y_at new a in-new)))

-- ---- the packed clusters

module _ (proportion : Float) (numbers : List ℕ) (rects : List Rectangle) (pad : Float) (cs : List Circle) where
  pub few_stay : length rects < 2 → cs ≡ pack_clusters proportion numbers rects pad cs
  unfolding pack_clusters
  few_stay h = rw (lt-ltb (length rects) 2 h)

  pub many-move : 2 ≤ length rects → shifted numbers rects (packed proportion rects pad) cs ≡ pack_clusters proportion numbers rects pad cs
  unfolding pack_clusters
  many-move h = rw (le-ltb (length rects) 2 h)
