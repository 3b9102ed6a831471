-- The clusters packed by lists that are longer than there are clusters: only the front of the lists matters.
use Prim.Native.Nat.{ℕ, ◌≤◌, ◌<◌}
use mathlib.Core.Path.{◌≡◌, sym, ap, ◌∙◌}
use mathlib.Core.Bool.{cond}
use mathlib.Core.List.{List, [], ◌++◌}
use lib.Dec.{eqb}
use lib.Ieee.{Float, nan}
use lib.ListN.{length, get_or, take, drop, get_or-append}
use lib.Seq.{get_or-take, take_at}
use borrow.Author.Tests.{eq-eqb}
use Rattle.shapes.specs.declared.circle.Circle.{Circle}
use Rattle.shapes.specs.declared.rectangle.Rectangle.{Rectangle}
use Rattle.scope.specs.Numbers.{nought}
use Rattle.scope.specs.Refusals.{pack_refusal}
use Rattle.scope.specs.Packing.{rectangle, packed}
use Rattle.scope.specs.Padding.{boxes, padding, pack_clusters}
use Rattle.laws.proofs.Runs.{length-tab, tab_equal}
use Rattle.promises.proofs.packing.Sizes.{few_boxes_no_padding}
use Rattle.promises.proofs.packing.PackedCircles.{boxes-length}
use Rattle.intake.specs.Limits.{max_circles}
use Rattle.intake.specs.Columns.{at, circles_of, Lifted, overwritten, widths_of, heights_of}
use Rattle.intake.proofs.Columns.{length_widths, length_heights, width_at_lem, height_at_lem}
use Rattle.packing.specs.Sides.{sided, sides_number, centre_xs, centre_ys, Sides}
use Rattle.packing.proofs.Packings.{length-packed}
use Rattle.packing.proofs.PackedBoxes.{same_boxes, sides_accepted}
use Rattle.layout.specs.ClusterBoxes.{InClusters, BoxLists, padding_for, shifted_by}
use Rattle.layout.proofs.ClusterBoxes.{padding_shown, shift_shown, few_stay, many-move}

-- ---- the boxes' lists, in front of longer ones
of_length : (f : List Rectangle → List Float) → ((l : List Rectangle) → length (f l) ≡ length l) → (count m : ℕ) (numbers : List ℕ) (cs : List Circle) (z : List Float) → m ≡ count → z ≡ f (boxes m numbers cs) → length z ≡ count
of_length f long count m numbers cs z e h = ap length h ∙ long (boxes m numbers cs) ∙ boxes-length m numbers cs ∙ e

length-centre_xs : (l : List Rectangle) → length (centre_xs l) ≡ length l
unfolding centre_xs
length-centre_xs l = length-tab (length l) (λ a. (rectangle l a).center.x)

length-centre_ys : (l : List Rectangle) → length (centre_ys l) ≡ length l
unfolding centre_ys
length-centre_ys l = length-tab (length l) (λ a. (rectangle l a).center.y)

pub boxes_in_front : (count m : ℕ) (numbers : List ℕ) (cs : List Circle) (a w u h a₀ w₀ u₀ h₀ : List Float) → m ≡ count
    → BoxLists (boxes m numbers cs) a w u h
    → BoxLists (boxes count numbers cs) (take count (a ++ a₀)) (take count (w ++ w₀)) (take count (u ++ u₀)) (take count (h ++ h₀))
boxes_in_front count m numbers cs a w u h a₀ w₀ u₀ h₀ e l =
    rw (
      take_at a a₀ count (of_length centre_xs length-centre_xs count m numbers cs a e l.across),
      take_at w w₀ count (of_length widths_of length_widths count m numbers cs w e l.wide),
      take_at u u₀ count (of_length centre_ys length-centre_ys count m numbers cs u e l.up),
      take_at h h₀ count (of_length heights_of length_heights count m numbers cs h e l.high),
      ← e,
    ) l

pub padding_in_front : (count m : ℕ) (numbers : List ℕ) (cs : List Circle) (a w u h w₀ h₀ : List Float) (factor : Float) → m ≡ count
    → BoxLists (boxes m numbers cs) a w u h
    → padding_for (take count (w ++ w₀)) (take count (h ++ h₀)) factor ≡ padding (boxes count numbers cs) factor
padding_in_front count m numbers cs a w u h w₀ h₀ factor e l =
    let b = boxes_in_front count m numbers cs a w u h [] w₀ [] h₀ e l in
    rw (b.wide, b.high) (padding_shown (boxes count numbers cs) factor)

-- ---- one cluster, or none
pub few_clusters_stay : (count : ℕ) (numbers : List ℕ) (cs : List Circle) (factor proportion : Float) → count < 2
    → (nought ≡ padding (boxes count numbers cs) factor) × (cs ≡ pack_clusters proportion numbers (boxes count numbers cs) (padding (boxes count numbers cs) factor) cs)
few_clusters_stay count numbers cs factor proportion h =
    let few : length (boxes count numbers cs) < 2 = rw (boxes-length count numbers cs) h in
    (sym (few_boxes_no_padding (boxes count numbers cs) factor few), few_stay proportion numbers (boxes count numbers cs) (padding (boxes count numbers cs) factor) cs few)

-- ---- what stands in front
at_front : (k : ℕ) (l m : List Float) → take k l ≡ m → (a : ℕ) → a < k → at l a ≡ at m a
at_front k l m e a h = sym (get_or-take k l a nan h) ∙ ap (λ (z : List Float). at z a) e

shifted_same : (count : ℕ) (numbers : List ℕ) (coords olds news olds' news' : List Float) → length numbers ≡ length coords → InClusters count numbers
    → ((a : ℕ) → a < count → at olds a ≡ at olds' a) → ((a : ℕ) → a < count → at news a ≡ at news' a) → shifted_by numbers olds news coords ≡ shifted_by numbers olds' news' coords
shifted_same count numbers coords olds news olds' news' even numbered o n =
    tab_equal (length coords) _ _ (λ i h. let below = numbered i (rw even h) in rw (o (get_or numbers i 0) below, n (get_or numbers i 0) below))

module _ (count : ℕ) (numbers : List ℕ) (factor proportion : Float) (xs ys rs : List Float) (even : length ys ≡ length xs) (all : length numbers ≡ length xs) (lifted : Lifted rs)
    (few : count ≤ max_circles) (numbered : InClusters count numbers) (many : 2 ≤ count) where
  abbrev cs : List Circle
  cs = circles_of xs ys rs

  abbrev rects : List Rectangle
  rects = boxes count numbers cs

  abbrev pad : Float
  pad = padding rects factor

  module _ (long : length rects ≡ count) (across widths up heights : List Float) (l : BoxLists rects (take count across) (take count widths) (take count up) (take count heights)) where
    sides : Sides count widths heights rects
    sides = record {
      long = long;
      wide = λ i h. sym (at_front count widths (widths_of rects) l.wide i h ∙ width_at_lem rects i (rw long h));
      high = λ i h. sym (at_front count heights (heights_of rects) l.high i h ∙ height_at_lem rects i (rw long h));
    }

    -- the packing takes them
    boxes-accepted : pack_refusal rects pad proportion ≡ 0 → sides_number count widths heights pad proportion ≡ 0
    boxes-accepted h = sides_accepted count widths heights rects sides pad proportion few h

    pub packing_takes : pack_refusal rects pad proportion ≡ 0 → (p : Float) → p ≡ pad → sides_number count widths heights p proportion ≡ 0
    packing_takes ok p same = ap (λ (q : Float). sides_number count widths heights q proportion) same ∙ boxes-accepted ok

    abbrev new : List Rectangle
    new = packed proportion rects pad

    length_new : length new ≡ count
    length_new = length-packed count widths heights rects sides pad proportion

    front_of : (f : List Rectangle → List Float) → length (f new) ≡ length new → (z : List Float) → (a : ℕ) → a < count → at (overwritten (f (packed proportion (sided count widths heights) pad)) z) a ≡ at (f new) a
    unfolding overwritten
    front_of f e z a h = rw (← same_boxes count widths heights rects sides pad proportion) (get_or-append (f new) (drop (length (f new)) z) nan a (rw (e, length_new) h))

    -- the circles after both shifts
    pub clusters-packed : (r : ℕ) (new-xs new-ys new-xs' new-ys' xs' ys' : List Float) → r ≡ 0
        → new-xs' ≡ cond (eqb r 0) (overwritten (centre_xs (packed proportion (sided count widths heights) pad)) new-xs) new-xs
        → new-ys' ≡ cond (eqb r 0) (overwritten (centre_ys (packed proportion (sided count widths heights) pad)) new-ys) new-ys
        → xs' ≡ shifted_by numbers across new-xs' xs → ys' ≡ shifted_by numbers up new-ys' ys
        → circles_of xs' ys' rs ≡ pack_clusters proportion numbers rects pad cs
    clusters-packed r new-xs new-ys new-xs' new-ys' xs' ys' none nx ny x y =
        let yes = eq-eqb r 0 none in
        let sx : new-xs' ≡ overwritten (centre_xs (packed proportion (sided count widths heights) pad)) new-xs = nx ∙ rw yes in
        let sy : new-ys' ≡ overwritten (centre_ys (packed proportion (sided count widths heights) pad)) new-ys = ny ∙ rw yes in
        let same-x : xs' ≡ shifted_by numbers (centre_xs rects) (centre_xs new) xs = x ∙ shifted_same count numbers xs across new-xs' (centre_xs rects) (centre_xs new) all numbered (at_front count across (centre_xs rects) l.across) (λ a h. ap (λ (z : List Float). at z a) sx ∙ front_of centre_xs (length-centre_xs new) new-xs a h) in
        let same-y : ys' ≡ shifted_by numbers (centre_ys rects) (centre_ys new) ys = y ∙ shifted_same count numbers ys up new-ys' (centre_ys rects) (centre_ys new) (all ∙ sym even) numbered (at_front count up (centre_ys rects) l.up) (λ a h. ap (λ (z : List Float). at z a) sy ∙ front_of centre_ys (length-centre_ys new) new-ys a h) in
        rw (same-x, same-y)
        (shift_shown numbers rects new xs ys rs even all (length_new ∙ sym long) (rw long numbered) lifted ∙ many-move proportion numbers rects pad cs (rw long many))

    -- the same, told by the calls: the padding asked for, the packing's number, what it wrote
    pub packed_by : pack_refusal rects pad proportion ≡ 0 → (p : Float) (r : ℕ) (new-xs new-ys new-xs' new-ys' xs' ys' : List Float) → p ≡ pad → r ≡ sides_number count widths heights p proportion
        → new-xs' ≡ cond (eqb r 0) (overwritten (centre_xs (packed proportion (sided count widths heights) p)) new-xs) new-xs
        → new-ys' ≡ cond (eqb r 0) (overwritten (centre_ys (packed proportion (sided count widths heights) p)) new-ys) new-ys
        → xs' ≡ shifted_by numbers across new-xs' xs → ys' ≡ shifted_by numbers up new-ys' ys
        → circles_of xs' ys' rs ≡ pack_clusters proportion numbers rects pad cs
    packed_by ok p r new-xs new-ys new-xs' new-ys' xs' ys' same number nx ny x y =
        clusters-packed r new-xs new-ys new-xs' new-ys' xs' ys' (number ∙ packing_takes ok p same)
        (nx ∙ ap (λ (q : Float). cond (eqb r 0) (overwritten (centre_xs (packed proportion (sided count widths heights) q)) new-xs) new-xs) same)
        (ny ∙ ap (λ (q : Float). cond (eqb r 0) (overwritten (centre_ys (packed proportion (sided count widths heights) q)) new-ys) new-ys) same) x y
