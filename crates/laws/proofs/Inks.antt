-- Every step of a layout carries the inks through, and nothing that is worked out looks at them: each circle that is moved is moved by `moved_to`, and the rest
-- reads centres and radii alone.
use Prim.Native.Nat.{ℕ, zero, suc, ◌<◌}
use native.Mathlib.Decide.{dec_lt, ℕ_discrete}
use native.Mathlib.Omega.{arith}
use mathlib.Core.Path.{◌≡◌, refl, sym, ap, ◌∙◌}
use mathlib.Core.Bool.{Bool, true, false, not, ◌&&◌, ◌||◌, cond}
use mathlib.Core.List.{List}
use mathlib.Core.Option.{Option, none, some}
use lib.Dec.{eqb, ltb}
use lib.ListN.{length, get_or, set, length-set, get_or-eq_default}
use lib.Seq.{ext_get_or, get_or-set_same, get_or-set_other}
use lib.Ieee.{Float, neg}
use Rattle.shapes.specs.declared.point.Point.{Point}
use Rattle.shapes.specs.declared.circle.Circle.{Circle}
use Rattle.shapes.specs.declared.rectangle.Rectangle.{Rectangle}
use Rattle.shapes.specs.Lift.{moved_to}
use Rattle.shapes.specs.Boxes.{union_of, circle_box}
use Rattle.scope.specs.Numbers.{◌-ᶠ◌, ◌*ᶠ◌, ◌<ᶠ◌, ◌≤ᶠ◌, nought, half, e_12, abs}
use Rattle.scope.specs.Runs.{tab, in_turn, least, always}
use Rattle.scope.specs.Refusals.{inks}
use Rattle.scope.specs.Distance.{contains, intersects}
use Rattle.scope.specs.Links.{Region, circle, nowhere, overlap, linked_by_circles}
use Rattle.scope.specs.Closure.{Marks, marked, closure}
use Rattle.scope.specs.Groups.{clusters, plain_clusters, clusters_of}
use Rattle.scope.specs.Tolerance.{tolerance}
use Rattle.scope.specs.Offset.{translated, diagonal, direction, child_at, contains_at, max_contained_offset, move, blocked, there, repositioned, Moved, replaced, only_child, parents, tried, offset}
use Rattle.scope.specs.Gauge.{changed, level, Turn, turn, rotated, turned, nothing, point_box, centres_box, mirror_x, mirror_y, mirrored_x, mirrored_y, mirrored, rotate_cluster, gauged, in_cluster, middle_x, middle_y}
use Rattle.scope.specs.Padding.{box_all, boxes, as_rectangle, padding, shift, shifted, pack_clusters}
use Rattle.scope.specs.Packing.{rectangle, packed}
use Rattle.scope.specs.Centring.{all_translated, centred_layout}
use Rattle.scope.specs.Container.{reaches_past, centred_in, settled}
use Rattle.scope.specs.Layout.{Layout, arranged}
use Rattle.laws.specs.Inks.{with_ink, inked, Carries, CarriesAll, Blind}
use Rattle.laws.specs.Limits.{WithinLimits}
use Rattle.laws.proofs.Cases.{chosen}
use Rattle.laws.proofs.Accepted.{length-inks, ink_at_lem}
use Rattle.laws.proofs.Runs.{length-tab, get_or_tab, get_or_tab_past, tab_equal, gather_equal, some_below_equal}

-- ---- circles with inks

pub length-inked : (is : List ℕ) (cs : List Circle) → length (inked is cs) ≡ length cs
unfolding inked
length-inked is cs = length-tab (length cs) _

pub inked_at : (is : List ℕ) (cs : List Circle) (i : ℕ) → i < length cs → circle (inked is cs) i ≡ with_ink (get_or is i 0) (circle cs i)
unfolding inked
inked_at is cs i h = get_or_tab (length cs) (λ k. with_ink (get_or is k 0) (circle cs k)) i nowhere h

inked_past : (is : List ℕ) (cs : List Circle) (i : ℕ) → ¬ (i < length cs) → circle (inked is cs) i ≡ circle cs i
unfolding inked
inked_past is cs i h =
    get_or_tab_past (length cs) (λ k. with_ink (get_or is k 0) (circle cs k)) i nowhere (omega arith) ∙ sym (get_or-eq_default cs nowhere (omega arith))

-- at any place, the circle is the one without inks but for its ink
abbrev ink_at : List ℕ → List Circle → ℕ → ℕ
ink_at is cs i = (circle (inked is cs) i).ink

inked-some : (is : List ℕ) (cs : List Circle) (i : ℕ) → circle (inked is cs) i ≡ with_ink (circle (inked is cs) i).ink (circle cs i)
inked-some is cs i = elim (dec_lt i (length cs)) [ yes h ↦ rw (inked_at is cs i h) | no h ↦ rw (inked_past is cs i h) ]

centre_at : (is : List ℕ) (cs : List Circle) (i : ℕ) → (circle (inked is cs) i).center ≡ (circle cs i).center
centre_at is cs i = ap (λ (c : Circle). c.center) (inked-some is cs i)

-- the inks are those put on, one for each circle
pub inks-inked : (is : List ℕ) (cs : List Circle) → length is ≡ length cs → inks (inked is cs) ≡ is
inks-inked is cs e = ext_get_or 0 _ is (length-inks (inked is cs) ∙ length-inked is cs ∙ sym e) (λ i h.
    let below : i < length cs = rw (length-inks (inked is cs), length-inked is cs) at h in
    ink_at_lem (inked is cs) i ∙ rw (inked_at is cs i below))

-- a layout is itself with its own inks
pub inked_own : (cs : List Circle) → inked (inks cs) cs ≡ cs
inked_own cs = ext_get_or nowhere _ cs (length-inked (inks cs) cs) (λ i h.
    let below : i < length cs = rw (length-inked (inks cs) cs) at h in
    inked_at (inks cs) cs i below ∙ rw (ink_at_lem cs i))

-- inks that are put on take the place of those before
pub inked-again : (is js : List ℕ) (cs : List Circle) → inked is (inked js cs) ≡ inked is cs
unfolding inked
inked-again is js cs =
    rw (length-inked js cs)
    (tab_equal (length cs) (λ i. with_ink (get_or is i 0) (circle (inked js cs) i)) (λ i. with_ink (get_or is i 0) (circle cs i)) (λ i h. rw (inked_at js cs i h)))

-- so a step that carries the inks gives back those that it was given, in order
pub carried : (f : List Circle → List Circle) → CarriesAll f → ((cs : List Circle) → length (f cs) ≡ length cs) → (cs : List Circle) → inks (f cs) ≡ inks cs
carried f c same cs = ap (λ (ds : List Circle). inks (f ds)) (sym (inked_own cs)) ∙ ap inks (c (inks cs) cs) ∙ inks-inked (inks cs) (f cs) (length-inks cs ∙ sym (same cs))

-- ---- one circle

pub moved_carries : (x y : Float) → Carries (λ c. moved_to c x y)
moved_carries x y k c = refl

pub translated_carries : (dx dy : Float) → Carries (λ c. translated c dx dy)
unfolding translated
translated_carries dx dy k c = refl

pub rotated_carries : (t : Turn) (pivot : Point) → Carries (rotated t pivot)
unfolding rotated
rotated_carries t pivot k c = refl

pub mirror_x_carries : (m : Float) → Carries (mirror_x m)
unfolding mirror_x
mirror_x_carries m k c = refl

pub mirror_y_carries : (m : Float) → Carries (mirror_y m)
unfolding mirror_y
mirror_y_carries m k c = refl

pub shift_carries : (old new : Rectangle) → Carries (shift old new)
unfolding shift
shift_carries old new k c = translated_carries _ _ k c

-- ---- circle by circle

each_carries : (f : ℕ → Circle → Circle) → ((i : ℕ) → Carries (f i)) → CarriesAll (λ cs. tab (length cs) (λ i. f i (circle cs i)))
unfolding inked
each_carries f c is cs =
    let n = length cs in
    let after : ℕ → Circle = λ i. f i (circle cs i) in
    rw (length-inked is cs, length-tab n after)
    (tab_equal n (λ i. f i (circle (inked is cs) i)) (λ i. with_ink (get_or is i 0) (circle (tab n after) i))
    (λ i h. rw (inked_at is cs i h, get_or_tab n after i nowhere h) (c i (get_or is i 0) (circle cs i))))

either_carries : (b : Bool) (f : Circle → Circle) → Carries f → Carries (λ c. cond b (f c) c)
either_carries true f c k d = c k d
either_carries false f c k d = refl

changed_carries : (member : ℕ → Bool) (f : Circle → Circle) → Carries f → CarriesAll (changed member f)
unfolding changed
changed_carries member f c is cs = each_carries (λ i d. cond (member i) (f d) d) (λ i. either_carries (member i) f c) is cs

pub all_translated_carries : (dx dy : Float) → CarriesAll (all_translated dx dy)
unfolding all_translated
all_translated_carries dx dy is cs = each_carries (λ i c. translated c dx dy) (λ i. translated_carries dx dy) is cs

pub shifted_carries : (numbers : List ℕ) (old new : List Rectangle) → CarriesAll (shifted numbers old new)
unfolding shifted
shifted_carries numbers old new is cs =
    each_carries (λ i c. shift (rectangle old (get_or numbers i 0)) (rectangle new (get_or numbers i 0)) c) (λ i. shift_carries _ _) is cs

-- ---- the gauge

pub turned_carries : (member : ℕ → Bool) (i j : ℕ) → CarriesAll (turned member i j)
unfolding turned
turned_carries member i j is cs =
    let dx = (circle cs j).center.x -ᶠ (circle cs i).center.x in
    let dy = (circle cs j).center.y -ᶠ (circle cs i).center.y in
    let turning = rotated (turn dx dy) (circle cs i).center in
    rw (centre_at is cs i, centre_at is cs j, changed_carries member turning (rotated_carries (turn dx dy) (circle cs i).center) is cs)
    (sym (chosen (inked is) (level dx dy) cs (changed member turning cs)))

centres_box_blind : (member : ℕ → Bool) → Blind (centres_box member)
unfolding centres_box
centres_box_blind member is cs =
    rw (length-inked is cs)
    (gather_equal union_of nothing member member (length cs) (λ i. point_box (circle (inked is cs) i).center) (λ i. point_box (circle cs i).center) (λ i h. refl)
    (λ i h. rw (centre_at is cs i)))

pub mirrored_x_carries : (member : ℕ → Bool) (i : ℕ) (m : Float) → CarriesAll (mirrored_x member i m)
unfolding mirrored_x
mirrored_x_carries member i m is cs =
    rw (centre_at is cs i, changed_carries member (mirror_x m) (mirror_x_carries m) is cs) (sym (chosen (inked is) (m <ᶠ (circle cs i).center.x) _ cs))

pub mirrored_y_carries : (member : ℕ → Bool) (i : ℕ) (m : Float) → CarriesAll (mirrored_y member i m)
unfolding mirrored_y
mirrored_y_carries member i m is cs =
    rw (centre_at is cs i, changed_carries member (mirror_y m) (mirror_y_carries m) is cs) (sym (chosen (inked is) (m <ᶠ (circle cs i).center.y) _ cs))

pub mirrored_carries : (member : ℕ → Bool) (i : ℕ) → CarriesAll (mirrored member i)
unfolding mirrored
mirrored_carries member i is cs =
    rw (centres_box_blind member is cs, mirrored_x_carries member i (middle_x (centres_box member cs)) is cs) (mirrored_y_carries member i _ is _)

pub rotate_carries : (member : ℕ → Bool) → CarriesAll (rotate_cluster member)
unfolding rotate_cluster
rotate_carries member is cs =
    let n = length cs in
    let i = least n member in
    let j = least n (λ k. member k && not (eqb k i)) in
    rw (length-inked is cs, turned_carries member i j is cs, mirrored_carries member i is (turned member i j cs)) (sym (chosen (inked is) (ltb j n) _ cs))

in_turn_carries : (n : ℕ) (step : ℕ → List Circle → List Circle) → ((a : ℕ) → CarriesAll (step a)) → CarriesAll (in_turn n step)
unfolding in_turn
in_turn_carries zero step c is cs = refl
in_turn_carries (suc n) step c is cs = ap (step n) (in_turn_carries n step c is cs) ∙ c n is (in_turn n step cs)

pub gauged_carries : (count : ℕ) (numbers : List ℕ) → CarriesAll (gauged count numbers)
unfolding gauged
gauged_carries count numbers is cs = in_turn_carries count (λ a. rotate_cluster (in_cluster numbers a)) (λ a. rotate_carries (in_cluster numbers a)) is cs

-- ---- boxes, packing, centring

box_blind : (member : ℕ → Bool) → Blind (box_all member)
unfolding box_all
box_blind member is cs =
    rw (length-inked is cs)
    (gather_equal union_of nothing member member (length cs) (λ i. circle_box (circle (inked is cs) i)) (λ i. circle_box (circle cs i)) (λ i h. refl)
    (λ i h. rw (inked_at is cs i h)))

boxes_blind : (count : ℕ) (numbers : List ℕ) → Blind (boxes count numbers)
unfolding boxes
boxes_blind count numbers is cs =
    tab_equal count (λ a. as_rectangle (box_all (in_cluster numbers a) (inked is cs))) (λ a. as_rectangle (box_all (in_cluster numbers a) cs))
    (λ a h. ap as_rectangle (box_blind (in_cluster numbers a) is cs))

pub pack_carries : (proportion : Float) (numbers : List ℕ) (rects : List Rectangle) (pad : Float) → CarriesAll (pack_clusters proportion numbers rects pad)
unfolding pack_clusters
pack_carries proportion numbers rects pad is cs = rw (shifted_carries numbers rects (packed proportion rects pad) is cs) (sym (chosen (inked is) (ltb (length rects) 2) cs _))

pub centred_carries : CarriesAll centred_layout
unfolding centred_layout
centred_carries is cs = rw (box_blind always is cs) (all_translated_carries _ _ is cs)

-- ---- the container

centred_in_carries : (container : Rectangle) → CarriesAll (centred_in container)
unfolding centred_in
centred_in_carries container is cs =
    let box = box_all always cs in
    let dx = middle_x box in
    let dy = middle_y box in
    rw (box_blind always is cs, length-inked is cs, all_translated_carries (neg dx) (neg dy) is cs)
    (sym (chosen (inked is) (eqb (length cs) 0 || reaches_past container box || ((abs dx <ᶠ e_12) && (abs dy <ᶠ e_12))) cs _))

pub settled_carries : (container : Rectangle) → CarriesAll (λ cs. (settled container cs).circles)
unfolding settled
settled_carries container is cs =
    let cx = container.center.x in
    let cy = container.center.y in
    rw (all_translated_carries (neg cx) (neg cy) is cs, ← chosen (inked is) ((e_12 <ᶠ abs cx) || (e_12 <ᶠ abs cy)) (all_translated (neg cx) (neg cy) cs) cs) (centred_in_carries _ is _)

-- ---- the plain clustering

overlap_blind : (j k : ℕ) (c d : Circle) → overlap (with_ink j c) (with_ink k d) ≡ overlap c d
unfolding overlap contains intersects
overlap_blind j k c d = refl

links_blind : (is : List ℕ) (cs : List Circle) (i j : ℕ) → linked_by_circles (inked is cs) i j ≡ linked_by_circles cs i j
unfolding linked_by_circles
links_blind is cs i j = rw (inked-some is cs i, inked-some is cs j, overlap_blind (ink_at is cs i) (ink_at is cs j) (circle cs i) (circle cs j))

pub plain_clusters_blind : Blind plain_clusters
unfolding plain_clusters marked
plain_clusters_blind is cs =
    let n = length cs in
    rw (length-inked is cs)
    (ap (λ (t : Marks). clusters_of n (closure n t))
    (tab_equal n (λ i. tab n (linked_by_circles (inked is cs) i)) (λ i. tab n (linked_by_circles cs i))
    (λ i h. tab_equal n (linked_by_circles (inked is cs) i) (linked_by_circles cs i) (λ j l. links_blind is cs i j))))

-- ---- the offset step

abbrev inked_child : ℕ → Option Circle → Option Circle
inked_child k none = none
inked_child k (some c) = some (with_ink k c)

blocked_blind : (is : List ℕ) (cs : List Circle) (p i k : ℕ) (c : Circle) → blocked (inked is cs) p i (with_ink k c) ≡ blocked cs p i c
unfolding blocked
blocked_blind is cs p i k c =
    rw (length-inked is cs)
    (some_below_equal (length cs) (λ m. not (eqb m i) && not (eqb m p) && overlap (with_ink k c) (circle (inked is cs) m))
    (λ m. not (eqb m i) && not (eqb m p) && overlap c (circle cs m))
    (λ m. rw (inked-some is cs m, overlap_blind k (ink_at is cs m) c (circle cs m))))

repositioned_carries : (is : List ℕ) (cs : List Circle) (p i : ℕ) → repositioned (inked is cs) p i ≡ inked_child (ink_at is cs i) (repositioned cs p i)
unfolding repositioned direction diagonal max_contained_offset contains_at contains child_at translated move
repositioned_carries is cs p i =
    let parent = circle cs p in
    let child = circle cs i in
    let u = direction parent child in
    let dMax = max_contained_offset parent child u in
    let d = half *ᶠ dMax in
    let moved = child_at parent child u d in
    let stays = (dMax ≤ᶠ nought) || there (move parent child u d) dMax in
    rw (inked-some is cs p, inked-some is cs i, blocked_blind is cs p i (ink_at is cs i) moved)
    (sym (chosen (inked_child (ink_at is cs i)) (stays || not (contains parent moved) || blocked cs p i moved) none (some moved)))

abbrev inked_moved : List ℕ → Moved → Moved
inked_moved is s = record { circles = inked is s.circles; mask = s.mask }

set_carries : (is : List ℕ) (cs : List Circle) (i : ℕ) (c : Circle) → set (inked is cs) i (with_ink (ink_at is cs i) c) ≡ inked is (set cs i c)
set_carries is cs i c =
    ext_get_or nowhere _ _ (length-set (inked is cs) i _ ∙ length-inked is cs ∙ sym (length-inked is (set cs i c) ∙ length-set cs i c)) (λ j h.
    let inside : j < length cs = rw (length-set (inked is cs) i (with_ink (ink_at is cs i) c), length-inked is cs) at h in
    let still : j < length (set cs i c) = rw (length-set cs i c) inside in
    let here : j < length (inked is cs) = rw (length-inked is cs) inside in
    elim (ℕ_discrete i j) [
      | yes e ↦ rw (e, get_or-set_same (inked is cs) j (with_ink (ink_at is cs j) c) nowhere here, inked_at is (set cs j c) j (rw (length-set cs j c) inside), get_or-set_same cs j c nowhere inside)
          (ap (λ (d : Circle). with_ink d.ink c) (inked_at is cs j inside))
      | no e ↦ rw (get_or-set_other (inked is cs) i j (with_ink (ink_at is cs i) c) nowhere (λ q. e (sym q)), inked_at is (set cs i c) j still, get_or-set_other cs i j c nowhere (λ q. e (sym q))) (inked_at is cs j inside)
    ])

replaced_carries : (is : List ℕ) (i : ℕ) (s : Moved) (o : Option Circle) → replaced i (inked_moved is s) (inked_child (ink_at is s.circles i) o) ≡ inked_moved is (replaced i s o)
unfolding replaced
replaced_carries is i s none = refl
replaced_carries is i s (some c) = rw (set_carries is s.circles i c)

tried_carries : (is : List ℕ) (ps : List (Option ℕ)) (s : Moved) (i : ℕ) (o : Option ℕ) → tried ps (inked_moved is s) i o ≡ inked_moved is (tried ps s i o)
unfolding tried
tried_carries is ps s i none = refl
tried_carries is ps s i (some p) =
    rw (repositioned_carries is s.circles p i, replaced_carries is i s (repositioned s.circles p i)) (sym (chosen (inked_moved is) (only_child ps p) _ s))

tries_carry : (is : List ℕ) (n : ℕ) (ps : List (Option ℕ)) (s : Moved)
    → in_turn n (λ i s. tried ps s i (get_or ps i none)) (inked_moved is s) ≡ inked_moved is (in_turn n (λ i s. tried ps s i (get_or ps i none)) s)
unfolding in_turn
tries_carry is zero ps s = refl
tries_carry is (suc n) ps s =
    ap (λ (t : Moved). tried ps t n (get_or ps n none)) (tries_carry is n ps s) ∙ tried_carries is ps (in_turn n (λ i s. tried ps s i (get_or ps i none)) s) n (get_or ps n none)

pub offset_carries : (rs : List Region) (is : List ℕ) (cs : List Circle) → offset (inked is cs) rs ≡ inked_moved is (offset cs rs)
unfolding offset
offset_carries rs is cs =
    let n = length cs in
    let start : Moved = record { circles = cs; mask = 0 } in
    rw (length-inked is cs, tries_carry is n (parents n rs) start) (sym (chosen (inked_moved is) (ltb n 2) start _))

-- ---- the whole

abbrev inked_layout : List ℕ → Layout → Layout
inked_layout is l = record { result = l.result; circles = inked is l.circles }

pub arranged_carries : (proportion factor : Float) (rs : List Region) (is : List ℕ) (cs : List Circle)
    → arranged proportion (inked is cs) factor rs ≡ inked_layout is (arranged proportion cs factor rs)
unfolding arranged
arranged_carries proportion factor rs is cs =
    let m = offset cs rs in
    let g = clusters (length cs) rs (tolerance rs) in
    let turned = gauged g.count g.numbers m.circles in
    let bs = boxes g.count g.numbers turned in
    rw (
      length-inked is cs,
      offset_carries rs is cs,
      gauged_carries g.count g.numbers is m.circles,
      boxes_blind g.count g.numbers is turned,
      pack_carries proportion g.numbers bs (padding bs factor) is turned,
      centred_carries is (pack_clusters proportion g.numbers bs (padding bs factor) turned),
    )

-- the limits of document 01 do not look at the inks
pub bare_within : (is : List ℕ) (cs : List Circle) (factor : Float) (masks : List ℕ) (areas : List Float) → WithinLimits (inked is cs) factor masks areas
    → WithinLimits cs factor masks areas
bare_within is cs factor masks areas w =
    record {
      few_circles = rw (length-inked is cs) at w.few_circles;
      paired = w.paired;
      few_regions = w.few_regions;
      centres = λ i h. rw (inked_at is cs i h) at (w.centres i (rw (length-inked is cs) h));
      radii = λ i h. rw (inked_at is cs i h) at (w.radii i (rw (length-inked is cs) h));
      masks_rise = w.masks_rise;
      factor-inside = w.factor-inside;
    }
