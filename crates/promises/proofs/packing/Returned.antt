-- Packing and centring together: every returned coordinate is the handed one with two numbers added, one of its cluster and one of the layout; the radius
-- stays; circles of different clusters are the padding apart; the room that all take is that of the columns and the rows; the middle of their box is at the origin. With fewer than two clusters nothing is
-- packed, and the first number is -0.
use Prim.Native.Nat.{ℕ, ◌+◌, ◌*◌, ◌≤◌, ◌<◌}
use native.Mathlib.Omega.{arith}
use mathlib.Core.Path.{◌≡◌, refl, ap, ◌∙◌, subst, sym}
use mathlib.Core.Logic.{◌⊎◌, inl, inr, ⊎_elim, ◌≢◌}
use mathlib.Core.List.{List}
use lib.Dec.{ltb, lt→ltb, ltb→lt}
use lib.ListN.{get_or, length}
use lib.Ieee.{Float, binary64, add, neg}
use Rattle.algebra.specs.Integer.{Z, nat, Within, ◌⊕◌, ◌⊖◌, ◌≼◌}
use Rattle.rounding.specs.Value.{Fin}
use Rattle.rounding.specs.Scale.{pow2}
use Rattle.shapes.specs.declared.point.Point.{Point}
use Rattle.shapes.specs.declared.circle.Circle.{Circle}
use Rattle.shapes.specs.declared.rectangle.Rectangle.{Rectangle}
use Rattle.scope.specs.Runs.{always}
use Rattle.scope.specs.Links.{circle}
use Rattle.scope.specs.Offset.{translated}
use Rattle.scope.specs.Gauge.{middle_x, middle_y}
use Rattle.scope.specs.Packing.{columns, rows, packed}
use Rattle.scope.specs.Padding.{box_all, boxes, shifted, pack_clusters}
use Rattle.scope.specs.Centring.{centred_layout}
use Rattle.scope.specs.Promises.{units, x_axis, y_axis, Finite, lower, upper, gap_on, Apart}
use Rattle.laws.proofs.Cases.{is_true, is_false}
use Rattle.promises.proofs.numbers.Bounded.{Bounded}
use Rattle.promises.proofs.numbers.RangeOf.{range_for}
use Rattle.promises.proofs.packing.BoxSides.{AllSpan, x-ends, y-ends}
use Rattle.promises.proofs.packing.Shift.{ShiftedBy, Step, IsSum, shifted_is_sum}
use Rattle.promises.proofs.packing.Gap.{packed_reach, packed_slack, grid_room}
use Rattle.promises.proofs.packing.KeptGap.{ApartOn, larger-above, kept_above, kept-span}
use Rattle.promises.proofs.packing.Centred.{centred-length, centred_at, CentringRoom, OnAxis, centring_shift}
use Rattle.promises.proofs.packing.BoxMiddle.{BoxOf, middle_near_origin}
use Rattle.promises.proofs.packing.PackedCircles.{boxes-length, shift_across, shift_up}
use Rattle.promises.proofs.packing.Packed.{Inside, Packable, packed-length, packed_step, packed-inside, packed-apart, packed_span_x, packed_span_y}
use Rattle.promises.proofs.packing.NoShift.{no_shift, no_shift_finite, no_shift_value, no_shift_lem}

-- what packing and centring make of the circles cs with these cluster numbers
pub record Arranged (i o t across up : ℕ) (numbers : List ℕ) (pad : Float) (cs out : List Circle) : Type 0 where
  -- what is added to the coordinates of a cluster, and of all
  pub cluster_x : ℕ → Float
  pub cluster_y : ℕ → Float
  pub layout_x : Float
  pub layout_y : Float
  -- the circles before the centring
  pub packed : List Circle
  pub sized : length out ≡ length cs
  pub first : (j : ℕ) → j < length cs → Step i (cluster_x (get_or numbers j 0)) (cluster_y (get_or numbers j 0)) (circle cs j) (circle packed j)
  pub second : (j : ℕ) → j < length cs → Step o layout_x layout_y (circle packed j) (circle out j)
  pub finite : (j : ℕ) → j < length cs → Finite (circle out j)
  pub gap : (j m : ℕ) → j < length cs → m < length cs → get_or numbers j 0 ≢ get_or numbers m 0 → Apart t pad (circle out j) (circle out m)
  -- the room that they take on each axis
  pub span-x : AllSpan across x_axis (length cs) out
  pub span-y : AllSpan up y_axis (length cs) out
  -- twice the middle of the exact box of them all
  pub middle-x : (box : BoxOf x_axis (length cs) out) → Within (box.lo ⊕ box.hi) (2 * pow2 i + 4 * pow2 o)
  pub middle-y : (box : BoxOf y_axis (length cs) out) → Within (box.lo ⊕ box.hi) (2 * pow2 i + 4 * pow2 o)

pub returned_radius : {i o t across up : ℕ} {numbers : List ℕ} {pad : Float} {cs out : List Circle} → Arranged i o t across up numbers pad cs out → (j : ℕ) → j < length cs
    → (circle out j).radius ≡ (circle cs j).radius
returned_radius A j l = (A.second j l).radius ∙ (A.first j l).radius

-- ---- before the centring: the circles stand within Y, each shifted by a number of its cluster
pub record Stage (i Y R s across up : ℕ) (numbers : List ℕ) (pad : Float) (cs out : List Circle) : Type 0 where
  pub cluster_x : ℕ → Float
  pub cluster_y : ℕ → Float
  pub sized : length out ≡ length cs
  pub inside : (j : ℕ) → j < length cs → Inside Y R (circle out j)
  pub step : (j : ℕ) → j < length cs → Step i (cluster_x (get_or numbers j 0)) (cluster_y (get_or numbers j 0)) (circle cs j) (circle out j)
  pub gap : (j m : ℕ) → j < length cs → m < length cs → get_or numbers j 0 ≢ get_or numbers m 0
      → ApartOn s pad x_axis (circle out j) (circle out m) ⊎ ApartOn s pad y_axis (circle out j) (circle out m)
  pub span-x : AllSpan across x_axis (length cs) out
  pub span-y : AllSpan up y_axis (length cs) out

-- ---- the centring
module _ {i o Y R X s t across up : ℕ} (room : CentringRoom i o Y R X) (slack : s + 2 * pow2 o ≤ t) {numbers : List ℕ} {pad : Float} {cs mid : List Circle}
    (S : Stage i Y R s across up numbers pad cs mid) where
  abbrev out : List Circle
  out = centred_layout mid

  abbrev layout_x : Float
  layout_x = neg (middle_x (box_all always mid))

  abbrev layout_y : Float
  layout_y = neg (middle_y (box_all always mid))

  there : (j : ℕ) → j < length cs → j < length mid
  there j l = rw S.sized l

  here : (j : ℕ) → j < length mid → j < length cs
  here j l = rw S.sized at l

  out_circle : (j : ℕ) → j < length cs → circle out j ≡ translated (circle mid j) layout_x layout_y
  out_circle j l = centred_at mid j (there j l)

  out_radius : (j : ℕ) → j < length cs → (circle out j).radius ≡ (circle mid j).radius
  unfolding translated
  out_radius j l = ap (λ (c : Circle). c.radius) (out_circle j l) ∙ (S.inside j l).lifted

  on_x : OnAxis Y R x_axis mid (box_all always mid).x_min (box_all always mid).x_max
  on_x = record { centres = λ m n. (S.inside m (here m n)).x; radii = λ m n. (S.inside m (here m n)).radius; ends = x-ends always mid }

  on_y : OnAxis Y R y_axis mid (box_all always mid).y_min (box_all always mid).y_max
  on_y = record { centres = λ m n. (S.inside m (here m n)).y; radii = λ m n. (S.inside m (here m n)).radius; ends = y-ends always mid }

  out_x : (j : ℕ) → j < length cs → (circle out j).center.x ≡ add binary64 (circle mid j).center.x layout_x
  unfolding translated
  out_x j l = ap (λ (c : Circle). c.center.x) (out_circle j l)

  out_y : (j : ℕ) → j < length cs → (circle out j).center.y ≡ add binary64 (circle mid j).center.y layout_y
  unfolding translated
  out_y j l = ap (λ (c : Circle). c.center.y) (out_circle j l)

  step : (j : ℕ) → j < length cs → Step o layout_x layout_y (circle mid j) (circle out j)
  step j l = record {
    x = subst (ShiftedBy o layout_x (circle mid j).center.x) (sym (out_x j l)) (centring_shift room on_x j (there j l));
    y = subst (ShiftedBy o layout_y (circle mid j).center.y) (sym (out_y j l)) (centring_shift room on_y j (there j l));
    radius = out_radius j l;
  }

  sum-x : (j : ℕ) → j < length cs → IsSum o layout_x (circle mid j).center.x (circle out j).center.x
  sum-x j l = shifted_is_sum o room.to (S.inside j l).x.fin (step j l).x

  sum-y : (j : ℕ) → j < length cs → IsSum o layout_y (circle mid j).center.y (circle out j).center.y
  sum-y j l = shifted_is_sum o room.to (S.inside j l).y.fin (step j l).y

  -- on an axis
  kept : (axis : Point → Float) (K : Float) → ((j : ℕ) → j < length cs → IsSum o K (axis (circle mid j).center) (axis (circle out j).center))
      → (j m : ℕ) → j < length cs → m < length cs → ApartOn s pad axis (circle mid j) (circle mid m) → units pad ⊖ nat t ≼ gap_on axis (circle out j) (circle out m)
  unfolding gap_on
  kept axis K sums j m l n h =
      let a = circle out j in
      let b = circle out m in
      larger-above (units pad ⊖ nat t) (lower axis a ⊖ upper axis b) (lower axis b ⊖ upper axis a)
      (⊎_elim (λ g. inr (kept_above o K axis (circle mid j) (circle mid m) a b (sums j l) (sums m n) (out_radius j l) (out_radius m n) s t slack pad g))
      (λ g. inl (kept_above o K axis (circle mid m) (circle mid j) b a (sums m n) (sums j l) (out_radius m n) (out_radius j l) s t slack pad g)) h)

  pub packed_and_centred : Arranged i o t (across + 2 * pow2 o) (up + 2 * pow2 o) numbers pad cs out
  packed_and_centred = record {
    cluster_x = S.cluster_x;
    cluster_y = S.cluster_y;
    layout_x = layout_x;
    layout_y = layout_y;
    packed = mid;
    sized = centred-length mid ∙ S.sized;
    first = S.step;
    second = step;
    finite = λ j l. record { x = (sum-x j l).fin; y = (sum-y j l).fin; radius = subst (Fin binary64) (sym (out_radius j l)) (S.inside j l).radius.fin };
    gap = λ j m l n e. elim (S.gap j m l n e) [ inl h ↦ inl (kept x_axis layout_x sum-x j m l n h) | inr h ↦ inr (kept y_axis layout_y sum-y j m l n h) ];
    span-x = λ j m l n. kept-span o layout_x x_axis (circle mid j) (circle mid m) (circle out j) (circle out m) (sum-x j l) (sum-x m n) (out_radius j l) (out_radius m n) across (S.span-x j m l n);
    span-y = λ j m l n. kept-span o layout_y y_axis (circle mid j) (circle mid m) (circle out j) (circle out m) (sum-y j l) (sum-y m n) (out_radius j l) (out_radius m n) up (S.span-y j m l n);
    middle-x = λ b. middle_near_origin room on_x out (λ j l. out_radius j (here j l)) (λ j l. sum-x j (here j l)) (range_for there here b);
    middle-y = λ b. middle_near_origin room on_y out (λ j l. out_radius j (here j l)) (λ j l. sum-y j (here j l)) (range_for there here b);
  }

-- ---- the stage before: fewer than two clusters, and more
module _ (proportion : Float) (numbers : List ℕ) (rects : List Rectangle) (pad : Float) (cs : List Circle) where
  few_not_packed : length rects < 2 → pack_clusters proportion numbers rects pad cs ≡ cs
  unfolding pack_clusters
  few_not_packed h = rw (is_true (ltb (length rects) 2) (lt→ltb (length rects) 2 h))

  many-packed : 2 ≤ length rects → pack_clusters proportion numbers rects pad cs ≡ shifted numbers rects (packed proportion rects pad) cs
  unfolding pack_clusters
  many-packed h = rw (is_false (ltb (length rects) 2) (λ t. none (ltb→lt (length rects) 2 t)))
    where
      none : length rects < 2 → ⊥
      none g = omega arith

-- circles that are not shifted, all of them with one number
pub unshifted : (i Y R s across up : ℕ) → Y ≤ pow2 (54 + i) → (numbers : List ℕ) (pad : Float) (cs : List Circle) → ((j : ℕ) → j < length cs → Inside Y R (circle cs j)) → ((j : ℕ) → j < length cs → get_or numbers j 0 < 1)
    → AllSpan across x_axis (length cs) cs → AllSpan up y_axis (length cs) cs
    → Stage i Y R s across up numbers pad cs cs
unshifted i Y R s across up fits numbers pad cs circles one spans-x spans-y = record {
  cluster_x = λ a. no_shift;
  cluster_y = λ a. no_shift;
  sized = refl;
  inside = circles;
  step = λ j l. record { x = none (circles j l).x; y = none (circles j l).y; radius = refl };
  gap = λ j m l n e. absurd (e (same (one j l) (one m n)));
  span-x = spans-x;
  span-y = spans-y;
}
  where
    none : {x : Float} → Bounded Y x → ShiftedBy i no_shift x x
    none {x} h = record { fin = no_shift_finite; room = subst (λ (z : Z). Within (units x ⊕ z) (pow2 (54 + i))) (sym no_shift_value) (grow (units x) h.within); is = sym (no_shift_lem x h.fin) }
      where
        grow : (x : Z) → Within x Y → Within (x ⊕ nat 0) (pow2 (54 + i))
        grow x h = omega arith

    same : {a b : ℕ} → a < 1 → b < 1 → a ≡ b
    same {a} {b} h k = omega arith

pub packed_stage : {h i Q X S P B R : ℕ} {proportion : Float} {count : ℕ} {numbers : List ℕ} {cs : List Circle} {pad : Float} → Packable h i Q X S P B R proportion count numbers cs pad
    → Stage i (packed_reach i Q (S + P + pow2 h) X) R (packed_slack h i) (grid_room h i (S + P + pow2 h) (columns count proportion)) (grid_room h i (S + P + pow2 h) (rows count (columns count proportion)))
    numbers pad cs (shifted numbers (boxes count numbers cs) (packed proportion (boxes count numbers cs) pad) cs)
packed_stage {proportion = proportion} {count = count} {numbers = numbers} {cs = cs} {pad = pad} A = record {
  cluster_x = shift_across proportion numbers (boxes count numbers cs) pad cs;
  cluster_y = shift_up proportion numbers (boxes count numbers cs) pad cs;
  sized = packed-length A;
  inside = packed-inside A;
  step = packed_step A;
  gap = packed-apart A;
  span-x = packed_span_x A;
  span-y = packed_span_y A;
}

-- ---- both: the circles that packing and centring return
module _ (proportion : Float) (count : ℕ) (numbers : List ℕ) (cs : List Circle) (pad : Float) where
  abbrev pub returned : List Circle
  returned = centred_layout (pack_clusters proportion numbers (boxes count numbers cs) pad cs)

  pub few_arranged : {i o Y R X t : ℕ} → CentringRoom i o Y R X → 2 * pow2 o ≤ t → count < 2 → ((j : ℕ) → j < length cs → Inside Y R (circle cs j)) → ((j : ℕ) → j < length cs → get_or numbers j 0 < count)
      → (across up : ℕ) → AllSpan across x_axis (length cs) cs → AllSpan up y_axis (length cs) cs
      → Arranged i o t (across + 2 * pow2 o) (up + 2 * pow2 o) numbers pad cs returned
  few_arranged {i} {o} {Y} {R} {X} {t} room slack few circles numbered across up spans-x spans-y =
      rw (few_not_packed proportion numbers (boxes count numbers cs) pad cs (rw (boxes-length count numbers cs) few))
      (packed_and_centred room (bound slack) (unshifted i Y R 0 across up (omega (arith, room.ends_fit, room.positions)) numbers pad cs circles (λ j l. omega (arith, numbered j l)) spans-x spans-y))
    where
      bound : 2 * pow2 o ≤ t → 0 + 2 * pow2 o ≤ t
      bound h = omega arith

  pub many-arranged : {h i o Q X S P B R X' t : ℕ} → Packable h i Q X S P B R proportion count numbers cs pad → CentringRoom i o (packed_reach i Q (S + P + pow2 h) X) R X' → packed_slack h i + 2 * pow2 o ≤ t → 2 ≤ count
      → Arranged i o t (grid_room h i (S + P + pow2 h) (columns count proportion) + 2 * pow2 o) (grid_room h i (S + P + pow2 h) (rows count (columns count proportion)) + 2 * pow2 o) numbers pad cs returned
  many-arranged A room slack many =
      rw (many-packed proportion numbers (boxes count numbers cs) pad cs (rw (boxes-length count numbers cs) many))
      (packed_and_centred room slack (packed_stage A))
