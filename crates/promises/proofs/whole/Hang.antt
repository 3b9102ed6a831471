-- How a finished card hangs: packing and centring shift each cluster as a whole, so it hangs as the gauge left it, up to their roundings, and the middle of the box
-- is where the centring put it.
use mathlib.Core.Path.{◌≡◌, sym, ◌∙◌, subst}
use mathlib.Core.List.{List}
use Prim.Native.Nat.{ℕ, ◌+◌, ◌*◌, ◌≤◌, ◌<◌}
use native.Mathlib.Nat.{lt_of_lt_of_le}
use native.Mathlib.Omega.{arith}
use lib.Dec.{T, leb}
use lib.ListN.{length, get_or}
use lib.Ieee.{Float, binary64}
use Rattle.algebra.specs.Integer.{Z, nat, Within, Near, ◌⊕◌, ◌⊗◌, ◌≼◌}
use Rattle.rounding.specs.Value.{Fin}
use Rattle.rounding.specs.Scale.{pow2}
use Rattle.shapes.specs.declared.point.Point.{Point}
use Rattle.shapes.specs.declared.circle.Circle.{Circle}
use Rattle.scope.specs.Links.{circle}
use Rattle.scope.specs.Gauge.{in_cluster}
use Rattle.scope.specs.Layout.{Result}
use Rattle.scope.specs.Promises.{units, x_axis, y_axis, OnEachAxis, number_of, Centred, NotPast}
use Rattle.laws.proofs.Cases.{eqb_iff}
use Rattle.promises.proofs.numbers.RangeOf.{Members, range_of_lem, range_for}
use Rattle.promises.proofs.gauge.Hangs.{NotBeyond, Hung, hung_shifted, not_past_range}
use Rattle.promises.proofs.packing.BoxMiddle.{BoxOf, box_of}
use Rattle.promises.proofs.packing.Shift.{ShiftedBy, shifted_is_sum}
use Rattle.promises.proofs.packing.Returned.{Arranged}

-- a number to which two are added in turn
two_shifts : (i o : ℕ) → T (leb i 1029) → T (leb o 1029) → {K L x y z : Float} → Fin binary64 x → ShiftedBy i K x y → ShiftedBy o L y z → Near (units z) (units x ⊕ (units K ⊕ units L)) (pow2 i + pow2 o)
two_shifts i o ti t-o {K} {L} {x} {y} {z} p first second =
    let a = shifted_is_sum i ti p first in
    go (units x) (units y) (units z) (units K) (units L) a.near (shifted_is_sum o t-o a.fin second).near
  where
    go : (x y z k l : Z) → Near y (x ⊕ k) (pow2 i) → Near z (y ⊕ l) (pow2 o) → Near z (x ⊕ (k ⊕ l)) (pow2 i + pow2 o)
    go x y z k l h r = omega arith

module _ {i o t across up : ℕ} (ti : T (leb i 1029)) (t-o : T (leb o 1029)) {numbers : List ℕ} {pad : Float} {cs out : List Circle} (A : Arranged i o t across up numbers pad cs out) where
  -- ---- the middle
  pub centred_promised : (slack : ℕ) → 2 * pow2 i + 4 * pow2 o ≤ 2 * slack → 0 < length cs → OnEachAxis λ axis. Centred slack axis (length cs) out
  centred_promised slack fits some = (on x_axis A.middle-x, on y_axis A.middle-y)
    where
      wider : (m : Z) → Within m (2 * pow2 i + 4 * pow2 o) → Within m (2 * slack)
      wider m w = omega arith

      on : (axis : Point → Float) → ((box : BoxOf axis (length cs) out) → Within (box.lo ⊕ box.hi) (2 * pow2 i + 4 * pow2 o)) → Centred slack axis (length cs) out
      on axis near = let box = box_of axis (length cs) out some in record { box = box; near = wider (box.lo ⊕ box.hi) (near box) }

  -- ---- a cluster hung before is hung after
  module _ (fin-x : (k : ℕ) → k < length cs → Fin binary64 (circle cs k).center.x) (fin-y : (k : ℕ) → k < length cs → Fin binary64 (circle cs k).center.y) where
    own : (shift : ℕ → Float) (a k : ℕ) → T (in_cluster numbers a k) → {x y : Float} → ShiftedBy i (shift (get_or numbers k 0)) x y → ShiftedBy i (shift a) x y
    own shift a k m {x} {y} h = subst (λ (b : ℕ). ShiftedBy i (shift b) x y) ((eqb_iff (get_or numbers k 0) a).0 m) h

    pub arranged_hangs : {n s v p q : ℕ} (a : ℕ) → n ≤ length cs
        → Hung s v (Members (in_cluster numbers a) n) (λ k. units (circle cs k).center.x) (λ k. units (circle cs k).center.y) p q
        → Hung (s + 4 * (pow2 i + pow2 o)) (v + 2 * (pow2 i + pow2 o)) (Members (in_cluster numbers a) n) (λ k. units (circle out k).center.x) (λ k. units (circle out k).center.y) p q
    arranged_hangs {n} a few h =
        let below : (k : ℕ) → k < n → k < length cs = λ k l. lt_of_lt_of_le l few in
        hung_shifted (units (A.cluster_x a) ⊕ units A.layout_x) (units (A.cluster_y a) ⊕ units A.layout_y) (pow2 i + pow2 o)
        (λ k m. two_shifts i o ti t-o (fin-x k (below k m.0)) (own A.cluster_x a k m.1 (A.first k (below k m.0)).x) (A.second k (below k m.0)).x)
        (λ k m. two_shifts i o ti t-o (fin-y k (below k m.0)) (own A.cluster_y a k m.1 (A.first k (below k m.0)).y) (A.second k (below k m.0)).y)
        h

-- ---- the first centre, as it is promised
module _ (n : ℕ) (numbers : List ℕ) (result : Result) (numbered : (k : ℕ) → number_of result k ≡ get_or numbers k 0) (out : List Circle) (slack s : ℕ) (fits : s ≤ 2 * slack) (i : ℕ) where
  abbrev own_cluster : ℕ → Type 0
  own_cluster = Members (in_cluster numbers (get_or numbers i 0)) n

  to_number : (k : ℕ) → own_cluster k → (k < n) × (number_of result k ≡ number_of result i)
  to_number k m = (m.0, numbered k ∙ (eqb_iff (get_or numbers k 0) (get_or numbers i 0)).0 m.1 ∙ sym (numbered i))

  from_number : (k : ℕ) → (k < n) × (number_of result k ≡ number_of result i) → own_cluster k
  from_number k m = (m.0, (eqb_iff (get_or numbers k 0) (get_or numbers i 0)).1 (sym (numbered k) ∙ m.1 ∙ numbered i))

  pub not_past_promised : (axis : Point → Float) → own_cluster i → NotBeyond s own_cluster (λ k. units (axis (circle out k).center)) i → NotPast slack axis n result out i
  not_past_promised axis m h =
      let x : ℕ → Z = λ k. units (axis (circle out k).center) in
      let r = range_of_lem (in_cluster numbers (get_or numbers i 0)) n x x i m in
      record { range = range_for to_number from_number r; not_past = wider (nat 2 ⊗ x i) (r.lo ⊕ r.hi) (not_past_range h r) }
    where
      wider : (u m : Z) → u ≼ m ⊕ nat s → u ≼ m ⊕ nat (2 * slack)
      wider u m h = omega arith
