-- The gauge over all clusters: each cluster's circles are carried by one motion from where they were handed in, because every other cluster's step leaves them alone.
use mathlib.Core.Path.{◌≡◌, refl, sym, ap, ◌∙◌, subst}
use mathlib.Core.List.{List}
use Prim.Native.Nat.{ℕ, zero, suc, ◌+◌, ◌≤◌, ◌<◌}
use native.Mathlib.Omega.{arith}
use native.Mathlib.Decide.{dec_lt}
use lib.Dec.{T, leb, lt→ltb}
use lib.ListN.{length, get_or}
use lib.Ieee.{Float}
use Rattle.rounding.specs.Scale.{pow2}
use Rattle.shapes.specs.declared.circle.Circle.{Circle}
use Rattle.scope.specs.Runs.{in_turn}
use Rattle.scope.specs.Links.{circle}
use Rattle.scope.specs.Gauge.{rotate_cluster, in_cluster, gauged}
use Rattle.scope.specs.Promises.{units}
use Rattle.laws.proofs.Cases.{eqb_iff}
use Rattle.laws.proofs.FirstTwo.{first_of, second_of}
use Rattle.promises.proofs.numbers.RangeOf.{Members}
use Rattle.promises.proofs.gauge.Carried.{Motion, Carried, StandsWithin, centre_bound, Shifted, shifted_by, shift_carries}
use Rattle.promises.proofs.gauge.Cluster.{AllCarried, rotate_length, rotate_leaves_others, rotate_carries}
use Rattle.promises.proofs.gauge.Hangs.{Hung, hung_same, mirror_slack}
use Rattle.promises.proofs.gauge.HungCluster.{gauge_level, rotate_hangs}

-- ---- clusters carried each by a motion of its own: two circles of one number are carried by one
abbrev pub ClustersCarried : ℕ → ℕ → ℕ → List ℕ → List Circle → List Circle → Type 0
ClustersCarried e b count numbers from to = (a : ℕ) → a < count → (g : Motion) × AllCarried g e b (in_cluster numbers a) from to

pub pair_carried : {e b : ℕ} (count : ℕ) (numbers : List ℕ) (from to : List Circle) → ClustersCarried e b count numbers from to → (i j : ℕ) → i < length from → j < length from
    → get_or numbers i 0 < count → get_or numbers i 0 ≡ get_or numbers j 0 → (g : Motion) × Carried g e b (circle from i) (circle to i) × Carried g e b (circle from j) (circle to j)
pair_carried count numbers from to carried i j hi hj l q =
    let r = carried (get_or numbers i 0) l in
    (r.0, r.1 i hi ((eqb_iff (get_or numbers i 0) (get_or numbers i 0)).1 refl), r.1 j hj ((eqb_iff (get_or numbers j 0) (get_or numbers i 0)).1 (sym q)))

-- a shift by a vector of each cluster, then by one of all: the packing and the centring
pub clusters-shifted : {e b : ℕ} (count : ℕ) (numbers : List ℕ) (from to out : List Circle) (i o : ℕ) → T (leb i 1029) → T (leb o 1029) → (cluster_x cluster_y : ℕ → Float) (layout_x layout_y : Float) (between : ℕ → Circle)
    → ((k : ℕ) → k < length from → Shifted i (cluster_x (get_or numbers k 0)) (cluster_y (get_or numbers k 0)) (circle to k) (between k))
    → ((k : ℕ) → k < length from → Shifted o layout_x layout_y (between k) (circle out k))
    → ClustersCarried e b count numbers from to → ClustersCarried (e + pow2 i + pow2 o) (pow2 (54 + o)) count numbers from out
clusters-shifted count numbers from to out i o ti t-o cluster_x cluster_y layout_x layout_y between first second carried a l =
    let r = carried a l in (
      shifted_by (shifted_by r.0 (cluster_x a) (cluster_y a)) layout_x layout_y,
      λ k h m.
          let own : Shifted i (cluster_x a) (cluster_y a) (circle to k) (between k) = subst (λ (c : ℕ). Shifted i (cluster_x c) (cluster_y c) (circle to k) (between k)) ((eqb_iff (get_or numbers k 0) a).0 m) (first k h) in
          shift_carries o t-o layout_x layout_y (second k h) (shift_carries i ti (cluster_x a) (cluster_y a) own (r.1 k h m)),
    )

-- ---- the gauge
module _ (numbers : List ℕ) (cs : List Circle) where
  gauged-none : gauged 0 numbers cs ≡ cs
  unfolding gauged in_turn
  gauged-none = refl

  gauged_next : (n : ℕ) → gauged (suc n) numbers cs ≡ rotate_cluster (in_cluster numbers n) (gauged n numbers cs)
  unfolding gauged in_turn
  gauged_next n = refl

  pub gauged-length : (n : ℕ) → length (gauged n numbers cs) ≡ length cs
  gauged-length zero = ap length gauged-none
  gauged-length (suc n) = ap length (gauged_next n) ∙ rotate_length (in_cluster numbers n) (gauged n numbers cs) ∙ gauged-length n

  other_cluster : (a n i : ℕ) → T (in_cluster numbers a i) → (a ≡ n → ⊥) → ¬ T (in_cluster numbers n i)
  other_cluster a n i h d t = d (sym ((eqb_iff (get_or numbers i 0) a).0 h) ∙ (eqb_iff (get_or numbers i 0) n).0 t)

  -- another cluster's step leaves it
  gauged_next_other : (n a i : ℕ) → T (in_cluster numbers a i) → (a ≡ n → ⊥) → circle (gauged (suc n) numbers cs) i ≡ circle (gauged n numbers cs) i
  gauged_next_other n a i h d = ap (λ (l : List Circle). circle l i) (gauged_next n) ∙ rotate_leaves_others (in_cluster numbers n) (gauged n numbers cs) i (other_cluster a n i h d)

  -- before its own step a circle stands where it was handed in
  pub gauged-before : (n a i : ℕ) → n ≤ a → T (in_cluster numbers a i) → circle (gauged n numbers cs) i ≡ circle cs i
  gauged-before zero a i l h = ap (λ (c : List Circle). circle c i) gauged-none
  gauged-before (suc n) a i l h = gauged_next_other n a i h (λ e. omega arith) ∙ gauged-before n a i (omega arith) h

  pub gauge_carries : ((i : ℕ) → i < length cs → StandsWithin centre_bound (circle cs i)) → (count : ℕ) → ClustersCarried (pow2 34 + pow2 33) (pow2 87) count numbers cs (gauged count numbers cs)
  gauge_carries placed zero a l = absurd (omega arith)
  gauge_carries placed (suc n) a l = elim (dec_lt a n) [
    | yes h ↦ let r = gauge_carries placed n a h in (r.0, λ i k t. rw (gauged_next_other n a i t (λ e. omega arith)) (r.1 i k t))
    | no h ↦ own (omega arith)
  ]
    where
      stands : (i : ℕ) → T (in_cluster numbers n i) → circle (gauged n numbers cs) i ≡ circle cs i
      stands i t = gauged-before n n i (omega arith) t

      own : a ≡ n → (g : Motion) × AllCarried g (pow2 34 + pow2 33) (pow2 87) (in_cluster numbers a) cs (gauged (suc n) numbers cs)
      own e =
          let r = rotate_carries (in_cluster numbers n) (gauged n numbers cs) (λ i k t. rw (stands i t) (placed i (rw (gauged-length n) at k))) in
          rw e (r.0, λ i k t. rw (gauged_next n) (rw (stands i t) at (r.1 i (rw (gauged-length n) k) t)))

  -- a cluster of two or more hangs after its own step, and no other step touches it
  pub gauge_hangs : ((i : ℕ) → i < length cs → StandsWithin centre_bound (circle cs i)) → (count a : ℕ) → a < count
      → let member = in_cluster numbers a in let n = length cs in let out = gauged count numbers cs in
      second_of member n < n
      → Hung mirror_slack gauge_level (Members member n) (λ k. units (circle out k).center.x) (λ k. units (circle out k).center.y) (first_of member n) (second_of member n)
  gauge_hangs placed zero a l two = absurd (omega arith)
  gauge_hangs placed (suc n) a l two = elim (dec_lt a n) [
    | yes h ↦
        let left : (k : ℕ) → Members (in_cluster numbers a) (length cs) k → circle (gauged (suc n) numbers cs) k ≡ circle (gauged n numbers cs) k = λ k p. gauged_next_other n a k p.1 (λ e. omega arith) in
        hung_same (λ k p. ap (λ (c : Circle). units c.center.x) (left k p)) (λ k p. ap (λ (c : Circle). units c.center.y) (left k p)) (gauge_hangs placed n a h two)
    | no h ↦
        let e : a ≡ n = omega arith in
        let member = in_cluster numbers n in
        let before = gauged n numbers cs in
        let same = gauged-length n in
        let hung = rotate_hangs member before (λ i k t. rw (gauged-before n n i (omega arith) t) (placed i (rw same at k))) (lt→ltb (second_of member (length before)) (length before) (rw (same, ← e) two)) in
        rw (e, gauged_next n) (rw same at hung)
  ]
