-- What the gauge leaves of accepted circles: every centre within 2^27, every radius as it was, the centres of one cluster at most (23/4) 2^20 + 2^-16 apart on
-- each axis, and every cluster of two or more hung.
use mathlib.Core.Path.{◌≡◌, refl, ◌∙◌}
use mathlib.Core.List.{List}
use Prim.Native.Nat.{ℕ, ◌+◌, ◌*◌, ◌≤◌, ◌<◌}
use native.Mathlib.Nat.{mul-le-mul}
use native.Mathlib.Omega.{arith}
use lib.Dec.{lit≤}
use lib.ListN.{length, get_or}
use Rattle.algebra.specs.Integer.{Z, nat, Within, ◌⊕◌, ◌⊖◌, ◌≈◌, ◌≼◌}
use Rattle.algebra.proofs.Size.{size, size-square, size-le}
use Rattle.rounding.specs.Scale.{pow2}
use Rattle.shapes.specs.declared.circle.Circle.{Circle}
use Rattle.scope.specs.Links.{Region, circle}
use Rattle.scope.specs.Offset.{offset}
use Rattle.scope.specs.Gauge.{in_cluster, gauged}
use Rattle.scope.specs.Promises.{units, square}
use Rattle.laws.proofs.FirstTwo.{first_of, second_of}
use Rattle.promises.proofs.numbers.Ranges.{Sound}
use Rattle.promises.proofs.numbers.RangeOf.{Members}
use Rattle.promises.proofs.gauge.Carried.{Motion, Carried, StandsWithin, centre_bound}
use Rattle.promises.proofs.gauge.Pairs.{apart_x, apart_y, spread_kept}
use Rattle.promises.proofs.gauge.AllClusters.{ClustersCarried, pair_carried, gauged-length, gauge_carries, gauge_hangs}
use Rattle.promises.proofs.gauge.Hangs.{Hung, mirror_slack}
use Rattle.promises.proofs.gauge.HungCluster.{gauge_level}
use Rattle.promises.proofs.offset.AfterOffset.{offset-length, offset_keeps_radius, offset-places}

-- ---- two centres within 2^21 + 2^-30 are at most (23/4) 2^20 apart
far : (x y : Z) → Within x centre_bound → Within y centre_bound → Within (x ⊖ y) (2 * centre_bound)
far x y h k = omega arith

pub placed-apart : (x y : Z) → Within x centre_bound → Within y centre_bound → Within (x ⊖ y) (pow2 84)
placed-apart x y h k = omega (arith, small)
  where
    small : 2 * centre_bound ≤ pow2 84
    small = unfold pow2 in lit≤ tt

diagonal-fits : 2 * (2 * centre_bound * (2 * centre_bound)) ≤ 23 * pow2 78 * (23 * pow2 78)
unfolding pow2
diagonal-fits = lit≤ tt

squares-le : (a b : Z) (w n : ℕ) → Within a w → Within b w → 2 * (w * w) ≤ n * n → square a ⊕ square b ≼ nat (n * n)
squares-le a b w n h k l = go (square a) (square b) (size a) (size b) (size-square a) (size-square b) (size-le a w h) (size-le b w k)
  where
    go : (A B : Z) (x y : ℕ) → A ≈ nat (x * x) → B ≈ nat (y * y) → x ≤ w → y ≤ w → A ⊕ B ≼ nat (n * n)
    go A B x y h k p q = omega (arith, mul-le-mul p p, mul-le-mul q q)

-- twice the gauge's error is below 2^-19
pub gauge_error_small : 2 * (pow2 34 + pow2 33) ≤ pow2 41
unfolding pow2
gauge_error_small = lit≤ tt

-- and so is that of the gauge, a shift below 2^31 and one below 2^32
pub shifts_error_small : 2 * (pow2 34 + pow2 33 + pow2 37 + pow2 38) ≤ pow2 41
unfolding pow2
shifts_error_small = lit≤ tt

wider : (x : Z) → Within x (23 * pow2 78 + pow2 43) → Within x (23 * pow2 78 + pow2 44)
wider x h = omega (arith, small)
  where
    small : pow2 43 ≤ pow2 44
    small = unfold pow2 in lit≤ tt

module _ (cs : List Circle) (rs : List Region) (sound : (i : ℕ) → i < length cs → Sound (circle cs i)) (count : ℕ) (numbers : List ℕ) where
  abbrev before : List Circle
  before = (offset cs rs).circles

  abbrev turned : List Circle
  turned = gauged count numbers before

  pub after_gauge_length : length turned ≡ length cs
  after_gauge_length = gauged-length numbers before count ∙ offset-length cs rs

  pub gauge_carries_clusters : ClustersCarried (pow2 34 + pow2 33) (pow2 87) count numbers before turned
  gauge_carries_clusters = gauge_carries numbers before (λ i h. offset-places cs rs sound i (rw (offset-length cs rs) at h)) count

  -- the clusters of two or more hang
  pub gauge_hangs_clusters : (a : ℕ) → a < count → let member = in_cluster numbers a in let n = length cs in
      second_of member n < n
      → Hung mirror_slack gauge_level (Members member n) (λ k. units (circle turned k).center.x) (λ k. units (circle turned k).center.y) (first_of member n) (second_of member n)
  gauge_hangs_clusters a l = rw (offset-length cs rs) at (gauge_hangs numbers before (λ i h. offset-places cs rs sound i (rw (offset-length cs rs) at h)) count a l)

  module _ (inside : (i : ℕ) → i < length cs → get_or numbers i 0 < count) where
    pair : (i j : ℕ) → i < length cs → j < length cs → get_or numbers i 0 ≡ get_or numbers j 0
        → (g : Motion) × Carried g (pow2 34 + pow2 33) (pow2 87) (circle before i) (circle turned i) × Carried g (pow2 34 + pow2 33) (pow2 87) (circle before j) (circle turned j)
    pair i j h k q = pair_carried count numbers before turned gauge_carries_clusters i j (rw (offset-length cs rs) h) (rw (offset-length cs rs) k) (inside i h) q

    pub gauge_keeps_radius : (i : ℕ) → i < length cs → (circle turned i).radius ≡ (circle cs i).radius
    gauge_keeps_radius i h = (pair i i h h refl).1.radius ∙ offset_keeps_radius cs rs sound i h

    pub gauge_places : (i : ℕ) → i < length cs → StandsWithin (pow2 87) (circle turned i)
    gauge_places i h =
        let c = (pair i i h h refl).1 in
        record { fin-x = c.x.fin; fin-y = c.y.fin; within-x = c.x.within; within-y = c.y.within; lifted = rw (gauge_keeps_radius i h) (sound i h).radius.lifted }

    pub gauge_spread : (i j : ℕ) → i < length cs → j < length cs → get_or numbers i 0 ≡ get_or numbers j 0
        → Within (apart_x (circle turned i) (circle turned j)) (23 * pow2 78 + pow2 44) × Within (apart_y (circle turned i) (circle turned j)) (23 * pow2 78 + pow2 44)
    gauge_spread i j h k q =
        let P = offset-places cs rs sound i h in
        let Q = offset-places cs rs sound j k in
        let x = units (circle before i).center.x in
        let y = units (circle before i).center.y in
        let u = units (circle before j).center.x in
        let v = units (circle before j).center.y in
        let c = pair i j h k q in
        let near = squares-le (x ⊖ u) (y ⊖ v) (2 * centre_bound) (23 * pow2 78) (far x u P.within-x Q.within-x) (far y v P.within-y Q.within-y) diagonal-fits in
        let s = spread_kept gauge_error_small (placed-apart x u P.within-x Q.within-x) (placed-apart y v P.within-y Q.within-y) c.1 c.2 (23 * pow2 78) near in
        (wider (apart_x (circle turned i) (circle turned j)) s.0, wider (apart_y (circle turned i) (circle turned j)) s.1)
