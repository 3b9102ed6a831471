-- Demand 3's distance and reach, for any last list of circles into which one motion carries each cluster of the offset step's circles, within 2^-20 on each axis.
use mathlib.Core.Path.{◌≡◌, refl, sym, ◌∙◌}
use mathlib.Core.Bool.{not}
use mathlib.Core.List.{List}
use mathlib.Core.Option.{some}
use Prim.Native.Nat.{ℕ, ◌*◌, ◌≤◌, ◌<◌}
use lib.Dec.{T}
use lib.ListN.{length, get_or}
use Rattle.algebra.specs.Integer.{Within}
use Rattle.rounding.specs.Scale.{pow2}
use Rattle.shapes.specs.declared.circle.Circle.{Circle}
use Rattle.scope.specs.Runs.{bit}
use Rattle.scope.specs.Links.{Region, circle}
use Rattle.scope.specs.Tolerance.{tolerance}
use Rattle.scope.specs.Offset.{parent_of, offset}
use Rattle.scope.specs.Promises.{units, squared_distance, Finite, Alike, ReachesWithin, Chain}
use Rattle.laws.proofs.Cases.{not_iff}
use Rattle.promises.proofs.offset.Parents.{child_chained_to_parent}
use Rattle.promises.proofs.numbers.Ranges.{Sound}
use Rattle.promises.proofs.gauge.Carried.{Motion, Carried}
use Rattle.promises.proofs.gauge.Pairs.{apart_x, apart_y, distance-kept, reach-kept}
use Rattle.promises.proofs.gauge.AllClusters.{ClustersCarried, pair_carried}
use Rattle.promises.proofs.gauge.AfterGauge.{placed-apart}
use Rattle.promises.proofs.offset.AfterOffset.{offset-length, offset-leaves, offset_keeps_radius, offset-places, offset-reach}

module _ (cs : List Circle) (rs : List Region) (sound : (i : ℕ) → i < length cs → Sound (circle cs i)) (count : ℕ) (numbers : List ℕ) (last : List Circle) (e b : ℕ) (small : 2 * e ≤ pow2 41)
    (inside : (i : ℕ) → i < length cs → get_or numbers i 0 < count)
    (together : (i j : ℕ) → i < length cs → j < length cs → Chain (length cs) (tolerance rs) rs i j → get_or numbers i 0 ≡ get_or numbers j 0)
    (carried : ClustersCarried e b count numbers (offset cs rs).circles last) where
  abbrev after : List Circle
  after = (offset cs rs).circles

  pair : (i j : ℕ) → i < length cs → j < length cs → get_or numbers i 0 ≡ get_or numbers j 0 → (g : Motion) × Carried g e b (circle after i) (circle last i) × Carried g e b (circle after j) (circle last j)
  pair i j h k q = pair_carried count numbers after last carried i j (rw (offset-length cs rs) h) (rw (offset-length cs rs) k) (inside i h) q

  pub radius-kept : (i : ℕ) → i < length cs → (circle last i).radius ≡ (circle cs i).radius
  radius-kept i h = (pair i i h h refl).1.radius ∙ offset_keeps_radius cs rs sound i h

  pub finite-kept : (i : ℕ) → i < length cs → Finite (circle last i)
  finite-kept i h = let c = (pair i i h h refl).1 in record { x = c.x.fin; y = c.y.fin; radius = rw (radius-kept i h) (sound i h).radius.fin }

  module _ (i j : ℕ) (hi : i < length cs) (hj : j < length cs) where
    apart-x : Within (apart_x (circle after i) (circle after j)) (pow2 84)
    apart-x = placed-apart (units (circle after i).center.x) (units (circle after j).center.x) (offset-places cs rs sound i hi).within-x (offset-places cs rs sound j hj).within-x

    apart-y : Within (apart_y (circle after i) (circle after j)) (pow2 84)
    apart-y = placed-apart (units (circle after i).center.y) (units (circle after j).center.y) (offset-places cs rs sound i hi).within-y (offset-places cs rs sound j hj).within-y

    pub distance_promised : get_or numbers i 0 ≡ get_or numbers j 0 → T (not (bit (offset cs rs).mask i)) → T (not (bit (offset cs rs).mask j))
        → Alike (pow2 44) (squared_distance (circle cs i) (circle cs j)) (squared_distance (circle last i) (circle last j))
    distance_promised q mi mj =
        let c = pair i j hi hj q in
        rw (sym (offset-leaves cs rs i ((not_iff (bit (offset cs rs).mask i)).0 mi)), sym (offset-leaves cs rs j ((not_iff (bit (offset cs rs).mask j)).0 mj)))
        (distance-kept small apart-x apart-y c.1 c.2)

  pub reach_promised : (i : ℕ) → i < length cs → T (bit (offset cs rs).mask i)
      → (p : ℕ) × (parent_of (length cs) rs i ≡ some p) × ReachesWithin (pow2 44) (units (circle last p).radius) (units (circle last i).radius) (squared_distance (circle last p) (circle last i))
  reach_promised i h t =
      let r = offset-reach cs rs sound i h t in
      let p = r.parent in
      let q = together i p h r.below (child_chained_to_parent (length cs) rs i p r.is_parent_lem) in
      let c = pair p i r.below h (sym q) in
      (p, r.is_parent_lem, rw (c.1.radius, c.2.radius) (reach-kept small (apart-x p i r.below h) (apart-y p i r.below h) c.1 c.2 r.reach))
