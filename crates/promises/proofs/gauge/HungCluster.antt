-- `rotate_cluster` hangs its cluster: the turn makes the second centre level with the first, the mirrors put the first on the near side of the middle.
use mathlib.Core.Path.{◌≡◌, refl, ap, ◌∙◌}
use mathlib.Core.Bool.{Bool, true, false, cond}
use mathlib.Core.List.{List}
use Prim.Native.Nat.{ℕ, ◌+◌, ◌*◌, ◌≤◌, ◌<◌}
use native.Mathlib.Omega.{arith}
use lib.Dec.{T, ltb, ltb→lt, lit≤}
use lib.ListN.{length}
use lib.Ieee.{Float}
use Rattle.algebra.specs.Integer.{Z, Within, ◌⊖◌}
use Rattle.rounding.specs.Scale.{pow2}
use Rattle.shapes.specs.declared.circle.Circle.{Circle}
use Rattle.scope.specs.Numbers.{◌-ᶠ◌, ◌*ᶠ◌, ◌<ᶠ◌, two}
use Rattle.scope.specs.Links.{circle}
use Rattle.scope.specs.Gauge.{level, turn, rotated, turned, middle_x, middle_y, mirror_x, mirror_y, mirrored, rotate_cluster}
use Rattle.scope.specs.Promises.{units}
use Rattle.laws.proofs.Cases.{tested}
use Rattle.laws.proofs.FirstTwo.{both_found}
use Rattle.promises.proofs.numbers.Bounded.{Bounded}
use Rattle.promises.proofs.numbers.RangeOf.{Members}
use Rattle.promises.proofs.gauge.Carried.{StandsWithin, centre_bound}
use Rattle.promises.proofs.gauge.Mirror.{applied}
use Rattle.promises.proofs.gauge.Centres.{middle_x_is, middle_y_is}
use Rattle.promises.proofs.gauge.Level.{level_bound, level_without_turn, level-after_turn}
use Rattle.promises.proofs.gauge.Hangs.{Hung, hung_same, mirror_slack, mirrored_at, mirror_not_beyond, mirror_keeps_level}
use Rattle.promises.proofs.gauge.Cluster.{AllPlaced, first, second, box, in_x, in_y, half_way, changed_member, turned-level, turned_steep, turned-length, turned_carries, half_way_member, mirrored_member, rotate_two}

-- ---- where the mirrors put a centre
mirrored_x_is : (f h : Bool) (m n : Float) (c : Circle) → (applied h (mirror_y n) (applied f (mirror_x m) c)).center.x ≡ cond f (two *ᶠ m -ᶠ c.center.x) c.center.x
unfolding mirror_x mirror_y
mirrored_x_is true true m n c = refl
mirrored_x_is true false m n c = refl
mirrored_x_is false true m n c = refl
mirrored_x_is false false m n c = refl

mirrored_y_is : (f h : Bool) (m n : Float) (c : Circle) → (applied h (mirror_y n) (applied f (mirror_x m) c)).center.y ≡ cond h (two *ᶠ n -ᶠ c.center.y) c.center.y
unfolding mirror_x mirror_y
mirrored_y_is true true m n c = refl
mirrored_y_is true false m n c = refl
mirrored_y_is false true m n c = refl
mirrored_y_is false false m n c = refl

-- ---- the mirrors of circles within 2^25, about the first circle i
module _ (member : ℕ → Bool) (i : ℕ) (cs : List Circle) (l : i < length cs) (t : T (member i)) where
  abbrev xs : ℕ → Float
  xs k = (circle cs k).center.x

  abbrev ys : ℕ → Float
  ys k = (circle cs k).center.y

  -- the mirror in x leaves the heights
  half_way_y : (circle (half_way member i cs) i).center.y ≡ ys i
  half_way_y = ap (λ (c : Circle). c.center.y) (half_way_member member i cs i l t) ∙ mirrored_y_is (in_x member i cs) false (middle_x (box member i cs)) (middle_y (box member i cs)) (circle cs i)

  mirrored-x : (k : ℕ) → Members member (length cs) k → (circle (mirrored member i cs) k).center.x ≡ mirrored_at member (length cs) xs i k
  mirrored-x k h =
      ap (λ (c : Circle). c.center.x) (mirrored_member member i cs k h.0 h.1)
      ∙ mirrored_x_is (in_x member i cs) (in_y member i cs) (middle_x (box member i cs)) (middle_y (box member i cs)) (circle cs k)
      ∙ ap (λ (m : Float). cond (m <ᶠ xs i) (two *ᶠ m -ᶠ xs k) (xs k)) (middle_x_is member cs)

  mirrored-y : (k : ℕ) → Members member (length cs) k → (circle (mirrored member i cs) k).center.y ≡ mirrored_at member (length cs) ys i k
  mirrored-y k h =
      ap (λ (c : Circle). c.center.y) (mirrored_member member i cs k h.0 h.1)
      ∙ mirrored_y_is (in_x member i cs) (in_y member i cs) (middle_x (box member i cs)) (middle_y (box member i cs)) (circle cs k)
      ∙ ap (λ (y : Float). cond (middle_y (box member i cs) <ᶠ y) (two *ᶠ middle_y (box member i cs) -ᶠ ys k) (ys k)) half_way_y
      ∙ ap (λ (m : Float). cond (m <ᶠ ys i) (two *ᶠ m -ᶠ ys k) (ys k)) (middle_y_is member cs)

  mirrors_hang : ((k : ℕ) → k < length cs → T (member k) → Bounded (pow2 85) (xs k)) → ((k : ℕ) → k < length cs → T (member k) → Bounded (pow2 85) (ys k)) → (j : ℕ) → Members member (length cs) j
      → {v : ℕ} → Within (units (ys j) ⊖ units (ys i)) v
      → Hung mirror_slack (v + 2 * pow2 33) (Members member (length cs)) (λ k. units (circle (mirrored member i cs) k).center.x) (λ k. units (circle (mirrored member i cs) k).center.y) i j
  mirrors_hang inside-x inside-y j h w =
      hung_same (λ k p. ap units (mirrored-x k p)) (λ k p. ap units (mirrored-y k p)) (record {
        first_in = (l, t);
        second_in = h;
        across = mirror_not_beyond member (length cs) xs inside-x i l t;
        up = mirror_not_beyond member (length cs) ys inside-y i l t;
        level = mirror_keeps_level member (length cs) ys inside-y i l t j h.0 h.1 w;
      })

-- ---- after the turn the second centre is level with the first
module _ (member : ℕ → Bool) (i j : ℕ) (cs : List Circle) (in-i : Members member (length cs) i) (in-j : Members member (length cs) j)
    (P : StandsWithin centre_bound (circle cs i)) (Q : StandsWithin centre_bound (circle cs j)) where
  turn_brings_level : Within (units (circle (turned member i j cs) j).center.y ⊖ units (circle (turned member i j cs) i).center.y) level_bound
  turn_brings_level =
      let dx = (circle cs j).center.x -ᶠ (circle cs i).center.x in
      let dy = (circle cs j).center.y -ᶠ (circle cs i).center.y in
      elim (tested (level dx dy)) [
        | yes h ↦ rw (turned-level member i j cs h) (level_without_turn (circle cs i) (circle cs j) P Q h)
        | no h ↦
            let f = rotated (turn dx dy) (circle cs i).center in
            rw (turned_steep member i j cs h, changed_member member f cs j in-j.0 in-j.1, changed_member member f cs i in-i.0 in-i.1)
            (wider (units (f (circle cs j)).center.y ⊖ units (f (circle cs i)).center.y) (level-after_turn (circle cs i) (circle cs j) P Q h))
      ]
    where
      small : pow2 36 ≤ level_bound
      small = unfold pow2 in lit≤ tt

      wider : (d : Z) → Within d (pow2 36) → Within d level_bound
      wider d w = omega (arith, small)

-- ---- the whole step, of a cluster of two or more
-- a height's difference: after the turn, and two roundings of the mirror
abbrev pub gauge_level : ℕ
gauge_level = level_bound + 2 * pow2 33

pub rotate_hangs : (member : ℕ → Bool) (cs : List Circle) → AllPlaced member cs → T (ltb (second member cs) (length cs))
    → let out = rotate_cluster member cs in
    Hung mirror_slack gauge_level (Members member (length cs)) (λ k. units (circle out k).center.x) (λ k. units (circle out k).center.y) (first member cs) (second member cs)
rotate_hangs member cs placed t =
    let i = first member cs in
    let j = second member cs in
    let ts = turned member i j cs in
    let below = ltb→lt j (length cs) t in
    let two = both_found member (length cs) below in
    let first_below = two.0 in
    let f = two.1 in
    let m = two.2 in
    let carried = (turned_carries member i j cs (placed i first_below f) (placed j below m) placed).1 in
    let same = turned-length member i j cs in
    rw (rotate_two member cs t)
    (rw same at
    (mirrors_hang member i ts (rw same first_below) f
    (λ k h u. let c = (carried k (rw same at h) u).x in record { fin = c.fin; within = c.within })
    (λ k h u. let c = (carried k (rw same at h) u).y in record { fin = c.fin; within = c.within })
    j (rw same below, m) (turn_brings_level member i j cs (first_below, f) (below, m) (placed i first_below f) (placed j below m))))
