-- One centre turned about a pivot, in the source's order of operations: where both stand within 2^22, each axis of the result is the exact turn's up to 2^-26, and within 2^25.
use mathlib.Core.Path.{ap, subst}
use mathlib.Core.Bool.{false}
use Prim.Native.Nat.{ℕ, ◌+◌, ◌*◌, ◌≤◌, ◌<◌}
use native.Mathlib.Nat.{mul-le-mul_right, le_of_mul-le-mul_right}
use native.Mathlib.Omega.{arith}
use lib.Dec.{lit≤}
use lib.Ieee.{Float, binary64, neg, sub}
use Rattle.algebra.specs.Integer.{Z, ◌⊕◌, ◌⊖◌, ◌⊗◌, ◌≈◌, nat, opp, Within, Near}
use Rattle.algebra.proofs.Size.{within-mul, within_difference}
use Rattle.rounding.specs.Value.{Fin}
use Rattle.rounding.specs.Scale.{pow2}
use Rattle.rounding.proofs.Double.{add64, sub64, mul64, pow2_scale, pow2-mul}
use Rattle.rounding.proofs.Negate.{neg-val, neg-fin}
use Rattle.shapes.specs.declared.point.Point.{Point}
use Rattle.shapes.specs.declared.circle.Circle.{Circle}
use Rattle.scope.specs.Numbers.{◌+ᶠ◌, ◌-ᶠ◌, ◌*ᶠ◌}
use Rattle.scope.specs.Gauge.{Turn, rotated}
use Rattle.scope.specs.Promises.{units}
use Rattle.promises.proofs.gauge.Axis.{Axis}
use Rattle.promises.proofs.gauge.Carried.{Motion, Carried, StandsWithin}
use Rattle.promises.proofs.numbers.Magnitude.{one-pos}
use Rattle.promises.proofs.gauge.Turn.{Turned}

-- ---- d * k, d the rounded difference of two coordinates: within 2^-29 of the exact product A
record Product (z : Float) (A : Z) : Type 0 where
  fin : Fin binary64 z
  near : Near (units z ⊗ nat (pow2 60)) A (pow2 31 * pow2 60)
  within : Within (units z) (pow2 84)
  exact : Within A (pow2 83 * (pow2 60 + pow2 11))

product_near : (z d D k : Z) (L a b f : ℕ) → a + b ≤ f → Near (z ⊗ nat L) (d ⊗ k) a → Within ((d ⊖ D) ⊗ k) b → Near (z ⊗ nat L) (D ⊗ k) f
product_near z d D k L a b f l h r = omega arith

whole-near : (a b : Z) (e : ℕ) → Near (a ⊗ nat 1) b (e * 1) → Near a b e
whole-near a b e h = omega arith

factor_below_two : (k : Z) → Within k (pow2 60 + pow2 11) → Within k (pow2 61)
factor_below_two k w = omega (arith, pow2_scale 60 1, small)
  where
    small : pow2 11 ≤ pow2 60
    small = unfold pow2 in lit≤ tt

product_turned : (x p k : Float) → Fin binary64 x → Fin binary64 p → Fin binary64 k → Within (units x) (pow2 82) → Within (units p) (pow2 82) → Within (units k) (pow2 60 + pow2 11)
    → Product ((x -ᶠ p) *ᶠ k) ((units x ⊖ units p) ⊗ units k)
product_turned x p k fx fp fk wx wp wk =
    let d = x -ᶠ p in
    let D = units x ⊖ units p in
    let D-within : Within D (pow2 83) = omega (arith, pow2_scale 82 1) in
    let r = sub64 29 tt x p fx fp D-within in
    let k-within = factor_below_two (units k) wk in
    let z = mul64 30 tt d k r.fin fk (subst (λ (n : ℕ). Within (units d ⊗ units k) n) (pow2-mul 23 61) (within-mul r.within k-within)) in
    let slip = within-mul (within_difference (whole-near (units d) D (pow2 29) r.near)) k-within in
    let budget : pow2 30 * pow2 60 + pow2 29 * pow2 61 ≤ pow2 31 * pow2 60 =
    omega (arith, ap (λ (n : ℕ). pow2 29 * n) (pow2_scale 60 1), ap (λ (n : ℕ). n * pow2 60) (pow2_scale 29 1), ap (λ (n : ℕ). n * pow2 60) (pow2_scale 30 1)) in
    record {
      fin = z.fin;
      near = product_near (units (d *ᶠ k)) (units d) D (units k) (pow2 60) (pow2 30 * pow2 60) (pow2 29 * pow2 61) (pow2 31 * pow2 60) budget z.near slip;
      within = z.within;
      exact = within-mul D-within wk;
    }

opposite_product : (z : Float) (A : Z) → Product z A → Product (neg z) (opp A)
opposite_product z A r = record {
  fin = neg-fin binary64 z r.fin;
  near = rw (neg-val binary64 z) (turned (units z) A (pow2 60) (pow2 31 * pow2 60) r.near);
  within = rw (neg-val binary64 z) (bounded (units z) (pow2 84) r.within);
  exact = bounded A (pow2 83 * (pow2 60 + pow2 11)) r.exact;
}
  where
    turned : (z A : Z) (L e : ℕ) → Near (z ⊗ nat L) A e → Near (opp z ⊗ nat L) (opp A) e
    turned z A L e h = omega arith

    bounded : (z : Z) (b : ℕ) → Within z b → Within (opp z) b
    bounded z b h = omega arith

-- ---- p + m + n, for the pivot's coordinate p and two such products
sum_near : (z t m n p A B : Z) (L e f g b : ℕ) → f + e + (g + g) ≤ b → Near (z ⊗ nat 1) (t ⊕ n) (e * 1) → Near (t ⊗ nat 1) (p ⊕ m) (f * 1) → Near (m ⊗ nat L) A (g * L) → Near (n ⊗ nat L) B (g * L)
    → Near (z ⊗ nat L) (p ⊗ nat L ⊕ (A ⊕ B)) (b * L)
sum_near z t m n p A B L e f g b l h k r s =
    omega (arith, mul-le-mul_right L l, mul-le-mul_right L h.above, mul-le-mul_right L h.below, mul-le-mul_right L k.above, mul-le-mul_right L k.below)

sum-within : (z p A B : Z) (L a b f r : ℕ) → 0 < L → a * L + (b + b) + f * L ≤ r * L → Near (z ⊗ nat L) (p ⊗ nat L ⊕ (A ⊕ B)) (f * L) → Within p a → Within A b → Within B b → Within z r
sum-within z p A B L a b f r L-pos l h w wa wb = record {
  above = le_of_mul-le-mul_right {k = L} (omega (arith, mul-le-mul_right L w.above, mul-le-mul_right L w.below)) L-pos;
  below = le_of_mul-le-mul_right {k = L} (omega (arith, mul-le-mul_right L w.above, mul-le-mul_right L w.below)) L-pos;
}

errors_add : pow2 31 + pow2 32 + (pow2 31 + pow2 31) ≤ pow2 34
unfolding pow2
errors_add = lit≤ tt

-- 2^22 + 2 * 2^23 * (1 + 2^-49) + 2^-26 ≤ 2^25
place-fits : pow2 82 * pow2 60 + (pow2 83 * (pow2 60 + pow2 11) + pow2 83 * (pow2 60 + pow2 11)) + pow2 34 * pow2 60 ≤ pow2 85 * pow2 60
unfolding pow2
place-fits = lit≤ tt

same_near : (z w v : Z) (e : ℕ) → v ≈ w → Near z w e → Near z v e
same_near z w v e q h = omega arith

sum_axis : (p m n : Float) (A B u k : Z) → Fin binary64 p → Within (units p) (pow2 82) → Product m A → Product n B → u ⊕ k ≈ units p ⊗ nat (pow2 60) ⊕ (A ⊕ B) → Axis false u k (p +ᶠ m +ᶠ n) (pow2 34) (pow2 85)
sum_axis p m n A B u k fp wp M N e =
    let t = add64 31 tt p m fp M.fin (omega (arith, M.within, pow2_scale 82 2, pow2_scale 82 3)) in
    let z = add64 32 tt (p +ᶠ m) n t.fin N.fin (omega (arith, t.within, N.within, pow2_scale 84 1, pow2_scale 84 2)) in
    let near = sum_near (units (p +ᶠ m +ᶠ n)) (units (p +ᶠ m)) (units m) (units n) (units p) A B (pow2 60) (pow2 32) (pow2 31) (pow2 31) (pow2 34) errors_add z.near t.near M.near N.near in
    record {
      fin = z.fin;
      within = sum-within (units (p +ᶠ m +ᶠ n)) (units p) A B (pow2 60) (pow2 82) (pow2 83 * (pow2 60 + pow2 11)) (pow2 34) (pow2 85) one-pos place-fits near wp M.exact N.exact;
      near = same_near (units (p +ᶠ m +ᶠ n) ⊗ nat (pow2 60)) (units p ⊗ nat (pow2 60) ⊕ (A ⊕ B)) (u ⊕ k) (pow2 34 * pow2 60) e near;
    }

-- ---- the turn about a pivot as a motion
unfoldable pub turn_about : (t : Turn) → Turned t → Point → Motion
turn_about t h pivot = record {
  cosine = units t.cosine;
  sine = units t.sine;
  unit = h.unit;
  mirror_x = false;
  mirror_y = false;
  shift_x = units pivot.x ⊗ nat (pow2 60) ⊖ (units t.cosine ⊗ units pivot.x ⊖ units t.sine ⊗ units pivot.y);
  shift_y = units pivot.y ⊗ nat (pow2 60) ⊖ (units t.sine ⊗ units pivot.x ⊕ units t.cosine ⊗ units pivot.y);
}

regroup_x : (c s x y a b L : Z) → (c ⊗ x ⊖ s ⊗ y) ⊕ (a ⊗ L ⊖ (c ⊗ a ⊖ s ⊗ b)) ≈ a ⊗ L ⊕ ((x ⊖ a) ⊗ c ⊕ opp ((y ⊖ b) ⊗ s))
regroup_x c s x y a b L = omega arith

regroup_y : (c s x y a b L : Z) → (s ⊗ x ⊕ c ⊗ y) ⊕ (b ⊗ L ⊖ (s ⊗ a ⊕ c ⊗ b)) ≈ b ⊗ L ⊕ ((x ⊖ a) ⊗ s ⊕ (y ⊖ b) ⊗ c)
regroup_y c s x y a b L = omega arith

pub rotation_carries : (t : Turn) (h : Turned t) (pivot c : Circle) → StandsWithin (pow2 82) pivot → StandsWithin (pow2 82) c → Carried (turn_about t h pivot.center) (pow2 34) (pow2 85) c (rotated t pivot.center c)
unfolding turn_about rotated sub
rotation_carries t h pivot c P C =
    let px = pivot.center.x in
    let py = pivot.center.y in
    let x = c.center.x in
    let y = c.center.y in
    let xc = product_turned x px t.cosine C.fin-x P.fin-x h.fin-cosine C.within-x P.within-x h.cosine-small in
    let ys = product_turned y py t.sine C.fin-y P.fin-y h.fin-sine C.within-y P.within-y h.sine-small in
    let xs = product_turned x px t.sine C.fin-x P.fin-x h.fin-sine C.within-x P.within-x h.sine-small in
    let yc = product_turned y py t.cosine C.fin-y P.fin-y h.fin-cosine C.within-y P.within-y h.cosine-small in
    record {
      x = sum_axis px ((x -ᶠ px) *ᶠ t.cosine) (neg ((y -ᶠ py) *ᶠ t.sine)) ((units x ⊖ units px) ⊗ units t.cosine) (opp ((units y ⊖ units py) ⊗ units t.sine))
          (units t.cosine ⊗ units x ⊖ units t.sine ⊗ units y) (units px ⊗ nat (pow2 60) ⊖ (units t.cosine ⊗ units px ⊖ units t.sine ⊗ units py)) P.fin-x P.within-x xc
          (opposite_product ((y -ᶠ py) *ᶠ t.sine) ((units y ⊖ units py) ⊗ units t.sine) ys)
          (regroup_x (units t.cosine) (units t.sine) (units x) (units y) (units px) (units py) (nat (pow2 60)));
      y = sum_axis py ((x -ᶠ px) *ᶠ t.sine) ((y -ᶠ py) *ᶠ t.cosine) ((units x ⊖ units px) ⊗ units t.sine) ((units y ⊖ units py) ⊗ units t.cosine)
          (units t.sine ⊗ units x ⊕ units t.cosine ⊗ units y) (units py ⊗ nat (pow2 60) ⊖ (units t.sine ⊗ units px ⊕ units t.cosine ⊗ units py)) P.fin-y P.within-y xs yc
          (regroup_y (units t.cosine) (units t.sine) (units x) (units y) (units px) (units py) (nat (pow2 60)));
      radius = C.lifted;
    }
