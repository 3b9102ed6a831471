-- The second centre comes out of the turn level with the first. Where no turn is made its height differs by at most 1e-10 times dx, and dx is at most twice what
-- the offset step leaves of a coordinate; a turn leaves roundings alone.
use mathlib.Core.Logic.{inl, inr}
use mathlib.Core.Bool.{false, ◌&&◌}
use Prim.Native.Nat.{ℕ, ◌+◌, ◌*◌, ◌≤◌}
use native.Mathlib.Nat.{mul-le-mul_left, mul-le-mul_right, le_of_mul-le-mul_right}
use native.Mathlib.Omega.{arith}
use lib.Dec.{T, lit≤}
use lib.Ieee.{Float, binary64, eq, fits, of_bits}
use Rattle.algebra.specs.Integer.{Z, nat, Within, Near, ◌⊕◌, ◌⊖◌, ◌⊗◌, ◌≈◌, ◌≼◌}
use Rattle.algebra.proofs.Size.{within-mul, within_difference}
use Rattle.rounding.specs.Value.{mag, Fin}
use Rattle.rounding.specs.Scale.{pow2}
use Rattle.rounding.proofs.Value.{val-mag}
use Rattle.rounding.proofs.Double.{sub64, mul64, pow2_scale}
use Rattle.rounding.proofs.Order.{eq_is, le_is}
use Rattle.shapes.specs.declared.circle.Circle.{Circle}
use Rattle.scope.specs.Numbers.{◌-ᶠ◌, ◌*ᶠ◌, ◌<ᶠ◌, ◌≤ᶠ◌, nought, e_10, abs}
use Rattle.scope.specs.Gauge.{level, turn, rotated}
use Rattle.scope.specs.Promises.{units}
use Rattle.laws.proofs.Cases.{and_iff, or_iff}
use Rattle.promises.proofs.numbers.Magnitude.{one-pos, mag-le, within-mag, abs-fin, abs_mag, abs-sign}
use Rattle.promises.proofs.numbers.Bounded.{near_of}
use Rattle.promises.proofs.gauge.Axis.{difference_near}
use Rattle.promises.proofs.gauge.Carried.{StandsWithin, centre_bound, in_reach_of_turn}
use Rattle.promises.proofs.gauge.Turn.{turn_is_unit, turn_levels, not_level_some, nought-fin, nought-value}
use Rattle.promises.proofs.gauge.Rotate.{rotation_carries, turn_about}

-- 55 * 2^-17: 1e-10 times twice a centre's bound is 4.1943e-4, and this 4.1962e-4
abbrev pub level_bound : ℕ
level_bound = 55 * pow2 43

-- ---- 1e-10
e_10-fin : Fin binary64 e_10
unfolding Fin fits e_10 of_bits
e_10-fin = tt

-- what dx is within
abbrev dx_bound : ℕ
dx_bound = 2 * centre_bound + pow2 29

dx_fits : dx_bound ≤ pow2 83
unfolding pow2
dx_fits = lit≤ tt

product_fits : mag binary64 e_10 * dx_bound ≤ pow2 54 * pow2 60
unfolding mag e_10 of_bits pow2
product_fits = lit≤ tt

height-fits : mag binary64 e_10 * dx_bound + (pow2 0 + pow2 29) * pow2 60 ≤ level_bound * pow2 60
unfolding mag e_10 of_bits pow2
height-fits = lit≤ tt

rounding_fits : pow2 29 ≤ level_bound
unfolding pow2
rounding_fits = lit≤ tt

-- ---- of two centres
module _ (first second : Circle) (P : StandsWithin centre_bound first) (Q : StandsWithin centre_bound second) where
  abbrev dx : Float
  dx = second.center.x -ᶠ first.center.x

  abbrev dy : Float
  dy = second.center.y -ᶠ first.center.y

  abbrev across : Z
  across = units second.center.x ⊖ units first.center.x

  abbrev up : Z
  up = units second.center.y ⊖ units first.center.y

  difference : (x y : Float) → Fin binary64 x → Fin binary64 y → Within (units x) centre_bound → Within (units y) centre_bound
      → Fin binary64 (y -ᶠ x) × Near (units (y -ᶠ x)) (units y ⊖ units x) (pow2 29) × Within (units (y -ᶠ x)) dx_bound
  difference x y p q v w =
      let r = sub64 29 tt y x q p (omega (arith, dx_fits)) in
      let n = near_of r.near in
      (r.fin, n, go (units (y -ᶠ x)) (units x) (units y) n v w)
    where
      go : (d x y : Z) → Near d (y ⊖ x) (pow2 29) → Within x centre_bound → Within y centre_bound → Within d dx_bound
      go d x y n v w = omega arith

  pub dx_is : Fin binary64 dx × Near (units dx) across (pow2 29) × Within (units dx) dx_bound
  dx_is = difference first.center.x second.center.x P.fin-x Q.fin-x P.within-x Q.within-x

  pub dy_is : Fin binary64 dy × Near (units dy) up (pow2 29) × Within (units dy) dx_bound
  dy_is = difference first.center.y second.center.y P.fin-y Q.fin-y P.within-y Q.within-y

  -- ---- no turn: as it was handed in
  pub level_without_turn : T (level dx dy) → Within up level_bound
  unfolding level
  level_without_turn h = elim ((or_iff (eq dx nought && eq dy nought) ((nought <ᶠ dx) && (abs dy ≤ᶠ e_10 *ᶠ dx))).0 h) [
    | inl z ↦
        let e = (eq_is binary64 dy nought dy_is.0 nought-fin).0 ((and_iff (eq dx nought) (eq dy nought)).0 z).1 in
        flat (units dy) up (rw nought-value at e) dy_is.1
    | inr z ↦
        let r = mul64 0 tt e_10 dx e_10-fin dx_is.0 (wider (units e_10 ⊗ units dx) tenth) in
        let l = (le_is binary64 (abs dy) (e_10 *ᶠ dx) (abs-fin dy dy_is.0) r.fin).0 ((and_iff (nought <ᶠ dx) (abs dy ≤ᶠ e_10 *ᶠ dx)).0 z).1 in
        let m = rw (val-mag binary64 (abs dy) (abs-sign dy), abs_mag dy) at l in
        near (units dy) up (mag binary64 dy) (size_of_dy (mag binary64 dy) (units (e_10 *ᶠ dx)) (units e_10 ⊗ units dx) m r.near tenth) (within-mag dy (mag binary64 dy) (omega arith)) dy_is.1
  ]
    where
      tenth : Within (units e_10 ⊗ units dx) (mag binary64 e_10 * dx_bound)
      tenth = within-mul (within-mag e_10 (mag binary64 e_10) (omega arith)) dx_is.2

      wider : (a : Z) → Within a (mag binary64 e_10 * dx_bound) → Within a (pow2 54 * pow2 60)
      wider a w = omega (arith, product_fits)

      flat : (d u : Z) → d ≈ nat 0 → Near d u (pow2 29) → Within u level_bound
      flat d u e n = omega (arith, rounding_fits)

      size_of_dy : (m : ℕ) (z p : Z) → nat m ≼ z → Near (z ⊗ nat (pow2 60)) p (pow2 0 * pow2 60) → Within p (mag binary64 e_10 * dx_bound) → m + pow2 29 ≤ level_bound
      size_of_dy m z p l n w = le_of_mul-le-mul_right {k = pow2 60} (omega (arith, mul-le-mul_right (pow2 60) l, height-fits)) one-pos

      near : (d u : Z) (m : ℕ) → m + pow2 29 ≤ level_bound → Within d m → Near d u (pow2 29) → Within u level_bound
      near d u m l w n = omega arith

  -- ---- a turn: the two roundings of a centre, and what dx*s + dy*c is off 0 by
  pub level-after_turn : ¬ T (level dx dy) → let t = turn dx dy in let p = first.center in
      Within (units (rotated t p second).center.y ⊖ units (rotated t p first).center.y) (pow2 36)
  unfolding turn_about
  level-after_turn h =
      let t = turn dx dy in
      let p = first.center in
      let some = not_level_some dx dy dx_is.0 dy_is.0 h in
      let u = turn_is_unit dx dy dx_is.0 dy_is.0 some in
      let a = (rotation_carries t u first first (in_reach_of_turn P) (in_reach_of_turn P)).y in
      let b = (rotation_carries t u first second (in_reach_of_turn P) (in_reach_of_turn Q)).y in
      let c = units t.cosine in
      let s = units t.sine in
      let turned = difference_near false (s ⊗ units second.center.x ⊕ c ⊗ units second.center.y) (s ⊗ units p.x ⊕ c ⊗ units p.y) (s ⊗ across ⊕ c ⊗ up)
      (units p.y ⊗ nat (pow2 60) ⊖ (s ⊗ units p.x ⊕ c ⊗ units p.y)) (units (rotated t p second).center.y) (units (rotated t p first).center.y) (pow2 60) (pow2 34) (pow2 35)
      (share s c (units second.center.x) (units first.center.x) (units second.center.y) (units first.center.y)) (omega (arith, pow2_scale 34 1)) b.near a.near in
      small (units (rotated t p second).center.y ⊖ units (rotated t p first).center.y) (s ⊗ across ⊕ c ⊗ up) (units dy ⊗ c ⊕ units dx ⊗ s) ((units dx ⊖ across) ⊗ s) ((units dy ⊖ up) ⊗ c)
      (mag binary64 dx) (mag binary64 dy) (mag-le dx dx_bound dx_is.2) (mag-le dy dx_bound dy_is.2) turned (turn_levels dx dy dx_is.0 dy_is.0 some)
      (within-mul (within_difference dx_is.1) u.sine-small) (within-mul (within_difference dy_is.1) u.cosine-small) (parts s c (units dx) (units dy) across up)
    where
      share : (s c x a y b : Z) → (s ⊗ x ⊕ c ⊗ y) ⊖ (s ⊗ a ⊕ c ⊗ b) ≈ s ⊗ (x ⊖ a) ⊕ c ⊗ (y ⊖ b)
      share s c x a y b = omega arith

      parts : (s c dx dy x y : Z) → s ⊗ x ⊕ c ⊗ y ≈ (dy ⊗ c ⊕ dx ⊗ s) ⊖ (dx ⊖ x) ⊗ s ⊖ (dy ⊖ y) ⊗ c
      parts s c dx dy x y = omega arith

      fits_in : pow2 35 * pow2 60 + 4 * (pow2 6 * (dx_bound + dx_bound)) + (pow2 29 * (pow2 60 + pow2 11) + pow2 29 * (pow2 60 + pow2 11)) ≤ pow2 36 * pow2 60
      fits_in = unfold pow2 in lit≤ tt

      small : (d w e a b : Z) (m n : ℕ) → m ≤ dx_bound → n ≤ dx_bound → Near (d ⊗ nat (pow2 60)) w (pow2 35 * pow2 60) → Within e (4 * (pow2 6 * (m + n))) → Within a (pow2 29 * (pow2 60 + pow2 11)) → Within b (pow2 29 * (pow2 60 + pow2 11)) → w ≈ e ⊖ a ⊖ b
          → Within d (pow2 36)
      small d w e a b m n lm ln h k u v q =
          let top : 4 * (pow2 6 * (m + n)) ≤ 4 * (pow2 6 * (dx_bound + dx_bound)) = omega (arith, mul-le-mul_left (pow2 6) lm, mul-le-mul_left (pow2 6) ln) in
          record { above = le_of_mul-le-mul_right {k = pow2 60} (omega (arith, fits_in)) one-pos; below = le_of_mul-le-mul_right {k = pow2 60} (omega (arith, fits_in)) one-pos }
