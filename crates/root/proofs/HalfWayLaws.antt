-- What lies between the half-way points around it is the f64 nearest the root of n units of 2 ^ -2148, and past the last of these points the infinity is: in the
-- patterns that the code puts together.
use mathlib.Core.Path.{◌≡◌, refl, sym, ap, ◌∙◌, subst}
use mathlib.Core.Bool.{false}
use Prim.Native.Nat.{ℕ, ◌+◌, ◌-◌, ◌*◌, ◌^◌, ◌≤◌, ◌<◌}
use native.Mathlib.Nat.{le_of_lt, le_of_eq, mul-le-mul, mul-le-mul_right}
use native.Mathlib.Omega.{arith}
use lib.Ieee.{inf, binary64, of_bits}
use lib.Ieee.Bits.{of_bits-fits}
use Rattle.rounding.specs.Value.{mag}
use Rattle.rounding.proofs.Value.{mag_of, sign_of}
use Rattle.rounding.proofs.root.Units.{units_root_unique, units_root_overflow}
use Rattle.root.specs.Parts.{infinity}
use Rattle.root.specs.Sums.{IsNearestRootOf}
use Rattle.root.proofs.PatternLaws.{joined-value, has_value_fin}
use Rattle.root.proofs.TieLaws.{HalfWays}

-- ---- r * 2 ^ i units, between the half-way points, is the answer
pub between_is_nearest : (n i r : ℕ) → HalfWays n (2 ^ i) r → r ≤ 2 ^ 53 → (0 < i → 2 ^ 52 ≤ r) → i * 2 ^ 52 + r < infinity
    → (0 < i → 2 ^ (52 + i) * 2 ^ (52 + i) ≤ n) → n < 2 ^ (53 + i) * 2 ^ (53 + i) → IsNearestRootOf n (i * 2 ^ 52 + r)
between_is_nearest n i r w hi lo fits long short =
    let Q = 2 ^ i in
    let z = of_bits binary64 (i * 2 ^ 52 + r) in
    let v = joined-value i r hi lo fits in
    let size : mag binary64 z ≡ r * Q = mag_of binary64 z false (r * Q) v in
    let up : (2 * r + 1) * Q ≡ 2 * mag binary64 z + Q = upper r Q (mag binary64 z) size in
    record {
      number = le_of_lt fits;
      nearest =
          sym
          (units_root_unique binary64 n z r i (w.under * Q) (has_value_fin z false (r * Q) (2 ^ 1074) v (of_bits-fits binary64 (i * 2 ^ 52 + r))) (sign_of z false (r * Q) (2 ^ 1074) v) size
          long short (lower r Q (mag binary64 z) w.under size w.next) w.below
          (subst (λ (y : ℕ). 4 * n ≤ y * y) up w.above) w.even-below
          (λ (e : 4 * n ≡ (2 * mag binary64 z + Q) * (2 * mag binary64 z + Q)). w.even-above (subst (λ (y : ℕ). 4 * n ≡ y * y) (sym up) e)));
    }
  where
    upper : (r Q m : ℕ) → m ≡ r * Q → (2 * r + 1) * Q ≡ 2 * m + Q
    upper r Q m e = omega arith

    lower : (r Q m u : ℕ) → m ≡ r * Q → u + 1 ≡ 2 * r → u * Q + Q ≡ 2 * m
    lower r Q m u e f = omega (arith, ap (λ (x : ℕ). x * Q) f)

-- ---- and past the last half-way point it is infinite
pub infinity_is : of_bits binary64 infinity ≡ inf false
unfolding of_bits
infinity_is = refl

pub past_is_infinite : (n : ℕ) → (2 * 2 ^ 2098 - 2 ^ 2045) * (2 * 2 ^ 2098 - 2 ^ 2045) ≤ 4 * n → IsNearestRootOf n infinity
past_is_infinite n h = record { number = le_of_eq refl; nearest = infinity_is ∙ sym (units_root_overflow binary64 n 2045 refl h) }

-- ---- where a root of 54 digits is q times Q or more, and less than q + 1 times Q, that of n has 53
pub quarter-le : (Y k q Q n : ℕ) → Y ≡ k * Q → 2 * k ≤ q → q * Q * (q * Q) ≤ 4 * n → Y * Y ≤ n
quarter-le Y k q Q n e l f = let m = mul-le-mul_right Q l in omega (arith, ap (λ (x : ℕ). x * x) e, mul-le-mul m m, f)

pub quarter_gt : (Y k q Q n : ℕ) → Y ≡ k * Q → q + 1 ≤ 2 * k → 4 * n < (q + 1) * Q * ((q + 1) * Q) → n < Y * Y
quarter_gt Y k q Q n e l f = let m = mul-le-mul_right Q l in omega (arith, ap (λ (x : ℕ). x * x) e, mul-le-mul m m, f)
