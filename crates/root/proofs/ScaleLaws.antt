-- The arithmetic of a pattern's parts: the leading digit brought to place 52, and the exponent made even, with the value kept.
use mathlib.Core.Path.{◌≡◌, refl, sym, ap, ◌∙◌}
use Prim.Native.Nat.{ℕ, zero, suc, ◌+◌, ◌-◌, ◌*◌, ◌/◌, ◌%◌, ◌^◌, ◌≤◌, ◌<◌}
use native.Mathlib.Nat.{mul_assoc, mul-one, eq-or-lt_of_le, pow-succ', mul-pos}
use native.Mathlib.Omega.{arith}
use mathlib.Core.Logic.{inl, inr}
use mathlib.Core.Bool.{Bool, true, false, not, cond}
use lib.Dec.{T, ltb, ltb→lt, nltb→le}
use lib.Pow.{pow-add, pow_pos}
use Rattle.algebra.proofs.Size.{either}
use Rattle.root.specs.Parts.{infinity, pattern_units, one, IsUnits, IsNormal, IsSplit}

-- ---- the value of a pattern, by its exponent field
pub units_subnormal : (b : ℕ) → b < 2 ^ 52 → pattern_units b ≡ b
unfolding pattern_units
units_subnormal b h = pick (ltb b (2 ^ 52)) (nltb→le b (2 ^ 52))
  where
    pick : (t : Bool) → (T (not t) → 2 ^ 52 ≤ b) → cond t b ((2 ^ 52 + b % 2 ^ 52) * 2 ^ (b / 2 ^ 52 - 1)) ≡ b
    pick true n = refl
    pick false n = let l = n tt in absurd (omega arith)

pub units_normal : (b : ℕ) → 2 ^ 52 ≤ b → pattern_units b ≡ (2 ^ 52 + b % 2 ^ 52) * 2 ^ (b / 2 ^ 52 - 1)
unfolding pattern_units
units_normal b h = pick (ltb b (2 ^ 52)) (ltb→lt b (2 ^ 52))
  where
    pick : (t : Bool) → (T t → b < 2 ^ 52) → cond t b ((2 ^ 52 + b % 2 ^ 52) * 2 ^ (b / 2 ^ 52 - 1)) ≡ (2 ^ 52 + b % 2 ^ 52) * 2 ^ (b / 2 ^ 52 - 1)
    pick true n = let l = n tt in absurd (omega arith)
    pick false n = refl

pub subnormal_is_units : (b : ℕ) → b < 2 ^ 52 → IsUnits b b 0
subnormal_is_units b h = record { value = mul-one b ∙ sym (units_subnormal b h); exponent = omega arith; joined = omega arith; small = omega arith }

pub normal_is_units : (b : ℕ) → 2 ^ 52 ≤ b → IsUnits b (2 ^ 52 + b % 2 ^ 52) (b / 2 ^ 52 - 1)
normal_is_units b h = record { value = sym (units_normal b h); exponent = refl; joined = omega arith; small = omega arith }

pub units-pos : (b : ℕ) → 0 < b → 0 < pattern_units b
units-pos b h = elim (either b (2 ^ 52)) [
  | inl l ↦ rw (units_subnormal b l) h
  | inr l ↦ rw (units_normal b l) (mul-pos (omega arith) (pow_pos (b / 2 ^ 52 - 1)))
]

from_leading : (i s : ℕ) → 2 ^ 52 ≤ s → s ≤ 2 ^ 53 → pattern_units (i * 2 ^ 52 + s) ≡ s * 2 ^ i
from_leading i s lo hi = units_normal (i * 2 ^ 52 + s) (omega arith) ∙ elim (eq-or-lt_of_le hi) [
  | inl e ↦
      let d : (i * 2 ^ 52 + s) % 2 ^ 52 ≡ 0 = omega arith in
      let x : (i * 2 ^ 52 + s) / 2 ^ 52 - 1 ≡ suc i = omega arith in
      rw (d, x) (omega (arith, pow-succ' 2 i, ap (λ (y : ℕ). y * 2 ^ i) e))
  | inr l ↦
      let d : 2 ^ 52 + (i * 2 ^ 52 + s) % 2 ^ 52 ≡ s = omega arith in
      let x : (i * 2 ^ 52 + s) / 2 ^ 52 - 1 ≡ i = omega arith in
      rw (d, x)
]

-- the pattern of s * 2 ^ i units: s has its leading digit at place 52, or is 2 ^ 53 and carries into the exponent, or i is 0
pub units-joined : (i s : ℕ) → s ≤ 2 ^ 53 → (0 < i → 2 ^ 52 ≤ s) → pattern_units (i * 2 ^ 52 + s) ≡ s * 2 ^ i
units-joined zero s hi lo = elim (either s (2 ^ 52)) [
  | inl l ↦ rw (plain s) (units_subnormal s l ∙ sym (mul-one s))
  | inr l ↦ from_leading 0 s l hi
]
  where
    plain : (s : ℕ) → 0 * 2 ^ 52 + s ≡ s
    plain s = omega arith
units-joined (suc i) s hi lo = from_leading (suc i) s (lo (omega arith)) hi

-- ---- below the smallest normal number: the digits are doubled until there are 53
pub record Doubled (b m k : ℕ) : Type 0 where
  pub value : m * 2 ^ k ≡ b * 2 ^ 52
  pub some : 0 < m
  pub high : m < 2 ^ 53
  pub count : k ≤ 52

pub exponent_left : (b m k : ℕ) → 0 < b → Doubled b m k → m < 2 ^ 52 → 0 < k
exponent_left b m zero p w h = let v = w.value in absurd (omega arith)
exponent_left b m (suc k) p w h = omega arith

pub shift : (b m k : ℕ) → 0 < b → Doubled b m k → m < 2 ^ 52 → Doubled b (m * 2) (k - 1)
shift b m zero p w h = let v = w.value in absurd (omega arith)
shift b m (suc k) p w h =
    let v : m * 2 * 2 ^ k ≡ b * 2 ^ 52 = mul_assoc m 2 (2 ^ k) ∙ ap (λ (x : ℕ). m * x) (sym (pow-succ' 2 k)) ∙ w.value in
    let e : suc k - 1 ≡ k = omega arith in
    rw e (record { value = v; some = omega arith; high = omega arith; count = omega arith })

pub shifted_is_normal : (b m k : ℕ) → b < 2 ^ 52 → Doubled b m k → 2 ^ 52 ≤ m → IsNormal b m k
shifted_is_normal b m k h w l = record { value = w.value ∙ ap (λ (x : ℕ). x * 2 ^ 52) (sym (units_subnormal b h)); low = l; high = w.high; exponent = omega arith }

-- ---- from there on the digits are 2 ^ 52 and the pattern's own
pub field_is_normal : (b : ℕ) → b < infinity → (b / 2 ^ 52 ≡ 0 → ⊥) → IsNormal b (2 ^ 52 + b % 2 ^ 52) (b / 2 ^ 52 + 51)
field_is_normal b h n =
    let m = 2 ^ 52 + b % 2 ^ 52 in
    let e = b / 2 ^ 52 in
    let l : 2 ^ 52 ≤ b = omega arith in
    let x : e + 51 ≡ e - 1 + 52 = omega arith in
    record {
      value = ap (λ (y : ℕ). m * 2 ^ y) x ∙ ap (λ (y : ℕ). m * y) (pow-add 2 (e - 1) 52) ∙ sym (mul_assoc m (2 ^ (e - 1)) (2 ^ 52)) ∙ ap (λ (y : ℕ). y * 2 ^ 52) (sym (units_normal b l));
      low = omega arith;
      high = omega arith;
      exponent = omega arith;
    }

-- ---- the exponent made even: 54 + 2 * h is k + 1022, or one less and the digits doubled
one-is : 2 ^ 52 * 2 ^ 1022 ≡ one
unfolding one
one-is = refl

powers_joined : (m h : ℕ) → m * 2 ^ 54 * (2 ^ h * 2 ^ h) ≡ m * 2 ^ (54 + (h + h))
powers_joined m h = mul_assoc m (2 ^ 54) (2 ^ h * 2 ^ h) ∙ ap (λ (x : ℕ). m * x) (ap (λ (x : ℕ). 2 ^ 54 * x) (sym (pow-add 2 h h)) ∙ sym (pow-add 2 54 (h + h)))

-- the value as a multiple of 2 ^ -2148
value_squared : (b m k : ℕ) → IsNormal b m k → m * 2 ^ (k + 1022) ≡ pattern_units b * one
value_squared b m k w =
    ap (λ (x : ℕ). m * x) (pow-add 2 k 1022) ∙ sym (mul_assoc m (2 ^ k) (2 ^ 1022)) ∙ ap (λ (x : ℕ). x * 2 ^ 1022) w.value
    ∙ mul_assoc (pattern_units b) (2 ^ 52) (2 ^ 1022) ∙ ap (λ (x : ℕ). pattern_units b * x) one-is

pub even-split : (b m k : ℕ) → IsNormal b m k → k % 2 ≡ 0 → IsSplit b m (k / 2 + 484)
even-split b m k w h =
    let n = k / 2 + 484 in
    let e : 54 + (n + n) ≡ k + 1022 = omega arith in
    record { value = powers_joined m n ∙ ap (λ (x : ℕ). m * 2 ^ x) e ∙ value_squared b m k w; low = w.low; high = omega arith; exponent = omega arith }

pub odd-split : (b m k : ℕ) → IsNormal b m k → (k % 2 ≡ 0 → ⊥) → IsSplit b (m * 2) (k / 2 + 484)
odd-split b m k w h =
    let n = k / 2 + 484 in
    let e : suc (54 + (n + n)) ≡ k + 1022 = omega arith in
    record {
      value = powers_joined (m * 2) n ∙ mul_assoc m 2 (2 ^ (54 + (n + n))) ∙ ap (λ (x : ℕ). m * x) (sym (pow-succ' 2 (54 + (n + n)))) ∙ ap (λ (x : ℕ). m * 2 ^ x) e ∙ value_squared b m k w;
      low = omega arith;
      high = omega arith;
      exponent = omega arith;
    }
