-- The value of a bit pattern by its two fields, and the value of a pattern put together as a sum of a field and digits, with a carry or without.
use mathlib.Core.Path.{◌≡◌, refl, sym, subst, subst₂, ◌∙◌}
use mathlib.Core.Logic.{inl, inr}
use mathlib.Core.Bool.{Bool, true, false, not, cond}
use Prim.Native.Nat.{ℕ, suc, ◌+◌, ◌-◌, ◌*◌, ◌/◌, ◌%◌, ◌^◌, ◌≤◌, ◌<◌}
use native.Mathlib.Nat.{mul-one, mod-eq_of_lt}
use native.Mathlib.Omega.{arith}
use lib.Dec.{T, leb, eqb, eqb→eq, nltb→le}
use lib.Arith.{lt→nleb, le→nltb}
use lib.Ieee.{Float, nan, inf, fin, binary64, odd, of_fields, of_bits, is_nan, nan_bits, fits}
use lib.Ieee.Bits.{is_false, nan_bits_is, nan_bits_above}
use lib.Ieee.Exact.{HasValue, odd_sign}
use Rattle.algebra.proofs.Size.{either}
use Rattle.rounding.specs.Value.{Fin}
use Rattle.rounding.proofs.Value.{fin_both}
use Rattle.root.specs.Parts.{infinity, pattern_units}
use Rattle.root.proofs.ScaleLaws.{units_subnormal, units_normal, units-joined}

-- ---- the fields of a pattern
pub pattern_fields : (b : ℕ) → of_bits binary64 b ≡ of_fields binary64 (leb (2 ^ 63) b) (b % 2 ^ 63 / 2 ^ 52) (b % 2 ^ 52)
unfolding of_bits
pattern_fields b = refl

-- ---- their value
pub subnormal_field : (s : Bool) (t : ℕ) → HasValue (of_fields binary64 s 0 t) s t (2 ^ 1074)
unfolding of_fields
subnormal_field s t = subst (λ (z : ℕ). HasValue (odd 53 s t 0 1074) s z (2 ^ 1074)) (mul-one t) (odd_sign 53 s t 0 1074)

pub normal_field : (s : Bool) (x t : ℕ) → suc x < 2047 → HasValue (of_fields binary64 s (suc x) t) s ((2 ^ 52 + t) * 2 ^ x) (2 ^ 1074)
unfolding of_fields
normal_field s x t h = pick (eqb (suc x) 2047) (eqb→eq (suc x) 2047)
  where
    pick : (b : Bool) → (T b → suc x ≡ 2047) → HasValue (cond b (cond (eqb t 0) (inf s) nan) (odd 53 s (2 ^ 52 + t) x 1074)) s ((2 ^ 52 + t) * 2 ^ x) (2 ^ 1074)
    pick true e = let y = e tt in absurd (omega arith)
    pick false e = odd_sign 53 s (2 ^ 52 + t) x 1074

-- by the pattern u without its sign
fields_value : (s : Bool) (u : ℕ) → u < infinity → HasValue (of_fields binary64 s (u / 2 ^ 52) (u % 2 ^ 52)) s (pattern_units u) (2 ^ 1074)
fields_value s u h = elim (either u (2 ^ 52)) [
  | inl l ↦ let f : u / 2 ^ 52 ≡ 0 = omega arith in let t : u % 2 ^ 52 ≡ u = omega arith in rw (units_subnormal u l, f, t) (subnormal_field s u)
  | inr l ↦
      let x = u / 2 ^ 52 - 1 in
      let f : suc x ≡ u / 2 ^ 52 = omega arith in
      rw (units_normal u l) (subst (λ (y : ℕ). HasValue (of_fields binary64 s y (u % 2 ^ 52)) s ((2 ^ 52 + u % 2 ^ 52) * 2 ^ x) (2 ^ 1074)) f (normal_field s x (u % 2 ^ 52) (omega arith)))
]

pub signed-value : (b : ℕ) → b % 2 ^ 63 < infinity → HasValue (of_bits binary64 b) (leb (2 ^ 63) b) (pattern_units (b % 2 ^ 63)) (2 ^ 1074)
signed-value b h = let t : b % 2 ^ 52 ≡ b % 2 ^ 63 % 2 ^ 52 = omega arith in rw (pattern_fields b, t) (fields_value (leb (2 ^ 63) b) (b % 2 ^ 63) h)

pub pattern_value : (b : ℕ) → b < infinity → HasValue (of_bits binary64 b) false (pattern_units b) (2 ^ 1074)
pattern_value b h =
    let l : b < 2 ^ 63 = omega arith in
    let e : b % 2 ^ 63 ≡ b = mod-eq_of_lt l in
    subst₂ (λ (s : Bool) (u : ℕ). HasValue (of_bits binary64 b) s (pattern_units u) (2 ^ 1074)) (is_false (leb (2 ^ 63) b) (lt→nleb (2 ^ 63) b l)) e (signed-value b (rw e h))

-- ---- a pattern put together
pub joined-value : (i s : ℕ) → s ≤ 2 ^ 53 → (0 < i → 2 ^ 52 ≤ s) → i * 2 ^ 52 + s < infinity → HasValue (of_bits binary64 (i * 2 ^ 52 + s)) false (s * 2 ^ i) (2 ^ 1074)
joined-value i s hi lo h = subst (λ (u : ℕ). HasValue (of_bits binary64 (i * 2 ^ 52 + s)) false u (2 ^ 1074)) (units-joined i s hi lo) (pattern_value (i * 2 ^ 52 + s) h)

-- ---- a pattern up to that of infinity is no NaN
pub no_nan_up_to_infinity : (r : ℕ) → r ≤ infinity → T (not (nan_bits binary64 r))
no_nan_up_to_infinity r h = subst (λ (z : Bool). T (not z)) (sym (nan_bits_above binary64 r)) (le→nltb infinity (r % 2 ^ 63) (omega arith))

-- ---- and no number's pattern, without its sign, is above it
pub number_at_most : (b : ℕ) → T (not (is_nan (of_bits binary64 b))) → b % 2 ^ 63 ≤ infinity
number_at_most b n = nltb→le infinity (b % 2 ^ 63) (subst (λ (z : Bool). T (not z)) (sym (nan_bits_is binary64 b) ∙ nan_bits_above binary64 b) n)

-- ---- what has a value is finite
pub has_value_fin : (x : Float) (s : Bool) (a c : ℕ) → HasValue x s a c → T (fits binary64 x) → Fin binary64 x
has_value_fin nan s a c h f = absurd h
has_value_fin (inf t) s a c h f = absurd h
has_value_fin (fin t m e) s a c h f = fin_both binary64 (fin t m e) tt f
