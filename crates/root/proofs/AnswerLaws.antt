-- The answer by the pattern: what each test of `root` comes to.
use mathlib.Core.Path.{◌≡◌, refl, sym, ap, ◌∙◌, subst}
use mathlib.Core.Logic.{inl, inr}
use mathlib.Core.Bool.{Bool, true, false, not, cond}
use Prim.Native.Nat.{ℕ, zero, suc, ◌+◌, ◌*◌, ◌/◌, ◌%◌, ◌^◌, ◌≤◌, ◌<◌}
use native.Mathlib.Nat.{eq-or-lt_of_le, mul-pos, le_of_suc-le-suc}
use native.Mathlib.Omega.{arith}
use lib.Dec.{T, leb, eqb, le→leb}
use lib.Pow.{pow_pos}
use lib.Ieee.{Float, nan, inf, fin, binary64, up, down, of_fields, of_bits, is_nan, lt, eq, ne, fits, to_bits}
use lib.Ieee.Fits.{down_pos}
use lib.Ieee.Bits.{is_true, of_bits-to_bits, to_bits-lt}
use lib.Ieee.Exact.{HasValue}
use lib.Ieee.Compare.{differs_from_itself}
use Rattle.rounding.specs.Root.{root}
use Rattle.scope.specs.Refusals.{refused, given}
use Rattle.scope.specs.Distance.{no_root, root_answer}
use Rattle.root.specs.Parts.{infinity, pattern_units}
use Rattle.root.proofs.Callers.{answer-refused, answer-given, no_root_by_sign}
use Rattle.root.proofs.ScaleLaws.{units-pos}
use Rattle.root.proofs.PatternLaws.{pattern_fields, subnormal_field, normal_field, pattern_value, number_at_most}

-- ---- NaN
pub when_nan : (x : Float) → ne x x ≡ true → refused 12 ≡ root_answer x
unfolding no_root is_nan
when_nan x h = sym (answer-refused x (ap no_root (differs_from_itself x (subst T (sym h) tt))))

pub number_of_test : (x : Float) → ne x x ≡ false → T (not (is_nan x))
unfolding is_nan ne
number_of_test nan h = absurd (subst T h tt)
number_of_test (inf s) h = tt
number_of_test (fin s m e) h = tt

pub when_unequal : (x : Float) → eq x x ≡ false → refused 12 ≡ root_answer x
unfolding ne
when_unequal x h = when_nan x (ap not h)

pub number_of_equal : (x : Float) → eq x x ≡ true → T (not (is_nan x))
unfolding ne
number_of_equal x h = number_of_test x (ap not h)

-- ---- a value above 0 or below
no_zero_value : (u c a k : ℕ) → 0 < k → 0 < a → 0 * u * c ≡ a * k → ⊥
no_zero_value u c a k K P q = omega (arith, mul-pos P K)

value-refused : (x : Float) (s : Bool) (a c : ℕ) → HasValue x s a c → 0 < a → no_root x ≡ s
value-refused nan s a c v p = absurd v
value-refused (inf t) s a c v p = absurd v
value-refused (fin t zero d) s a c v p = absurd (no_zero_value (up d) c a (down d) (down_pos d) p v.1)
value-refused (fin t (suc m) d) s a c v p = no_root_by_sign t m d ∙ v.0

pattern_above : (b : ℕ) → 0 < b → b < infinity → root_answer (of_bits binary64 b) ≡ given (root binary64 (of_bits binary64 b))
pattern_above b p h = answer-given (of_bits binary64 b) (value-refused (of_bits binary64 b) false (pattern_units b) (2 ^ 1074) (pattern_value b h) (units-pos b p))

-- with a sign, and with an exponent field x or digits t
top_field_refused : (t : ℕ) → no_root (of_fields binary64 true 2047 t) ≡ true
unfolding no_root is_nan lt of_bits of_fields
top_field_refused t = pick (eqb t 0)
  where
    pick : (b : Bool) → no_root (cond b (inf true) nan) ≡ true
    pick true = refl
    pick false = refl

signed-refused : (x t : ℕ) → x < 2048 → (x ≡ 0 → 0 < t) → no_root (of_fields binary64 true x t) ≡ true
signed-refused zero t X h = value-refused (of_fields binary64 true 0 t) true t (2 ^ 1074) (subnormal_field true t) (h refl)
signed-refused (suc x) t X h = elim (eq-or-lt_of_le (le_of_suc-le-suc X)) [
  | inl e ↦ rw e (top_field_refused t)
  | inr l ↦ value-refused (of_fields binary64 true (suc x) t) true ((2 ^ 52 + t) * 2 ^ x) (2 ^ 1074) (normal_field true x t l) (mul-pos (omega arith) (pow_pos x))
]

pattern_below : (b : ℕ) → 2 ^ 63 < b → b < 2 ^ 64 → root_answer (of_bits binary64 b) ≡ refused 12
pattern_below b l h =
    answer-refused (of_bits binary64 b)
    (ap no_root (pattern_fields b ∙ ap (λ (s : Bool). of_fields binary64 s (b % 2 ^ 63 / 2 ^ 52) (b % 2 ^ 52)) (is_true (leb (2 ^ 63) b) (le→leb (2 ^ 63) b (omega arith))))
    ∙ signed-refused (b % 2 ^ 63 / 2 ^ 52) (b % 2 ^ 52) (omega arith) (λ (e : b % 2 ^ 63 / 2 ^ 52 ≡ 0). omega arith))

-- ---- the zeros and the infinity
zero-given : root_answer (of_bits binary64 0) ≡ given (of_bits binary64 0)
unfolding no_root is_nan lt root of_bits
zero-given = answer-given _ refl

infinity-given : root_answer (of_bits binary64 infinity) ≡ given (of_bits binary64 infinity)
unfolding no_root is_nan lt root of_bits
infinity-given = answer-given _ refl

minus_zero-given : root_answer (of_bits binary64 (2 ^ 63)) ≡ given (of_bits binary64 (2 ^ 63))
unfolding no_root is_nan lt root of_bits
minus_zero-given = answer-given _ refl

-- between the infinity and -0 there are only NaNs
only-infinity : (b : ℕ) → infinity ≤ b → b < 2 ^ 63 → T (not (is_nan (of_bits binary64 b))) → b ≡ infinity
only-infinity b l h n = let k = number_at_most b n in omega arith

pattern_top : (b : ℕ) → infinity ≤ b → b ≤ 2 ^ 63 → T (not (is_nan (of_bits binary64 b))) → root_answer (of_bits binary64 b) ≡ given (of_bits binary64 b)
pattern_top b l h n = elim (eq-or-lt_of_le h) [
  | inl e ↦ subst (λ (z : ℕ). root_answer (of_bits binary64 z) ≡ given (of_bits binary64 z)) (sym e) minus_zero-given
  | inr k ↦ subst (λ (z : ℕ). root_answer (of_bits binary64 z) ≡ given (of_bits binary64 z)) (sym (only-infinity b l k n)) infinity-given
]

-- ---- the same of a value, by its pattern
module _ (x : Float) (f : fits binary64 x ≡ true) where
  held : T (fits binary64 x)
  held = subst T (sym f) tt

  back : of_bits binary64 (to_bits binary64 x) ≡ x
  back = of_bits-to_bits binary64 x held

  pub when_below : 2 ^ 63 < to_bits binary64 x → refused 12 ≡ root_answer x
  when_below l = sym (pattern_below (to_bits binary64 x) l (to_bits-lt binary64 x held)) ∙ ap root_answer back

  pub when_zero : to_bits binary64 x ≡ 0 → given x ≡ root_answer x
  when_zero e = subst (λ (z : Float). given z ≡ root_answer z) (ap (of_bits binary64) (sym e) ∙ back) (sym zero-given)

  pub when_top : infinity ≤ to_bits binary64 x → to_bits binary64 x ≤ 2 ^ 63 → T (not (is_nan x)) → given x ≡ root_answer x
  when_top l h n =
      subst (λ (z : Float). given z ≡ root_answer z) back
      (sym (pattern_top (to_bits binary64 x) l h (subst (λ (z : Float). T (not (is_nan z))) (sym back) n)))

  pub when_above : (r : Float) → 0 < to_bits binary64 x → to_bits binary64 x < infinity → r ≡ root binary64 (of_bits binary64 (to_bits binary64 x))
      → given r ≡ root_answer x
  when_above r p l e = ap given e ∙ sym (pattern_above (to_bits binary64 x) p l) ∙ ap root_answer back

-- what the answer needs of its tests, whichever way they are written
pub ruleset root_tests = (when_nan, number_of_test, when_top, when_unequal, number_of_equal)
