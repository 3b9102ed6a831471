-- Counts and floats: a count up to 2^53 is a float exactly, and a float is raised to a whole number by its size in units. The raised number is the whole part
-- or the next one, and from 2^53 on, where a float has no fraction, the whole part itself.
use Prim.Native.Nat.{ℕ, zero, suc, min, ◌+◌, ◌-◌, ◌*◌, ◌/◌, ◌^◌, ◌≤◌, ◌<◌}
use native.Mathlib.Nat.{le_of_mul-le-mul_right, lt_of_mul-lt-mul_right, mul-le-mul_right, mul-lt-mul_of_pos_right, div-lt_iff_lt-mul, le-div_iff_mul-le, le_of_suc-le-suc, lt_of_le_of_lt, le_refl, mul-one, add-zero}
use native.Mathlib.Omega.{arith}
use native.Mathlib.Decide.{dec_lt}
use mathlib.Core.Path.{◌≡◌, refl, sym, ap}
use mathlib.Core.Logic.{inl, inr}
use mathlib.Core.Bool.{true, false, true≢false}
use lib.Dec.{T, lit≤, ltb, eqb, ltb→lt, lt→ltb, eqb→eq}
use lib.IntN.{ℤ, pos, negsuc}
use lib.Pow.{pow_pos}
use lib.Ieee.{Float, nan, inf, fin, binary64, low, up, down, level, lt, le, eq, of_int, to_unsigned}
use lib.Ieee.Fits.{down_pos, and_l}
use lib.Ieee.Scale.{finite}
use Rattle.algebra.specs.Integer.{Z, nat, Within, ◌≼◌, ◌≺◌}
use Rattle.rounding.specs.Value.{mag, negative, Fin}
use Rattle.rounding.specs.Scale.{pow2}
use Rattle.rounding.proofs.Value.{value_of, val-mag, fits-small, above_zero_sign}
use Rattle.rounding.proofs.Order.{lt_is}
use Rattle.rounding.proofs.Rounded.{RoundOf, round_exact, round-sign}
use Rattle.rounding.proofs.Double.{one}
use Rattle.scope.specs.Numbers.{◌<ᶠ◌, ◌≤ᶠ◌, nought, raised, whole}
use Rattle.scope.specs.Limits.{within}
use Rattle.scope.specs.Promises.{units}
use Rattle.laws.proofs.Cases.{or_iff}
use Rattle.promises.proofs.numbers.Bounded.{Upto, not_below}
use Rattle.promises.proofs.numbers.InRange.{passes_from_nought}
use Rattle.promises.proofs.numbers.Magnitude.{mag-le}

-- ---- raised to a whole number: a / d
ceiling_up_to : (a d c : ℕ) → 0 < d → a ≤ c * d → (a + (d - 1)) / d ≤ c
ceiling_up_to a d c D h = le_of_suc-le-suc ((div-lt_iff_lt-mul D).1 last)
  where
    last : a + (d - 1) < suc c * d
    last = omega arith

-- which is g units
module _ (a d g c : ℕ) (D : 0 < d) (e : a * 2 ^ low binary64 ≡ g * d) where
  ceiling_at_most : g ≤ c * pow2 60 → (a + (d - 1)) / d ≤ c
  ceiling_at_most h = ceiling_up_to a d c D (scaled (2 ^ low binary64) (pow_pos (low binary64)) e (rw one at h))
    where
      scaled : (L : ℕ) → 0 < L → a * L ≡ g * d → g ≤ c * L → a ≤ c * d
      scaled L p e h = le_of_mul-le-mul_right {k = L} (omega (arith, mul-le-mul_right d h)) p

  ceiling_above : c * pow2 60 < g → c < (a + (d - 1)) / d
  ceiling_above h = (le-div_iff_mul-le D).1 (last (scaled (2 ^ low binary64) e (rw one at h)))
    where
      scaled : (L : ℕ) → a * L ≡ g * d → c * L < g → c * d < a
      scaled L e h = lt_of_mul-lt-mul_right L (omega (arith, mul-lt-mul_of_pos_right h D))

      last : c * d < a → suc c * d ≤ a + (d - 1)
      last h = omega arith

pub raised_at_most : (x : Float) → Fin binary64 x → (c : ℕ) → mag binary64 x ≤ c * pow2 60 → raised x ≤ c
unfolding raised Fin
raised_at_most nan p c h = absurd p
raised_at_most (inf s) p c h = absurd p
raised_at_most (fin true m e) p c h = omega arith
raised_at_most (fin false m e) p c h = ceiling_at_most (m * up e) (down e) (mag binary64 (fin false m e)) c (down_pos e) (value_of binary64 (fin false m e) p).1 h

pub raised-above : (x : Float) → Fin binary64 x → negative x ≡ false → (c : ℕ) → c * pow2 60 < mag binary64 x → c < raised x
unfolding raised Fin negative
raised-above nan p s c h = absurd p
raised-above (inf t) p s c h = absurd p
raised-above (fin true m e) p s c h = absurd (true≢false s)
raised-above (fin false m e) p s c h = ceiling_above (m * up e) (down e) (mag binary64 (fin false m e)) c (down_pos e) (value_of binary64 (fin false m e) p).1 h

-- ---- a count as a float
pub record IsWhole (k : ℕ) (x : Float) : Type 0 where
  pub fin : Fin binary64 x
  pub sign : negative x ≡ false
  pub size : mag binary64 x ≡ k * pow2 60

pub whole_is : (k : ℕ) → k ≤ 2 ^ 53 → IsWhole k (whole k)
unfolding of_int
whole_is k l =
    let r : RoundOf binary64 (whole k) false (k * 2 ^ low binary64) 1 = record { num = k; den = 1; den_pos = pow_pos 0; d-pos = pow_pos 0; is = refl; units = refl } in
    let e = round_exact r k (low binary64) (sym (mul-one (k * 2 ^ low binary64))) l (lt_of_le_of_lt (mul-le-mul_right (2 ^ low binary64) l) (lit≤ tt)) in
    record { fin = e.fin; sign = round-sign r; size = rw one e.grid }

-- a float from 0 to a count passes as such
pub passes_to_whole : (c : ℕ) → c ≤ 2 ^ 53 → (x : Float) → Upto (c * pow2 60) x → T (within nought (whole c) x)
passes_to_whole c few x h =
    let w = whole_is c few in
    let size = rw w.size at (val-mag binary64 (whole c) w.sign) in
    passes_from_nought (whole c) x w.fin h.fin (not_below x h.sign) (rw size (upper (units x) h.within))
  where
    upper : (x : Z) → Within x (c * pow2 60) → x ≼ nat (c * pow2 60)
    upper x w = omega arith

-- ---- counting up to a float: each count below it is below the raised number, and the first that is not below it is not either
module _ (x : Float) (p : Fin binary64 x) (c : ℕ) (few : c ≤ 2 ^ 53) where
  pub below_raised : T (whole c <ᶠ x) → c < raised x
  below_raised t =
      let w = whole_is c few in
      let h = rw (val-mag binary64 (whole c) w.sign, w.size) at ((lt_is binary64 (whole c) x w.fin p).0 t) in
      let s = above_zero_sign binary64 x (omega arith) in
      raised-above x p s c (let k = rw (val-mag binary64 x s) at h in omega arith)

  pub raised_not_above : nat 0 ≼ units x → ¬ T (whole c <ᶠ x) → raised x ≤ c
  raised_not_above z t =
      let w = whole_is c few in
      raised_at_most x p c (mag-le x (c * pow2 60) (inside (units x) (units (whole c)) (rw w.size at (val-mag binary64 (whole c) w.sign)) z (λ h. t ((lt_is binary64 (whole c) x w.fin p).1 h))))
    where
      inside : (x w : Z) → w ≡ nat (c * pow2 60) → nat 0 ≼ x → ¬ (w ≺ x) → Within x (c * pow2 60)
      inside x w e z h = let l : x ≼ w = elim (dec_lt (w.p + x.n) (x.p + w.n)) [ yes g ↦ absurd (h g) | no g ↦ omega arith ] in let k = rw e at l in omega arith

-- ---- what is above 0 and below anything is finite
pub above_nought_finite : (x y : Float) → T (nought <ᶠ x) → T (x <ᶠ y) → T (finite x)
unfolding lt
above_nought_finite nan y h k = absurd h
above_nought_finite (inf true) y h k = absurd h
above_nought_finite (inf false) nan h k = absurd k
above_nought_finite (inf false) (inf t) h k = absurd k
above_nought_finite (inf false) (fin t n d) h k = absurd k
above_nought_finite (fin s m e) y h k = tt

-- ---- 0 for what is not above 0 and for an infinity
pub raised_of_none : (x : Float) → ¬ T (nought <ᶠ x) → raised x ≡ 0
unfolding raised lt
raised_of_none nan h = refl
raised_of_none (inf s) h = refl
raised_of_none (fin true m e) h = refl
raised_of_none (fin false m e) h = none ((m * up e + (down e - 1)) / down e) (ceiling_up_to (m * up e) (down e) 0 (down_pos e) (not_above (m * up e) (λ k. h (lt→ltb (0 * down e) (m * up e * 1) (omega arith)))))
  where
    not_above : (a : ℕ) → ¬ (0 < a) → a ≤ 0 * down e
    not_above a h = omega arith

    none : (a : ℕ) → a ≤ 0 → a ≡ 0
    none a h = omega arith

pub raised_of_infinite : (x : Float) → ¬ T (x <ᶠ inf false) → raised x ≡ 0
unfolding raised lt
raised_of_infinite nan h = refl
raised_of_infinite (inf s) h = refl
raised_of_infinite (fin s m e) h = absurd (h tt)

-- ---- held against a power of two
module _ (k : ℕ) where
  pub raised_up_to_power : (x : Float) → T (x ≤ᶠ fin false 1 (pos k)) → raised x ≤ 2 ^ k
  unfolding raised le lt eq
  raised_up_to_power nan t = omega arith
  raised_up_to_power (inf s) t = omega arith
  raised_up_to_power (fin true m e) t = omega arith
  raised_up_to_power (fin false m e) t =
      elim ((or_iff (ltb (m * up e * 1) (1 * 2 ^ k * down e)) (level false (m * up e * 1) false (1 * 2 ^ k * down e))).0 t) [
        | inl l ↦ ceiling_up_to (m * up e) (down e) (2 ^ k) (down_pos e) (omega (arith, ltb→lt (m * up e * 1) (1 * 2 ^ k * down e) l))
        | inr l ↦ ceiling_up_to (m * up e) (down e) (2 ^ k) (down_pos e) (omega (arith, eqb→eq (m * up e * 1) (1 * 2 ^ k * down e) (and_l (eqb (m * up e * 1) (1 * 2 ^ k * down e)) true l)))
      ]

  pub raised_from_power : (x : Float) → T (nought <ᶠ x) → T (finite x) → ¬ T (x <ᶠ fin false 1 (pos k)) → 2 ^ k ≤ raised x
  unfolding raised lt
  raised_from_power nan z f h = absurd z
  raised_from_power (inf s) z f h = absurd f
  raised_from_power (fin true m e) z f h = absurd z
  raised_from_power (fin false m e) z f h = (le-div_iff_mul-le (down_pos e)).1 (over (m * up e) (down e) (2 ^ k) (λ l. h (lt→ltb (m * up e * 1) (1 * 2 ^ k * down e) (omega arith))))
    where
      over : (a d P : ℕ) → ¬ (a < P * d) → P * d ≤ a + (d - 1)
      over a d P h = omega arith

  quotient_below_power : (m : ℕ) (e : ℤ) → T (fin false m e <ᶠ fin false 1 (pos k)) → m * up e / down e < 2 ^ k
  unfolding lt
  quotient_below_power m e t = (div-lt_iff_lt-mul (down_pos e)).1 (omega (arith, ltb→lt (m * up e * 1) (1 * 2 ^ k * down e) t))

  pub whole_part_below_power : (w : ℕ) (x : Float) → T (x <ᶠ fin false 1 (pos k)) → to_unsigned w x < 2 ^ k
  unfolding to_unsigned lt
  whole_part_below_power w nan t = absurd t
  whole_part_below_power w (inf true) t = pow_pos k
  whole_part_below_power w (inf false) t = absurd t
  whole_part_below_power w (fin true m e) t = pow_pos k
  whole_part_below_power w (fin false m e) t = omega (arith, quotient_below_power m e t)

-- ---- the whole part
module _ (a d : ℕ) (D : 0 < d) where
  ceiling_from_whole_part : a / d ≤ (a + (d - 1)) / d
  ceiling_from_whole_part = (le-div_iff_mul-le D).1 (omega (arith, (le-div_iff_mul-le {x = a / d} {y = a} D).0 (le_refl (a / d))))

  ceiling_up_to_next : (a + (d - 1)) / d ≤ a / d + 1
  ceiling_up_to_next = ceiling_up_to a d (a / d + 1) D (next (a / d) ((div-lt_iff_lt-mul {x = a} {y = suc (a / d)} D).0 (le_refl (suc (a / d)))))
    where
      next : (q : ℕ) → a < suc q * d → a ≤ (q + 1) * d
      next q h = omega arith

-- of a number below 2^w
module _ (w : ℕ) where
  pub raised_from_whole_part : (x : Float) → T (x <ᶠ fin false 1 (pos w)) → to_unsigned w x ≤ raised x
  unfolding raised to_unsigned lt
  raised_from_whole_part nan t = absurd t
  raised_from_whole_part (inf true) t = omega arith
  raised_from_whole_part (inf false) t = absurd t
  raised_from_whole_part (fin true m e) t = omega arith
  raised_from_whole_part (fin false m e) t = omega (arith, ceiling_from_whole_part (m * up e) (down e) (down_pos e))

  pub raised_up_to_next : (x : Float) → T (x <ᶠ fin false 1 (pos w)) → raised x ≤ to_unsigned w x + 1
  unfolding raised to_unsigned lt
  raised_up_to_next nan t = absurd t
  raised_up_to_next (inf s) t = omega arith
  raised_up_to_next (fin true m e) t = omega arith
  raised_up_to_next (fin false m e) t = omega (arith, quotient_below_power w m e t, ceiling_up_to_next (m * up e) (down e) (down_pos e))

  -- from 2^53 on a float has no fraction
  pub raised_is_whole_part : (x : Float) → Fin binary64 x → ¬ T (x <ᶠ fin false 1 (pos 53)) → min (raised x) (2 ^ w - 1) ≡ to_unsigned w x
  unfolding raised to_unsigned lt Fin
  raised_is_whole_part nan p h = absurd p
  raised_is_whole_part (inf s) p h = absurd p
  raised_is_whole_part (fin true m e) p h = omega arith
  raised_is_whole_part (fin false m (pos i)) p h = ap (λ (z : ℕ). min (z / 1) (2 ^ w - 1)) (add-zero (m * 2 ^ i))
  raised_is_whole_part (fin false zero (negsuc i)) p h = absurd (h (lt→ltb 0 (2 ^ 53 * 2 ^ suc i) (omega (arith, pow_pos (suc i)))))
  raised_is_whole_part (fin false (suc m) (negsuc i)) p h = absurd (h (lt→ltb (suc m * 1 * 1) (2 ^ 53 * 2 ^ suc i) (omega (arith, fits-small binary64 false m (negsuc i) p, pow_pos (suc i)))))
