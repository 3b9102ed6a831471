-- Bits of two masks combined, by one law of the operations that go digit by digit, and of a mask with a single bit put in or taken out.
use mathlib.Core.Path.{◌≡◌, refl, sym, ap, ◌∙◌, subst}
use mathlib.Core.Bool.{Bool, true, false, not, ◌&&◌, ◌||◌}
use mathlib.Core.Logic.{◌↔◌, inl, inr, ⊎_elim}
use Prim.Native.Nat.{ℕ, zero, suc, ◌+◌, ◌-◌, ◌*◌, ◌/◌, ◌%◌, ◌^◌, ◌≤◌, ◌<◌, min, max}
use native.Mathlib.Nat.{pow-succ', add-mul-div_left, add-div_right, div-div-eq-div-mul, div-eq_of_lt, le-div_iff_mul-le, zero-add, one-mul, sub-add_cancel, lt_of_lt_of_le}
use native.Mathlib.Omega.{arith}
use native.Mathlib.Numerals.{add-one}
use lib.Bits.{bit_and, bit_or, bit_xor, differ, and_step, and_shr, or_step, or_shr, xor_step, xor_shr}
use lib.Dec.{T, eqb}
use lib.Pow.{pow_pos, pow-add, pow_mono}
use Rattle.algebra.proofs.Size.{either}
use Rattle.scope.specs.Runs.{bit}
use Rattle.laws.proofs.Cases.{or_iff, eqb_iff}

-- ---- a bit as a digit, 0 or 1
abbrev pub digit : ℕ → ℕ → ℕ
digit m i = m / 2 ^ i % 2

bit_iff : (m i : ℕ) → T (bit m i) ↔ (digit m i ≡ 1)
unfolding bit
bit_iff m i = eqb_iff (digit m i) 1

clear_digit : (m i : ℕ) → ¬ T (bit m i) → digit m i ≡ 0
clear_digit m i h = elim (either (digit m i) 1) [ inl l ↦ omega arith | inr l ↦ absurd (h ((bit_iff m i).1 (omega arith))) ]

-- ---- two masks combined by an operation that goes digit by digit

-- two digits: four cases
two_digits : (P : ℕ → ℕ → Type 0) → P 0 0 → P 0 1 → P 1 0 → P 1 1 → (r s : ℕ) → r < 2 → s < 2 → P r s
two_digits P a b c d r s h k = one_digit (λ n. P n s) (one_digit (P 0) a b s k) (one_digit (P 1) c d s k) r h
  where
    one_digit : (Q : ℕ → Type 0) → Q 0 → Q 1 → (n : ℕ) → n < 2 → Q n
    one_digit Q x y zero l = x
    one_digit Q x y (suc zero) l = y
    one_digit Q x y (suc (suc n)) l = absurd (omega arith)

combined_digit : (op f : ℕ → ℕ → ℕ) → ((a b : ℕ) → op a b ≡ op (a / 2) (b / 2) * 2 + f (a % 2) (b % 2)) → ((a b k : ℕ) → op a b / 2 ^ k ≡ op (a / 2 ^ k) (b / 2 ^ k))
    → ((r s : ℕ) → r < 2 → s < 2 → f r s < 2) → (a b q : ℕ) → digit (op a b) q ≡ f (digit a q) (digit b q)
combined_digit op f step shr small a b q = rw (shr a b q, step (a / 2 ^ q) (b / 2 ^ q)) (omega (arith, small (digit a q) (digit b q) (omega arith) (omega arith)))

-- the same in bits, of an f that is g on the four pairs of digits
combined_bit : (f : ℕ → ℕ → ℕ) (g : Bool → Bool → Bool)
    → eqb (f 0 0) 1 ≡ g false false → eqb (f 0 1) 1 ≡ g false true → eqb (f 1 0) 1 ≡ g true false → eqb (f 1 1) 1 ≡ g true true
    → (a b c q : ℕ) → digit c q ≡ f (digit a q) (digit b q) → bit c q ≡ g (bit a q) (bit b q)
unfolding bit
combined_bit f g w x y z a b c q e = rw e (two_digits (λ r s. eqb (f r s) 1 ≡ g (eqb r 1) (eqb s 1)) w x y z (digit a q) (digit b q) (omega arith) (omega arith))

pub or_digit : (a b q : ℕ) → digit (bit_or a b) q ≡ max (digit a q) (digit b q)
or_digit = combined_digit bit_or max or_step or_shr (λ r s h k. omega arith)

and_digit : (a b q : ℕ) → digit (bit_and a b) q ≡ min (digit a q) (digit b q)
and_digit = combined_digit bit_and min and_step and_shr (λ r s h k. omega arith)

xor_digit : (a b q : ℕ) → digit (bit_xor a b) q ≡ differ (digit a q) (digit b q)
xor_digit = combined_digit bit_xor differ xor_step xor_shr (two_digits (λ r s. differ r s < 2) (omega arith) (omega arith) (omega arith) (omega arith))

pub bit-joined : (a b j : ℕ) → bit (bit_or a b) j ≡ (bit a j || bit b j)
bit-joined a b j = combined_bit max ◌||◌ refl refl refl refl a b (bit_or a b) j (or_digit a b j)

-- what two masks both hold
pub bit_common : (a b j : ℕ) → bit (bit_and a b) j ≡ (bit a j && bit b j)
bit_common a b j = combined_bit min ◌&&◌ refl refl refl refl a b (bit_and a b) j (and_digit a b j)

-- what one mask holds and another does not
pub bit_other : (a b j : ℕ) → bit (bit_xor (bit_or a b) b) j ≡ (bit a j && not (bit b j))
bit_other a b j = combined_bit (λ r s. differ (max r s) s) (λ x y. x && not y) refl refl refl refl a b (bit_xor (bit_or a b) b) j (rw (xor_digit (bit_or a b) b j, or_digit a b j))

pub bit_of_union : (a b q : ℕ) → T (bit (bit_or a b) q) → ¬ T (bit a q) → T (bit b q)
bit_of_union a b q h f = ⊎_elim (λ t. absurd (f t)) (λ t. t) ((or_iff (bit a q) (bit b q)).0 (rw (bit-joined a b q) at h))

pub union_left : (a b q : ℕ) → T (bit a q) → T (bit (bit_or a b) q)
union_left a b q h = rw (bit-joined a b q) ((or_iff (bit a q) (bit b q)).1 (inl h))

pub union_right : (a b q : ℕ) → T (bit b q) → T (bit (bit_or a b) q)
union_right a b q h = rw (bit-joined a b q) ((or_iff (bit a q) (bit b q)).1 (inr h))

-- ---- bit i put in: the digits below, at and above it
put_below : (m j d : ℕ) → digit (m + 2 ^ (j + suc d)) j ≡ digit m j
put_below m j d = ap (λ (n : ℕ). n % 2) (ap (λ (n : ℕ). (m + n) / 2 ^ j) (pow-add 2 j (suc d)) ∙ add-mul-div_left m (2 ^ suc d) (pow_pos j)) ∙ even (m / 2 ^ j) (2 ^ suc d) (2 ^ d) (pow-succ' 2 d)
  where
    even : (x n k : ℕ) → n ≡ 2 * k → (x + n) % 2 ≡ x % 2
    even x n k e = omega arith

put_at : (m i : ℕ) → digit m i ≡ 0 → digit (m + 2 ^ i) i ≡ 1
put_at m i h = ap (λ (n : ℕ). n % 2) (add-div_right m (pow_pos i)) ∙ next (m / 2 ^ i) h
  where
    next : (x : ℕ) → x % 2 ≡ 0 → (x + 1) % 2 ≡ 1
    next x h = omega arith

above-split : (m i d : ℕ) → m / 2 ^ (i + suc d) ≡ m / 2 ^ i / 2 / 2 ^ d
above-split m i d = ap (λ (n : ℕ). m / n) (pow-add 2 i (suc d) ∙ ap (λ (n : ℕ). 2 ^ i * n) (pow-succ' 2 d)) ∙ sym (div-div-eq-div-mul m (2 ^ i) (2 * 2 ^ d)) ∙ sym (div-div-eq-div-mul (m / 2 ^ i) 2 (2 ^ d))

put_above : (m i d : ℕ) → digit m i ≡ 0 → digit (m + 2 ^ i) (i + suc d) ≡ digit m (i + suc d)
put_above m i d h =
    ap (λ (n : ℕ). n % 2)
    (above-split (m + 2 ^ i) i d ∙ ap (λ (n : ℕ). n / 2 / 2 ^ d) (add-div_right m (pow_pos i)) ∙ ap (λ (n : ℕ). n / 2 ^ d) (half (m / 2 ^ i) h) ∙ sym (above-split m i d))
  where
    half : (x : ℕ) → x % 2 ≡ 0 → (x + 1) / 2 ≡ x / 2
    half x h = omega arith

put_elsewhere : (m i j : ℕ) → digit m i ≡ 0 → (i ≡ j → ⊥) → digit (m + 2 ^ i) j ≡ digit m j
put_elsewhere m i j h f = elim (either i j) [
  | inl l ↦ let e : j ≡ i + suc (j - i - 1) = omega arith in rw e (put_above m i (j - i - 1) h)
  | inr l ↦ let e : i ≡ j + suc (i - j - 1) = apart l in rw e (put_below m j (i - j - 1))
]
  where
    apart : j ≤ i → i ≡ j + suc (i - j - 1)
    apart l = elim (either j i) [ inl k ↦ omega arith | inr k ↦ absurd (f (omega arith)) ]

-- ---- in words of bits
pub bit_put : (m i : ℕ) → ¬ T (bit m i) → T (bit (m + 2 ^ i) i)
bit_put m i h = (bit_iff (m + 2 ^ i) i).1 (put_at m i (clear_digit m i h))

pub bit_put_other : (m i j : ℕ) → ¬ T (bit m i) → (i ≡ j → ⊥) → T (bit (m + 2 ^ i) j) ↔ T (bit m j)
bit_put_other m i j h f =
    let e = put_elsewhere m i j (clear_digit m i h) f in (
      λ t. (bit_iff m j).1 (sym e ∙ (bit_iff (m + 2 ^ i) j).0 t),
      λ t. (bit_iff (m + 2 ^ i) j).1 (e ∙ (bit_iff m j).0 t),
    )

-- bit i taken out of a mask that has it
module _ (m i : ℕ) (h : T (bit m i)) where
  whole : m - 2 ^ i + 2 ^ i ≡ m
  whole = sub-add_cancel (subst-one ((le-div_iff_mul-le (pow_pos i)).0 (odd (m / 2 ^ i) ((bit_iff m i).0 h))))
    where
      odd : (x : ℕ) → x % 2 ≡ 1 → 1 ≤ x
      odd x h = omega arith

      subst-one : 1 * 2 ^ i ≤ m → 2 ^ i ≤ m
      subst-one l = rw one-mul at l

  taken_clear : ¬ T (bit (m - 2 ^ i) i)
  taken_clear t =
      let after : (m - 2 ^ i) / 2 ^ i + 1 ≡ m / 2 ^ i = sym (add-div_right (m - 2 ^ i) (pow_pos i)) ∙ ap (λ (n : ℕ). n / 2 ^ i) whole in
      clash ((m - 2 ^ i) / 2 ^ i) (m / 2 ^ i) after ((bit_iff (m - 2 ^ i) i).0 t) ((bit_iff m i).0 h)
    where
      clash : (x y : ℕ) → x + 1 ≡ y → x % 2 ≡ 1 → y % 2 ≡ 1 → ⊥
      clash x y e p q = omega arith

  pub bit_taken : (j : ℕ) → T (bit (m - 2 ^ i) j) → (i ≡ j → ⊥) × T (bit m j)
  bit_taken j t =
      let apart : i ≡ j → ⊥ = λ (e : i ≡ j). taken_clear (subst (λ (k : ℕ). T (bit (m - 2 ^ i) k)) (sym e) t) in
      (apart, rw whole at ((bit_put_other (m - 2 ^ i) i j taken_clear apart).1 t))

  pub bit_left : (j : ℕ) → (i ≡ j → ⊥) → T (bit m j) → T (bit (m - 2 ^ i) j)
  bit_left j f t = (bit_put_other (m - 2 ^ i) i j taken_clear f).0 (rw whole t)

-- ---- small masks, and a mask of one bit
pub bit_past : (m i : ℕ) → m < 2 ^ i → ¬ T (bit m i)
bit_past m i h t = none ((bit_iff m i).0 t) (div-eq_of_lt h)
  where
    none : m / 2 ^ i % 2 ≡ 1 → m / 2 ^ i ≡ 0 → ⊥
    none p q = omega arith

no_bits : (i : ℕ) → ¬ T (bit 0 i)
no_bits i = bit_past 0 i (pow_pos i)

pub bit_of_power : (p : ℕ) → T (bit (2 ^ p) p)
bit_of_power p = rw zero-add at (bit_put 0 p (no_bits p))

pub power_has_one_bit : (p q : ℕ) → T (bit (2 ^ p) q) → p ≡ q
power_has_one_bit p q t = elim (either p q) [
  | inl l ↦ absurd (no_bits q ((bit_put_other 0 p q (no_bits p) (λ e. omega arith)).0 (rw zero-add t)))
  | inr l ↦ elim (either q p) [ inl k ↦ absurd (no_bits q ((bit_put_other 0 p q (no_bits p) (λ e. omega arith)).0 (rw zero-add t))) | inr k ↦ omega arith ]
]

-- ---- a mask of places below i, with place i put in: it has room in a word of w places
pub put_grows : (m i : ℕ) → m < 2 ^ i → m + 2 ^ i < 2 ^ (i + 1)
put_grows m i h = rw (add-one i, pow-succ' 2 i) (omega arith)

pub put_fits : (w m i : ℕ) → i < w → m < 2 ^ i → m + 2 ^ i < 2 ^ w
put_fits w m i l h = lt_of_lt_of_le (put_grows m i h) (pow_mono {i = i + 1} {j = w} (omega arith))
