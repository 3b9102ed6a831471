-- No number that a format holds is nearer to a fraction than what `round` makes of it; at a tie its last digit is even.
use mathlib.Core.Path.{◌≡◌, sym, ap, ◌∙◌, subst}
use mathlib.Core.Logic.{◌⊎◌, inl, inr}
use Prim.Native.Nat.{ℕ, zero, suc, ◌+◌, ◌-◌, ◌*◌, ◌/◌, ◌%◌, ◌^◌, ◌≤◌, ◌<◌}
use native.Mathlib.Nat.{zero-lt-suc, le_antisymm, lt_of_not-le, not-le_of_lt, lt_of_mul-lt-mul_right, le_trans, le_of_eq, mul-le-mul_right, mul_assoc, mul-pos, mul-lt-mul_of_pos_right, le_refl, eq-or-lt_of_le, mul-one, le_of_mul-le-mul_right, lt_of_lt_of_le, mul-div_cancel}
use native.Mathlib.Omega.{arith}
use lib.Arith.{lt_of_le-ne}
use lib.Pow.{pow_pos, pow_mono, pow-lt, pow-add, shl_lt}
use lib.Ieee.{size}
use lib.Ieee.Digits.{size-lt, size-le, back}
use lib.Ieee.Order.{drop, kept}
use Rattle.algebra.proofs.Size.{either}
use Rattle.rounding.proofs.Value.{Held}
use Rattle.rounding.proofs.Closest.{closest-even}
use Rattle.rounding.proofs.Round.{rnd, rnd_half, kept-le, full, double_pow}

-- ---- no number that the format holds is nearer. Such a number w either lies on the grid of the result, or below the first number that has p digits there
grid : (p d w : ℕ) → 0 < p → Held p w → ((r : ℕ) × (w ≡ r * 2 ^ d)) ⊎ ((0 < d) × (w < 2 ^ (p - 1) * 2 ^ d))
grid p d w P h = elim (either h.exponent d) [
  | inl l ↦ inr (omega arith, lt_of_lt_of_le (subst (λ (z : ℕ). z < 2 ^ (p + h.exponent)) (sym h.is) (shl_lt p h.exponent h.small)) (le_trans (pow_mono (shift p h.exponent d P l)) (le_of_eq (pow-add 2 (p - 1) d))))
  | inr l ↦ inl (h.digits * 2 ^ (h.exponent - d), h.is ∙ sym (mul_assoc h.digits (2 ^ (h.exponent - d)) (2 ^ d) ∙ ap (λ (x : ℕ). h.digits * x) (sym (pow-add 2 (h.exponent - d) d) ∙ ap (λ (x : ℕ). 2 ^ x) (back h.exponent d l))))
]
  where
    shift : (p i d : ℕ) → 0 < p → i < d → p + i ≤ p - 1 + d
    shift p i d P l = omega arith

kept_full : (p n den : ℕ) → 0 < p → 0 < den → 0 < drop p n den → 2 ^ (p - 1) ≤ kept p n den
kept_full p n den P D K =
    let u = 2 ^ drop p n den in
    let x : 2 * (2 ^ (p - 1) * u * den) ≤ (2 * kept p n den + 1) * u * den = let h = rnd_half p n den D in let g = full p n den P D K in omega arith in
    let y : 2 * 2 ^ (p - 1) ≤ 2 * kept p n den + 1 = le_of_mul-le-mul_right {k = u * den} (omega arith) (mul-pos (pow_pos (drop p n den)) D) in
    omega arith

-- two places of one grid are a step apart
step : (x y u : ℕ) → x * u < y * u → x * u + u ≤ y * u
step x y u h = let l : x < y = lt_of_mul-lt-mul_right u h in omega (arith, mul-le-mul_right u l)

module _ (p n den w : ℕ) (P : 0 < p) (D : 0 < den) (h : Held p w) where
  pub rnd_below : w < rnd p n den → (rnd p n den + w) * den ≤ 2 * n
  rnd_below l = elim (grid p (drop p n den) w P h) [
    | inl g ↦
        let s : w + 2 ^ drop p n den ≤ rnd p n den = rw g.1 (step g.0 (kept p n den) (2 ^ drop p n den) (rw g.1 at l)) in
        omega (arith, rnd_half p n den D, mul-le-mul_right den s)
    | inr g ↦ elim (eq-or-lt_of_le (mul-le-mul_right (2 ^ drop p n den) (kept_full p n den P D g.0))) [
      | inl e ↦ let t : rnd p n den + w ≤ 2 * (2 ^ (p - 1) * 2 ^ drop p n den) = omega arith in omega (arith, mul-le-mul_right den t, full p n den P D g.0)
      | inr m ↦
          let s : w + 2 ^ drop p n den ≤ rnd p n den = omega (arith, step (2 ^ (p - 1)) (kept p n den) (2 ^ drop p n den) m) in
          omega (arith, rnd_half p n den D, mul-le-mul_right den s)
    ]
  ]

  pub rnd_above : rnd p n den < w → 2 * n ≤ (rnd p n den + w) * den
  rnd_above l = elim (grid p (drop p n den) w P h) [
    | inl g ↦
        let s : rnd p n den + 2 ^ drop p n den ≤ w = rw g.1 (step (kept p n den) g.0 (2 ^ drop p n den) (rw g.1 at l)) in
        omega (arith, rnd_half p n den D, mul-le-mul_right den s)
    | inr g ↦ absurd (omega (arith, mul-le-mul_right (2 ^ drop p n den) (kept_full p n den P D g.0), g.1))
  ]

  -- at a tie with w what was kept is even
  pub rnd_tie : (rnd p n den ≡ w → ⊥) → 2 * n ≡ (rnd p n den + w) * den → kept p n den % 2 ≡ 0
  rnd_tie apart e =
      let u = 2 ^ drop p n den in
      let U = mul-pos D (pow_pos (drop p n den)) in
      elim (either w (rnd p n den)) [
        | inl l ↦ elim (grid p (drop p n den) w P h) [
          | inl g ↦
              let s : w + u ≤ rnd p n den = rw g.1 (step g.0 (kept p n den) u (rw g.1 at l)) in
              let b : rnd p n den * den ≤ (w + u) * den = omega (arith, rnd_half p n den D) in
              let a = mul-le-mul_right den s in
              closest-even n (den * u) U (inr (omega arith))
          | inr g ↦ absurd (lower g e)
        ]
        | inr l ↦ elim (grid p (drop p n den) w P h) [
          | inl g ↦
              let s : rnd p n den + u ≤ w = rw g.1 (step (kept p n den) g.0 u (rw g.1 at (lt_of_le-ne l apart))) in
              let b : w * den ≤ (rnd p n den + u) * den = omega (arith, rnd_half p n den D) in
              let a = mul-le-mul_right den s in
              closest-even n (den * u) U (inl (omega arith))
          | inr g ↦ absurd (omega (arith, mul-le-mul_right u (kept_full p n den P D g.0), g.1))
        ]
      ]
    where
      lower : (0 < drop p n den) × (w < 2 ^ (p - 1) * 2 ^ drop p n den) → 2 * n ≡ (rnd p n den + w) * den → ⊥
      lower g e = elim (eq-or-lt_of_le (mul-le-mul_right (2 ^ drop p n den) (kept_full p n den P D g.0))) [
        | inl k ↦ let t : rnd p n den + w < 2 * (2 ^ (p - 1) * 2 ^ drop p n den) = omega (arith, g.1) in omega (arith, mul-lt-mul_of_pos_right t D, full p n den P D g.0)
        | inr m ↦
            let s : w + 2 ^ drop p n den < rnd p n den = omega (arith, g.1, step (2 ^ (p - 1)) (kept p n den) (2 ^ drop p n den) m) in
            omega (arith, rnd_half p n den D, mul-lt-mul_of_pos_right s D)
      ]

-- ---- and the last digit that the result has is that of what was kept
size_is : (n z : ℕ) → 2 ^ z ≤ n → n < 2 ^ suc z → size n ≡ suc z
size_is n z lo hi = le_antisymm (size-le n (suc z) hi) (lt_of_not-le (λ (g : size n ≤ z). not-le_of_lt (lt_of_lt_of_le (size-lt n) (pow_mono g)) lo))

-- a number of digits dropped that leaves c whole
whole-even : (p c d : ℕ) → size (c * 2 ^ d) - p ≡ d → c % 2 ≡ 0 → c * 2 ^ d / 2 ^ (size (c * 2 ^ d) - p) % 2 ≡ 0
whole-even p c d e E = rw e (ap (λ (x : ℕ). x % 2) (mul-div_cancel c (pow_pos d)) ∙ E)

short : (p c d : ℕ) → 0 < p → c < 2 ^ p → (0 < d → 2 ^ (p - 1) ≤ c) → size (c * 2 ^ d) - p ≡ d
short p c zero P C F = let h = size-le (c * 1) p (subst (λ (x : ℕ). x < 2 ^ p) (sym (mul-one c)) C) in omega arith
short p c (suc d) P C F =
    let k = suc d in
    let lo : 2 ^ (p - 1 + k) ≤ c * 2 ^ k = le_trans (le_of_eq (pow-add 2 (p - 1) k)) (mul-le-mul_right (2 ^ k) (F (zero-lt-suc d))) in
    let e : suc (p - 1 + k) ≡ p + k = omega arith in
    let z : size (c * 2 ^ k) ≡ suc (p - 1 + k) = size_is (c * 2 ^ k) (p - 1 + k) lo (rw e (shl_lt p k C)) in
    omega arith

even_pow : (p : ℕ) → 2 ≤ p → 2 ^ (p - 1) % 2 ≡ 0
even_pow p h = let e : 2 ^ (p - 1) ≡ 2 * 2 ^ (p - 1 - 1) = double_pow (p - 1) (omega arith) in omega arith

-- a carry into one digit more leaves a power of two
carried : (p c d : ℕ) → 2 ≤ p → c ≡ 2 ^ p → c * 2 ^ d ≡ 2 ^ (p - 1) * 2 ^ suc d
carried p c d P e = rw e (sym (pow-add 2 p d) ∙ ap (λ (x : ℕ). 2 ^ x) (next p d P) ∙ pow-add 2 (p - 1) (suc d))
  where
    next : (p d : ℕ) → 2 ≤ p → p + d ≡ p - 1 + suc d
    next p d h = omega arith

last_even : (p c d : ℕ) → 2 ≤ p → c ≤ 2 ^ p → (0 < d → 2 ^ (p - 1) ≤ c) → c % 2 ≡ 0 → c * 2 ^ d / 2 ^ (size (c * 2 ^ d) - p) % 2 ≡ 0
last_even p c d P C F E = elim (eq-or-lt_of_le C) [
  | inl e ↦ subst (λ (x : ℕ). x / 2 ^ (size x - p) % 2 ≡ 0) (sym (carried p c d P e)) (whole-even p (2 ^ (p - 1)) (suc d) (short p (2 ^ (p - 1)) (suc d) (omega arith) (pow-lt (omega arith)) (λ _. le_refl (2 ^ (p - 1)))) (even_pow p P))
  | inr l ↦ whole-even p c d (short p c d (omega arith) l F) E
]

pub rnd_last : (p n den : ℕ) → 2 ≤ p → 0 < den → kept p n den % 2 ≡ 0 → rnd p n den / 2 ^ (size (rnd p n den) - p) % 2 ≡ 0
rnd_last p n den P D E = last_even p (kept p n den) (drop p n den) P (kept-le p n den) (kept_full p n den (omega arith) D) E
