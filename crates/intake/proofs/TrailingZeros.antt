-- The zeros below the lowest set digit of a number of d digits.
use Prim.Native.Nat.{ℕ, zero, suc, ◌-◌, ◌*◌, ◌/◌, ◌%◌, ◌^◌, ◌≤◌, ◌<◌}
use native.Mathlib.Omega.{arith}
use native.Mathlib.Nat.{div-one, div-div-eq-div-mul, pow-succ'}
use mathlib.Core.Path.{◌≡◌, refl, sym, ap}
use mathlib.Core.Logic.{◌⊎◌, inl, inr}
use mathlib.Core.Bool.{true, false}
use lib.Bits.{bit_and, and_step, and_self}
use lib.Count.{count_trailing_zeros, under}
use borrow.Author.Tests.{eq-eqb, ne_eqb}
use Rattle.scope.specs.Runs.{bit}

digit : (n : ℕ) → (n % 2 ≡ 0) ⊎ (n % 2 ≡ 1)
digit n = two (n % 2) (omega arith)
  where
    two : (r : ℕ) → r < 2 → (r ≡ 0) ⊎ (r ≡ 1)
    two zero l = inl refl
    two (suc r) l = inr (omega arith)

halved : (n t : ℕ) → n / 2 ^ suc t ≡ n / 2 / 2 ^ t
halved n t = rw (pow-succ' 2 t) (sym (div-div-eq-div-mul n 2 (2 ^ t)))

-- ---- the digits of n below the count are 0, and the next is 1, unless n is 0

clear_below : (d n t : ℕ) → t < count_trailing_zeros d n → n / 2 ^ t % 2 ≡ 0
unfolding count_trailing_zeros
clear_below zero n t h = absurd (omega arith)
clear_below (suc d) n t h = elim (digit n) [
  | inl e ↦ first t (rw e at h) e (λ u l. clear_below d (n / 2) u l)
  | inr e ↦ let l : t < 0 = rw e at h in absurd (omega arith)
]
  where
    first : (t : ℕ) → t < suc (count_trailing_zeros d (n / 2)) → n % 2 ≡ 0 → ((u : ℕ) → u < count_trailing_zeros d (n / 2) → n / 2 / 2 ^ u % 2 ≡ 0) → n / 2 ^ t % 2 ≡ 0
    first zero l e rest = rw (div-one n) e
    first (suc t) l e rest = rw (halved n t) (rest t (omega arith))

set-above : (d n : ℕ) → (n ≡ 0 → ⊥) → n < 2 ^ d → n / 2 ^ count_trailing_zeros d n % 2 ≡ 1
unfolding count_trailing_zeros
set-above zero n h l = absurd (h (omega arith))
set-above (suc d) n h l = elim (digit n) [
  | inl e ↦ rw (e, halved n (count_trailing_zeros d (n / 2))) (set-above d (n / 2) (λ z. h (omega arith)) (half (2 ^ d) (rw (pow-succ' 2 d) at l)))
  | inr e ↦ rw (e, div-one n) e
]
  where
    half : (p : ℕ) → n < 2 * p → n / 2 < p
    half p l = omega arith

-- ---- so as bits

apart_digits : {x : ℕ} → x ≡ 0 → x ≡ 1 → ⊥
apart_digits e t = absurd (omega arith)

pub lowest_there : (d m : ℕ) → m < 2 ^ d → (m ≡ 0 → ⊥) → bit m (count_trailing_zeros d m) ≡ true
unfolding bit
lowest_there d m l h = eq-eqb _ 1 (set-above d m h l)

pub none-lower : (d m k : ℕ) → k < count_trailing_zeros d m → bit m k ≡ false
unfolding bit
none-lower d m k h = ne_eqb _ 1 (apart_digits (clear_below d m k h))

-- ---- a number and the one before it have the same digits above that one, and none in common up to it

pub lowest_cleared : (d n : ℕ) → (n ≡ 0 → ⊥) → n < 2 ^ d → bit_and n (n - 1) ≡ n - 2 ^ count_trailing_zeros d n
unfolding count_trailing_zeros
lowest_cleared zero n h l = absurd (h (omega arith))
lowest_cleared (suc d) n h l = elim (digit n) [
  | inl e ↦
      let half : (n - 1) / 2 ≡ n / 2 - 1 = omega arith in
      let odd : (n - 1) % 2 ≡ 1 = omega arith in
      rw (e, and_step n (n - 1), half, odd, e, lowest_cleared d (n / 2) (λ z. h (omega arith)) (omega (arith, pow-succ' 2 d)), pow-succ' 2 (count_trailing_zeros d (n / 2))) (omega arith)
  | inr e ↦
      let half : (n - 1) / 2 ≡ n / 2 = omega arith in
      let even : (n - 1) % 2 ≡ 0 = omega arith in
      rw (e, and_step n (n - 1), half, even, e, and_self (n / 2)) (omega arith)
]

-- ---- how many there are

pub zeros_below : (d q : ℕ) → q < d → count_trailing_zeros d (2 ^ q) ≡ q
unfolding count_trailing_zeros
zeros_below zero q h = absurd (omega arith)
zeros_below (suc d) zero h = refl
zeros_below (suc d) (suc q) h =
    let half : 2 ^ suc q / 2 ≡ 2 ^ q = rw (pow-succ' 2 q) (omega arith) in
    let last : 2 ^ suc q % 2 ≡ 0 = rw (pow-succ' 2 q) (omega arith) in
    rw (last, half) (ap suc (zeros_below d q (omega arith)))

pub few_zeros : (d n : ℕ) → count_trailing_zeros d n ≤ d
unfolding count_trailing_zeros
few_zeros zero n = omega arith
few_zeros (suc d) n = below (n % 2) (few_zeros d (n / 2))
  where
    below : (r : ℕ) {t : ℕ} → t ≤ d → under r t ≤ suc d
    below zero l = omega arith
    below (suc r) l = omega arith
