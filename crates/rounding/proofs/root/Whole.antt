-- `whole_root` is the whole part of the root, found a base-4 digit at a time; `halves n` compares with 2 * c exactly as n with c * c, for every c.
-- So a comparison of the exact root with a whole number is one of `halves`, and the root itself is never needed.
use mathlib.Core.Path.{◌≡◌, refl}
use mathlib.Core.Logic.{◌⊎◌, inl, inr}
use mathlib.Core.Bool.{Bool, true, false, not, cond}
use Prim.Native.Nat.{ℕ, zero, suc, ◌+◌, ◌*◌, ◌/◌, ◌^◌, ◌≤◌, ◌<◌}
use native.Mathlib.Nat.{le_trans, le_of_eq, lt_of_lt_of_le, mul-le-mul, pow-succ'}
use native.Mathlib.Omega.{arith}
use lib.Dec.{T, leb, ltb, leb→le, nleb→lt, ltb→lt, nltb→le}
use lib.Pow.{pow_mono, pow-add}
use lib.Ieee.{size}
use lib.Ieee.Digits.{size-lt}
use Rattle.algebra.proofs.Squares.{square-lt}
use Rattle.rounding.specs.Root.{whole_root, halves}

-- r is the whole part of the root of n
pub record WholePart (n r : ℕ) : Type 0 where
  pub low : r * r ≤ n
  pub high : n < suc r * suc r

-- ---- the whole part, a digit at a time
digit_more : (n s : ℕ) → WholePart (n / 4) s → WholePart n (cond (leb (suc (2 * s) * suc (2 * s)) n) (suc (2 * s)) (2 * s))
digit_more n s w = pick (leb (suc (2 * s) * suc (2 * s)) n) (leb→le (suc (2 * s) * suc (2 * s)) n) (nleb→lt (suc (2 * s) * suc (2 * s)) n)
  where
    pick : (b : Bool) → (T b → suc (2 * s) * suc (2 * s) ≤ n) → (T (not b) → n < suc (2 * s) * suc (2 * s)) → WholePart n (cond b (suc (2 * s)) (2 * s))
    pick true reached missed = let h = reached tt in record { low = h; high = omega arith }
    pick false reached missed = let h = missed tt in record { low = omega arith; high = h }

pub whole-root : (d n : ℕ) → n < 4 ^ d → WholePart n (whole_root d n)
unfolding whole_root
whole-root zero n h = record { low = omega arith; high = omega arith }
whole-root (suc d) n h = digit_more n (whole_root d (n / 4)) (whole-root d (n / 4) (quarter d n h))
  where
    quarter : (d n : ℕ) → n < 4 ^ suc d → n / 4 < 4 ^ d
    quarter d n h = omega (arith, pow-succ' 4 d)

-- ---- the digits that `halves` asks for are enough
pub four_pow : (d : ℕ) → 4 ^ d ≡ 2 ^ d * 2 ^ d
four_pow zero = refl
four_pow (suc d) = rw (pow-succ' 2 d, pow-succ' 4 d) (omega (arith, four_pow d))

enough_digits : (n : ℕ) → n < 4 ^ suc (size n / 2)
enough_digits n =
    let d = suc (size n / 2) in
    rw (four_pow d) (lt_of_lt_of_le (size-lt n) (le_trans (pow_mono (covered (size n))) (le_of_eq (pow-add 2 d d))))
  where
    covered : (z : ℕ) → z ≤ suc (z / 2) + suc (z / 2)
    covered z = omega arith

-- ---- `halves n` is twice the whole part, or one more where that is not all
pub record InHalves (n h : ℕ) : Type 0 where
  pub whole : ℕ
  pub part : WholePart n whole
  pub rest : ((h ≡ 2 * whole) × (n ≡ whole * whole)) ⊎ ((h ≡ 2 * whole + 1) × (whole * whole < n))

pub halves_is : (n : ℕ) → InHalves n (halves n)
unfolding halves
halves_is n =
    let r = whole_root (suc (size n / 2)) n in
    let w = whole-root (suc (size n / 2)) n (enough_digits n) in
    record { whole = r; part = w; rest = pick r w (ltb (r * r) n) (ltb→lt (r * r) n) (nltb→le (r * r) n) }
  where
    pick : (r : ℕ) → WholePart n r → (b : Bool) → (T b → r * r < n) → (T (not b) → n ≤ r * r)
        → ((2 * r + cond b 1 0 ≡ 2 * r) × (n ≡ r * r)) ⊎ ((2 * r + cond b 1 0 ≡ 2 * r + 1) × (r * r < n))
    pick r w true more all = inr (refl, more tt)
    pick r w false more all = let h = all tt in inl (omega arith, omega arith)

-- ---- the comparisons
module _ (n c : ℕ) where
  pub halves-le : n ≤ c * c → halves n ≤ 2 * c
  halves-le h = let i = halves_is n in elim i.rest [
    | inl e ↦ let l : i.whole < suc c = square-lt i.whole (suc c) (omega arith) in omega arith
    | inr e ↦ let l : i.whole < c = square-lt i.whole c (omega arith) in omega arith
  ]

  pub le-halves : c * c ≤ n → 2 * c ≤ halves n
  le-halves h = let i = halves_is n in let l : c < suc i.whole = square-lt c (suc i.whole) (let p = i.part in omega arith) in elim i.rest [ inl e ↦ omega arith | inr e ↦ omega arith ]

  pub le_of_halves : halves n ≤ 2 * c → n ≤ c * c
  le_of_halves h = let i = halves_is n in elim i.rest [
    | inl e ↦ let l : i.whole ≤ c = omega arith in omega (arith, mul-le-mul l l)
    | inr e ↦ let l : suc i.whole ≤ c = omega arith in let p = i.part in omega (arith, mul-le-mul l l)
  ]

  pub ge_of_halves : 2 * c ≤ halves n → c * c ≤ n
  ge_of_halves h = let i = halves_is n in let p = i.part in elim i.rest [
    | inl e ↦ let l : c ≤ i.whole = omega arith in omega (arith, mul-le-mul l l)
    | inr e ↦ let l : c ≤ i.whole = omega arith in omega (arith, mul-le-mul l l)
  ]
