-- Sixteen hexadecimal digits from the first on, by their places.
use Prim.Native.Nat.{ℕ, zero, suc, ◌+◌, ◌*◌, ◌-◌, ◌/◌, ◌%◌, ◌^◌, ◌<◌, ◌≤◌}
use mathlib.Core.Path.{◌≡◌, refl, sym}
use mathlib.Core.List.{List, [], ◌∷◌, ◌++◌}
use native.Mathlib.Omega.{arith}
use native.Mathlib.Numerals.{add-one}
use native.Mathlib.Nat.{pow-succ'}
use lib.ListN.{length}
use lib.Pow.{pow-add}
use Rattle.scope.specs.Runs.{tab}
use Rattle.scope.specs.Print.{hex_digit, hexadecimal, sixteen_digits}
use Rattle.laws.proofs.Runs.{length-tab, tab_last}

-- the first i of sixteen digits
abbrev pub first_digits : ℕ → ℕ → List ℕ
first_digits n i = tab i (λ k. hex_digit (n / 16 ^ (15 - k) % 16))

pub no_digits : (n : ℕ) → first_digits n 0 ≡ []
unfolding tab
no_digits n = refl

next_digit : (n i : ℕ) → first_digits n (i + 1) ≡ first_digits n i ++ (hex_digit (n / 16 ^ (15 - i) % 16) ∷ [])
next_digit n i = rw (add-one i) (tab_last i (λ k. hex_digit (n / 16 ^ (15 - k) % 16)))

-- with k digits to come, the next is the one with k - 1 digits behind it
pub next_digit_down : (n k : ℕ) → 0 < k → k ≤ 16
    → first_digits n (16 - (k - 1)) ≡ first_digits n (16 - k) ++ (hex_digit (n / 16 ^ (k - 1) % 16) ∷ [])
next_digit_down n k h m =
    let one : 16 - (k - 1) ≡ 16 - k + 1 = omega arith in
    let behind : 15 - (16 - k) ≡ k - 1 = omega arith in
    rw (one, ← behind) (next_digit n (16 - k))

pub all_digits : (n : ℕ) → first_digits n 16 ≡ sixteen_digits n
unfolding sixteen_digits hexadecimal
all_digits n = refl

pub digits_length : (n i : ℕ) → length (first_digits n i) ≡ i
digits_length n i = length-tab i (λ k. hex_digit (n / 16 ^ (15 - k) % 16))

-- a shift by k digits
pub sixteen_power : (k : ℕ) → 2 ^ (4 * k) ≡ 16 ^ k
sixteen_power zero = refl
sixteen_power (suc k) =
    let e : 4 * suc k ≡ 4 + 4 * k = omega arith in
    rw (e, pow-add, sixteen_power k) (sym (pow-succ' 16 k))
