-- The arithmetic of the whole part of a root: it is settled by two comparisons, and 27 digits more come from one division and one correction.
use mathlib.Core.Path.{◌≡◌, ap}
use Prim.Native.Nat.{ℕ, zero, suc, ◌+◌, ◌-◌, ◌*◌, ◌/◌, ◌%◌, ◌^◌, ◌≤◌, ◌<◌}
use native.Mathlib.Nat.{mod-lt, div-add-mod', mul-le-mul, mul-le-mul_right, div-lt_iff_lt-mul}
use native.Mathlib.Omega.{arith}
use Rattle.algebra.proofs.Squares.{square-lt}
use Rattle.root.specs.Parts.{IsWholeRoot}

-- ---- a whole root lies where its number does
pub root-lt : (n q left r : ℕ) → IsWholeRoot n q left → n < r * r → q < r
root-lt n q left r w h = square-lt q r (omega arith)

pub le-root : (n q left r : ℕ) → IsWholeRoot n q left → r * r ≤ n → r ≤ q
le-root n q left r w h = let l : r < suc q = square-lt r (suc q) (omega arith) in omega arith

-- ---- the first estimate, and Newton's step, stay within bounds
pub parabola_bound : (m : ℕ) → m < 2 ^ 54 → m / 4294967296 * (m / 4294967296) ≤ 4194304 * (m / 4294967296)
parabola_bound m h = mul-le-mul_right (m / 4294967296) (omega arith)

pub quotient_lt : (m s : ℕ) → m < 2 ^ 54 → 2 ^ 23 ≤ s → m / s < 2 ^ 31
quotient_lt m s h l = (div-lt_iff_lt-mul {k = s} {y = 2 ^ 31} (omega arith)).1 (omega arith)

-- ---- from any number to the root
pub square-fits : (q : ℕ) → q ≤ 2 ^ 31 → q * q ≤ 2 ^ 62
square-fits q h = mul-le-mul h h

pub some_left : (m q : ℕ) → m < q * q → 0 < q
some_left m zero h = omega arith
some_left m (suc q) h = omega arith

pub root_below : (m q : ℕ) → m < 2 ^ 54 → q * q ≤ m → q < 2 ^ 27
root_below m q h l = square-lt q (2 ^ 27) (omega arith)

pub settled : (m q : ℕ) → q * q ≤ m → m < (q + 1) * (q + 1) → IsWholeRoot m q (m - q * q)
settled m q h l = omega arith

-- ---- 27 digits more. d and r are the quotient and the remainder of left * 2 ^ 27 + a by 2 * s; a and b are the halves of what stands behind
pub record Quotient (s left a d r : ℕ) : Type 0 where
  pub is : d * (s * 2) + r ≡ left * 2 ^ 27 + a
  pub small : r < s * 2
  pub most : d ≤ 2 ^ 27
  pub square : d * d ≤ 2 ^ 54

pub quotient : (s left a : ℕ) → 2 ^ 26 ≤ s → left ≤ 2 * s → a < 2 ^ 27 → Quotient s left a ((left * 2 ^ 27 + a) / (s * 2)) ((left * 2 ^ 27 + a) % (s * 2))
quotient s left a lo h g =
    let n = left * 2 ^ 27 + a in
    let e : n / (s * 2) * (s * 2) + n % (s * 2) ≡ n = div-add-mod' n (s * 2) in
    let l : n % (s * 2) < s * 2 = mod-lt n (omega arith) in
    let j : n / (s * 2) < 2 ^ 27 + 1 = (div-lt_iff_lt-mul {k = s * 2} {y = 2 ^ 27 + 1} (omega arith)).1 (omega arith) in
    let k : n / (s * 2) ≤ 2 ^ 27 = omega arith in
    record { is = e; small = l; most = k; square = mul-le-mul k k }

module _ (m s left a b d r : ℕ) (lo : 2 ^ 26 ≤ s) (B : b < 2 ^ 27) (w : IsWholeRoot m s left) (v : Quotient s left a d r) where
  pub digits_right : d * d ≤ r * 2 ^ 27 + b → IsWholeRoot (m * 2 ^ 54 + (a * 2 ^ 27 + b)) (s * 2 ^ 27 + d) (r * 2 ^ 27 + b - d * d)
  digits_right h = omega arith

  pub enough_left : r * 2 ^ 27 + b < d * d → d * d ≤ r * 2 ^ 27 + b + ((s * 2 ^ 27 + d) * 2 - 1)
  enough_left h = let x = some_left (r * 2 ^ 27 + b) d h in omega arith

  pub digits_one_less : r * 2 ^ 27 + b < d * d → IsWholeRoot (m * 2 ^ 54 + (a * 2 ^ 27 + b)) (s * 2 ^ 27 + d - 1) (r * 2 ^ 27 + b + ((s * 2 ^ 27 + d) * 2 - 1) - d * d)
  digits_one_less h = one_less (s * 2 ^ 27 + d) (s * 2 ^ 27 + d - 1) (r * 2 ^ 27 + b) (d * d) (m * 2 ^ 54 + (a * 2 ^ 27 + b)) (omega arith) (omega arith) (enough_left h) h
    where
      one_less : (t k u v n : ℕ) → t ≡ suc k → t * t + u ≡ n + v → v ≤ u + (t * 2 - 1) → u < v → IsWholeRoot n k (u + (t * 2 - 1) - v)
      one_less t k u v n p e h l = omega (arith, ap (λ (x : ℕ). x * x) p)

pub halves-joined : (n : ℕ) → n / 2 ^ 27 * 2 ^ 27 + n % 2 ^ 27 ≡ n
halves-joined n = omega arith

-- nothing behind
pub nothing_behind : (m q left : ℕ) → IsWholeRoot (m * 2 ^ 54 + 0) q left → IsWholeRoot (m * 2 ^ 54) q left
nothing_behind m q left w = omega arith
