-- The root of a sum of squares from the root of its leading digits: which of the two half-way points around the rounded root it lies between, and when it lies
-- at one. Over whole numbers only. A tie is a whole root, so nothing is left over and nothing was cut off; and what was cut off, the square of b below 4 ^ k,
-- is nothing exactly where b is a multiple of 2 ^ k.
use mathlib.Core.Path.{◌≡◌, refl, sym, ap, ◌∙◌}
use mathlib.Core.Logic.{inl, inr}
use Prim.Native.Nat.{ℕ, zero, suc, ◌+◌, ◌-◌, ◌*◌, ◌/◌, ◌%◌, ◌^◌, ◌≤◌, ◌<◌}
use native.Mathlib.Nat.{mul-le-mul, mul-le-mul_right, mul-lt-mul_of_pos_right, mul-pos, pow-succ', le_of_mul-le-mul_right, lt_of_mul-lt-mul_right, not-le_of_lt, le_trans, le_of_lt, lt_of_lt_of_le, le_of_eq, mul-div_cancel}
use native.Mathlib.Omega.{arith}
use lib.Pow.{pow_pos}
use Rattle.algebra.proofs.Size.{either}
use Rattle.root.specs.Parts.{IsWholeRoot}
use Rattle.root.specs.Sums.{IsTie, IsRounded}

-- ---- a square that is a multiple of 4 ^ j is that of a multiple of 2 ^ j
even-root : (n t : ℕ) → n * n ≡ 2 * t → n % 2 ≡ 0
even-root n t h = go (n / 2) (n % 2) (omega arith) (omega arith)
  where
    go : (m b : ℕ) → n ≡ m * 2 + b → b < 2 → b ≡ 0
    go m zero e l = refl
    go m (suc zero) e l = absurd (omega (arith, h, ap (λ (x : ℕ). x * x) e))
    go m (suc (suc b)) e l = absurd (omega arith)

square_multiple : (j n t : ℕ) → n * n ≡ t * (2 ^ j * 2 ^ j) → (m : ℕ) × (n ≡ m * 2 ^ j)
square_multiple zero n t h = (n, omega arith)
square_multiple (suc j) n t h =
    let g = rw (pow-succ' 2 j) at h in
    let P = 2 ^ j * 2 ^ j in
    let e : n % 2 ≡ 0 = even-root n (2 * (t * P)) (omega (arith, g)) in
    let m = n / 2 in
    let f : n ≡ m * 2 = omega arith in
    let k : m * m ≡ t * P = omega (arith, g, ap (λ (x : ℕ). x * x) f) in
    let r = square_multiple j m t k in
    (r.0, twice n m r.0 (2 ^ j) (2 ^ suc j) f r.1 (pow-succ' 2 j))
  where
    twice : (n m k P D : ℕ) → n ≡ m * 2 → m ≡ k * P → D ≡ 2 * P → n ≡ k * D
    twice n m k P D f e d = omega (arith, ap (λ (y : ℕ). k * y) d)

whole_multiple : (n j : ℕ) → (m : ℕ) × (n ≡ m * 2 ^ j) → n / 2 ^ j * 2 ^ j ≡ n
whole_multiple n j m = ap (λ (x : ℕ). x / 2 ^ j * 2 ^ j) m.1 ∙ ap (λ (x : ℕ). x * 2 ^ j) (mul-div_cancel m.0 (pow_pos j)) ∙ sym m.1

-- ---- S is the whole part of X / (W * W), q that of its root: q times W is at most X's root, and q + 1 times W above it
module _ (X W S q left : ℕ) (pos : 0 < W) (lo : S * (W * W) ≤ X) (hi : X < (S + 1) * (W * W)) (w : IsWholeRoot S q left) where
  pub root_from : q * W * (q * W) ≤ X
  root_from = let s : q * q ≤ S = omega arith in omega (arith, lo, mul-le-mul_right (W * W) s)

  pub root_to : X < (q + 1) * W * ((q + 1) * W)
  root_to = let s : S + 1 ≤ (q + 1) * (q + 1) = omega arith in omega (arith, hi, mul-le-mul_right (W * W) s)

  -- X is A * (W * W) and b * b. It is the square of q * W exactly where nothing is left over and b is a multiple of W
  module _ (A b : ℕ) (is : X ≡ A * (W * W) + b * b) where
    pub root_exact : (m : ℕ) → b ≡ m * W → left ≡ 0 → X ≡ q * W * (q * W)
    root_exact m e l =
        let t : X ≡ (A + m * m) * (W * W) = omega (arith, is, ap (λ (x : ℕ). x * x) e) in
        let s : A + m * m ≡ S = whole_part (A + m * m) S X (W * W) (mul-pos pos pos) t lo hi in
        let r : A + m * m ≡ q * q = omega arith in
        omega (arith, t, ap (λ (x : ℕ). x * (W * W)) r)
      where
        whole_part : (T S X D : ℕ) → 0 < D → X ≡ T * D → S * D ≤ X → X < (S + 1) * D → T ≡ S
        whole_part T S X D p e l h =
            let a : S ≤ T = le_of_mul-le-mul_right {k = D} (omega (arith, e, l)) p in
            let b : T < S + 1 = lt_of_mul-lt-mul_right D (omega (arith, e, h)) in
            omega arith

    nothing_left : X ≡ q * W * (q * W) → left ≡ 0
    nothing_left e =
        let l : left * (W * W) ≤ 0 = omega (arith, e, lo, ap (λ (x : ℕ). x * (W * W)) w.square) in
        let z : left ≤ 0 = le_of_mul-le-mul_right {k = W * W} (omega (arith, l)) (mul-pos pos pos) in
        omega arith

    nothing_cut : X ≡ q * W * (q * W) → b * b ≡ (q * q - A) * (W * W)
    nothing_cut e =
        let a : A ≤ q * q = le_of_mul-le-mul_right {k = W * W} (omega (arith, e, is)) (mul-pos pos pos) in
        let k : q * q ≡ A + (q * q - A) = omega arith in
        omega (arith, e, is, ap (λ (x : ℕ). x * (W * W)) k)

    pub tie_at : (k : ℕ) → W ≡ 2 ^ k → X ≡ q * W * (q * W) → q % 4 ≡ 1 → IsTie q left b k
    tie_at k p e one = (nothing_left e, one, whole_multiple b k (square_multiple k b (q * q - A) (rw p at (nothing_cut e))))

-- ---- the root of 4 * n, which lies from q to q + 1 times Q, halved and rounded to r times Q: it lies between the half-way points around r, and where it lies
-- at one, r is even
pub record HalfWays (n Q r : ℕ) : Type 0 where
  pub under : ℕ
  pub next : under + 1 ≡ 2 * r
  pub below : under * Q * (under * Q) ≤ 4 * n
  pub above : 4 * n ≤ (2 * r + 1) * Q * ((2 * r + 1) * Q)
  pub even-below : under * Q * (under * Q) ≡ 4 * n → r % 2 ≡ 0
  pub even-above : 4 * n ≡ (2 * r + 1) * Q * ((2 * r + 1) * Q) → r % 2 ≡ 0

times_square_le : (a b Q : ℕ) → a ≤ b → a * Q * (a * Q) ≤ b * Q * (b * Q)
times_square_le a b Q h = let l = mul-le-mul_right Q h in mul-le-mul l l

times_square_lt : (a b Q : ℕ) → 0 < Q → a < b → a * Q * (a * Q) < b * Q * (b * Q)
times_square_lt a b Q p h = let l = mul-lt-mul_of_pos_right h p in strict (a * Q) (b * Q) l
  where
    strict : (x y : ℕ) → x < y → x * x < y * y
    strict x y l = let k : x + 1 ≤ y = omega arith in omega (arith, mul-le-mul k k)

module _ (n Q q left b k r : ℕ) (some : 2 ≤ q) (pos : 0 < Q) (from : q * Q * (q * Q) ≤ 4 * n) (to : 4 * n < (q + 1) * Q * ((q + 1) * Q))
    (at : IsTie q left b k → 4 * n ≡ q * Q * (q * Q)) (only : 4 * n ≡ q * Q * (q * Q) → q % 4 ≡ 1 → IsTie q left b k) where
  -- rounded up to an odd number, the root is at no half-way point
  odd_is_no_tie : (u : ℕ) → u + 1 ≡ 2 * r → u ≤ q → (IsTie q left b k → ⊥) → u * Q * (u * Q) ≡ 4 * n → (m : ℕ) → m < 2 → r % 2 ≡ m → m ≡ 0
  odd_is_no_tie u e l none h zero g f = refl
  odd_is_no_tie u e l none h (suc zero) g f = absurd (elim (either u q) [
    | inl less ↦ not-le_of_lt (times_square_lt u q Q pos less) (le_trans from (le_of_eq (sym h)))
    | inr not-less ↦ let same : u ≡ q = omega arith in none (only (sym h ∙ ap (λ (x : ℕ). x * Q * (x * Q)) same) (omega arith))
  ])
  odd_is_no_tie u e l none h (suc (suc m)) g f = absurd (omega arith)

  pub rounded_half_ways : IsRounded q left b k r → HalfWays n Q r
  rounded_half_ways (inl (tie, e)) =
      let half : q ≡ 2 * r + 1 = omega arith in
      let double : r ≡ 2 * (q / 4) = omega arith in
      let even : r % 2 ≡ 0 = omega arith in
      record {
        under = 2 * r - 1;
        next = omega arith;
        below = le_trans (times_square_le (2 * r - 1) q Q (omega arith)) from;
        above = le_of_eq (at tie ∙ ap (λ (x : ℕ). x * Q * (x * Q)) half);
        even-below = λ _. even;
        even-above = λ _. even;
      }
  rounded_half_ways (inr (none, e)) =
      let up = times_square_le (q + 1) (2 * r + 1) Q (omega arith) in
      record {
        under = 2 * r - 1;
        next = omega arith;
        below = le_trans (times_square_le (2 * r - 1) q Q (omega arith)) from;
        above = le_of_lt (lt_of_lt_of_le to up);
        even-below = λ (h : (2 * r - 1) * Q * ((2 * r - 1) * Q) ≡ 4 * n). odd_is_no_tie (2 * r - 1) (omega arith) (omega arith) none h (r % 2) (omega arith) refl;
        even-above = λ (h : 4 * n ≡ (2 * r + 1) * Q * ((2 * r + 1) * Q)). absurd (not-le_of_lt (lt_of_lt_of_le to up) (le_of_eq (sym h)));
      }
