-- How near the roundings of a test by squares can bring its two sides, in whole numbers: each rounding is one part in Q + 1 off, or half of a unit, and the
-- factor of the radius's square is 32 such parts off 1. There L is 1 in units, N the radius R squared, q its rounding, F the factor and t the rounded product;
-- X and Y are the exact squares of the offsets, a and b their roundings, and s the rounded sum of these.
use Prim.Native.Nat.{ℕ, ◌+◌, ◌*◌, ◌≤◌, ◌<◌}
use native.Mathlib.Nat.{mul-pos, mul-le-mul, mul-le-mul_left, mul-le-mul_right, le_of_mul-le-mul_right, le_trans}
use native.Mathlib.Omega.{arith}

-- z is the rounding of a / d units: it keeps Q parts in Q + 1 of them and adds one at most, but for half of a unit
abbrev pub Keeps : ℕ → ℕ → ℕ → ℕ → Type 0
Keeps Q z a d = 2 * (Q * a) ≤ (Q + 1) * ((2 * z + 1) * d)

abbrev pub Adds : ℕ → ℕ → ℕ → ℕ → Type 0
Adds Q z a d = 2 * ((Q + 1) * (z * d)) ≤ 2 * ((Q + 2) * a) + (Q + 1) * d

module _ (Q L : ℕ) (large : 64 ≤ Q) where
  Q-pos : 0 < Q
  Q-pos = omega arith

  -- ---- s below t, and F below 1: the exact sum is at most N
  sum_below : (X Y a b s : ℕ) → Keeps Q a X L → Keeps Q b Y L → Keeps Q s (a + b) 1
      → Q * Q * (X + Y) ≤ (Q + 1) * (Q + 1) * (L * (s + 2))
  sum_below X Y a b s hX hY hs = omega (arith, mul-le-mul_left Q hX, mul-le-mul_left Q hY, mul-le-mul_left ((Q + 1) * L) hs)

  product_above : (s t q F C : ℕ) → s < t → Adds Q t (q * F) L → (Q + 1) * F ≤ C * L
      → (Q + 1) * (Q + 1) * (L * (s + 2)) ≤ (Q + 2) * C * (q * L) + 2 * ((Q + 1) * (Q + 1) * L)
  product_above s t q F C l ht hF =
      let next = mul-le-mul_left ((Q + 1) * (Q + 1) * L) l in
      omega (arith, mul-le-mul_left (Q + 1) ht, mul-le-mul_left ((Q + 2) * q) hF)

  enough : (S W C N : ℕ) → Q * Q * S ≤ (Q + 2) * C * W + 2 * ((Q + 1) * (Q + 1) * L) → 2 * ((Q + 1) * W) ≤ 2 * ((Q + 2) * N) + (Q + 1) * L
      → C + 32 ≤ Q + 1 → 3 * ((Q + 1) * L) ≤ N → S ≤ N
  enough S W C N h hW hC wide =
      let square = mul-le-mul_left ((Q + 2) * C) hW in
      let factor : (Q + 2) * (Q + 2) * C * N + 32 * ((Q + 2) * (Q + 2) * N) ≤ (Q + 2) * (Q + 2) * (Q + 1) * N = omega (arith, mul-le-mul_right ((Q + 2) * (Q + 2) * N) hC) in
      let unit : (Q + 2) * C * ((Q + 1) * L) ≤ (Q + 2) * (Q + 1) * ((Q + 1) * L) = omega (arith, mul-le-mul_right ((Q + 2) * (Q + 1) * L) hC) in
      le_of_mul-le-mul_right {k = Q * Q * (Q + 1)} (omega (arith, mul-le-mul_left (Q + 1) h, mul-le-mul_left ((Q + 1) * (Q + 1)) wide)) (mul-pos (mul-pos Q-pos Q-pos) (omega arith))

  pub inside : (X Y a b s t q F C N : ℕ)
      → Keeps Q a X L → Keeps Q b Y L → Keeps Q s (a + b) 1
      → s < t → Adds Q t (q * F) L → Adds Q q N L
      → (Q + 1) * F ≤ C * L → C + 32 ≤ Q + 1 → 3 * ((Q + 1) * L) ≤ N → X + Y ≤ N
  inside X Y a b s t q F C N hX hY hs l ht hq hF hC wide =
      let sum = sum_below X Y a b s hX hY hs in
      let product = product_above s t q F C l ht hF in
      enough (X + Y) (q * L) C N (le_trans sum product) hq hC wide

  -- ---- t below s, and F above 1: the nearest root h of the exact sum S is above R. Its error is e
  pub root-above : (S R h e : ℕ) → S ≤ (h + e) * (h + e) → h ≤ R → Q * e ≤ R + 2 * Q → 5 * (Q + 1) ≤ R → (Q + 1) * S ≤ (Q + 5) * (R * R)
  root-above S R h e hS l he long =
      let root : Q * (h + e) ≤ (Q + 1) * (R + 2) = omega (arith, mul-le-mul_left Q l) in
      let square : Q * Q * S ≤ (Q + 1) * (Q + 1) * ((R + 2) * (R + 2)) = omega (arith, mul-le-mul_left (Q * Q) hS, mul-le-mul root root) in
      let short : (Q + 1) * (4 * R + 4) ≤ R * R = omega (arith, mul-le-mul_right R long) in
      le_of_mul-le-mul_right {k = Q * Q}
      (omega (arith, mul-le-mul_left (Q + 1) square, mul-le-mul_left ((Q + 1) * (Q + 1)) short, mul-le-mul_right (Q * (R * R)) large, mul-le-mul_right (R * R) large))
      (mul-pos Q-pos Q-pos)

  sum-above : (X Y a b s N : ℕ) → Adds Q a X L → Adds Q b Y L
      → Adds Q s (a + b) 1 → (Q + 1) * (X + Y) ≤ (Q + 5) * N → 3 * ((Q + 1) * L) ≤ N → (Q + 1) * (s * L) ≤ (Q + 10) * N
  sum-above X Y a b s N hX hY hs hS wide =
      let sum : (Q + 1) * (Q + 1) * (s * L) ≤ (Q + 2) * (Q + 2) * (X + Y) + 2 * ((Q + 1) * (Q + 1) * L) =
      omega (arith, mul-le-mul_left ((Q + 1) * L) hs, mul-le-mul_left (Q + 2) hX, mul-le-mul_left (Q + 2) hY, mul-le-mul_right (Q * L) large, mul-le-mul_right L large) in
      le_of_mul-le-mul_right {k = (Q + 1) * (Q + 1)}
      (omega (arith, mul-le-mul_left (Q + 1) sum, mul-le-mul_left ((Q + 2) * (Q + 2)) hS, mul-le-mul_left ((Q + 1) * (Q + 1)) wide, mul-le-mul_right (Q * N) large, mul-le-mul_right N large))
      (mul-pos {m = Q + 1} (omega arith) (omega arith))

  product_below : (s t q F N : ℕ) → t < s → Keeps Q t (q * F) L → (Q + 33) * L ≤ (Q + 1) * F → (Q + 1) * (s * L) ≤ (Q + 10) * N
      → Q * (Q + 33) * (q * L) ≤ (Q + 1) * (Q + 10) * N
  product_below s t q F N l ht hF hs =
      let next = mul-le-mul_left ((Q + 1) * L) l in
      let product : Q * (q * F) ≤ (Q + 10) * N = omega arith in
      omega (arith, mul-le-mul_left (Q + 1) product, mul-le-mul_left (Q * q) hF)

  pub outside : (X Y a b s t q F R h e : ℕ) → X + Y ≤ (h + e) * (h + e) → h ≤ R → Q * e ≤ R + 2 * Q
      → Adds Q a X L → Adds Q b Y L → Adds Q s (a + b) 1
      → t < s → Keeps Q t (q * F) L → Keeps Q q (R * R) L
      → (Q + 33) * L ≤ (Q + 1) * F → 3 * ((Q + 1) * L) ≤ R * R → 5 * (Q + 1) ≤ R → ⊥
  outside X Y a b s t q F R h e hS l he hX hY hs less ht hq hF wide long =
      let N = R * R in
      let sum = sum-above X Y a b s N hX hY hs (root-above (X + Y) R h e hS l he long) wide in
      let product = product_below s t q F N less ht hF sum in
      let N-pos : 0 < N = mul-pos {m = R} (omega arith) (omega arith) in
      let both : 2 * (Q * Q * (Q + 33)) ≤ 2 * ((Q + 1) * (Q + 1) * (Q + 10)) + Q * (Q + 33) =
      le_of_mul-le-mul_right {k = N} (omega (arith, mul-le-mul_left (Q * (Q + 33)) hq, mul-le-mul_left (Q + 1) product, mul-le-mul_left (Q * (Q + 33)) wide)) N-pos in
      omega (arith, mul-le-mul_right Q large)
