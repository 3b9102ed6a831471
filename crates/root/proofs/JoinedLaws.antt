-- Where the larger number has 53 digits, what the code puts together is the nearest root: its sum is 4 * n up to a power of 4, so that the half-way points around
-- its root are those of n, up to a power of 2. Where the exponents are 27 and more apart it is the larger number.
use mathlib.Core.Path.{◌≡◌, refl, sym, ap, ◌∙◌, subst, subst₂}
use mathlib.Core.Logic.{inl, inr}
use Prim.Native.Nat.{ℕ, zero, suc, ◌+◌, ◌-◌, ◌*◌, ◌/◌, ◌%◌, ◌^◌, ◌≤◌, ◌<◌}
use native.Mathlib.Nat.{mul-le-mul, mul-le-mul_right, mul-lt-mul_of_pos_right, mul-pos, le_of_mul-le-mul_right, le_antisymm, le_trans, le_of_lt, le_of_eq}
use native.Mathlib.Omega.{arith}
use lib.Dec.{lit≤}
use lib.Pow.{pow_pos, pow-add}
use Rattle.algebra.proofs.Size.{either}
use Rattle.root.specs.Parts.{infinity, IsWholeRoot}
use Rattle.root.specs.Sums.{scaled_sum, IsSum, IsTie, IsRounded, IsNearestRootOf}
use Rattle.root.proofs.WholeLaws.{le-root, root-lt}
use Rattle.root.proofs.TieLaws.{HalfWays, root_from, root_to, root_exact, tie_at, rounded_half_ways}
use Rattle.root.proofs.HalfWayLaws.{between_is_nearest, past_is_infinite, quarter-le, quarter_gt}

-- ---- of a * 2 ^ e and b * 2 ^ (e - d) units. The sum of the code times (2 ^ (e - d)) ^ 2 is 4 * n
abbrev pub squares_of : ℕ → ℕ → ℕ → ℕ → ℕ
squares_of a b d e = a * 2 ^ e * (a * 2 ^ e) + b * 2 ^ (e - d) * (b * 2 ^ (e - d))

module _ (a b d e hi lo high q left : ℕ) (near : d ≤ e) (sum : IsSum a b d hi lo high) (w : IsWholeRoot (hi * 2 ^ 54 + lo) q left) where
  abbrev n : ℕ
  n = squares_of a b d e

  abbrev P : ℕ
  P = 2 ^ (e - d)

  abbrev W : ℕ
  W = 2 ^ (d + high)

  abbrev Q : ℕ
  Q = 2 ^ (e + high)

  abbrev X : ℕ
  X = scaled_sum a b d

  pub long-root : 2 ^ 53 ≤ q
  long-root = le-root (hi * 2 ^ 54 + lo) q left (2 ^ 53) w (let l = sum.long in omega arith)

  pub short-root : q < 2 ^ 54
  short-root = root-lt (hi * 2 ^ 54 + lo) q left (2 ^ 54) w (let l = sum.short in let s = sum.low in omega arith)

  last_place : W * P ≡ Q
  last_place = sym (pow-add 2 (d + high) (e - d)) ∙ ap (λ (x : ℕ). 2 ^ x) (joined d e high near)
    where
      joined : (d e h : ℕ) → d ≤ e → d + h + (e - d) ≡ e + h
      joined d e h l = omega arith

  four_times : X * (P * P) ≡ 4 * n
  four_times = regroup a b (2 ^ d) P (2 ^ e) (sym (pow-add 2 d (e - d)) ∙ ap (λ (x : ℕ). 2 ^ x) (joined d e near))
    where
      joined : (d e : ℕ) → d ≤ e → d + (e - d) ≡ e
      joined d e l = omega arith

      regroup : (a b D P E : ℕ) → D * P ≡ E → (2 * a * D * (2 * a * D) + 2 * b * (2 * b)) * (P * P) ≡ 4 * (a * E * (a * E) + b * P * (b * P))
      regroup a b D P E e = omega (arith, ap (λ (x : ℕ). 4 * (a * a) * (x * x)) e)

  scaled : (k : ℕ) → k * W * (k * W) * (P * P) ≡ k * Q * (k * Q)
  scaled k = regroup k W P Q last_place
    where
      regroup : (k W P Q : ℕ) → W * P ≡ Q → k * W * (k * W) * (P * P) ≡ k * Q * (k * Q)
      regroup k W P Q e = omega (arith, ap (λ (x : ℕ). k * k * (x * x)) e)

  squares-pos : 0 < P * P
  squares-pos = mul-pos (pow_pos (e - d)) (pow_pos (e - d))

  pub from : q * Q * (q * Q) ≤ 4 * n
  from = subst₂ ◌≤◌ (scaled q) four_times (mul-le-mul_right (P * P) (root_from X W (hi * 2 ^ 54 + lo) q left (pow_pos (d + high)) sum.from sum.to w))

  to : 4 * n < (q + 1) * Q * ((q + 1) * Q)
  to = subst₂ ◌<◌ four_times (scaled (q + 1)) (mul-lt-mul_of_pos_right (root_to X W (hi * 2 ^ 54 + lo) q left (pow_pos (d + high)) sum.from sum.to w) squares-pos)

  -- the larger square is a multiple of what is cut off
  multiple : (h : ℕ) → h ≤ 1 → (m : ℕ) × (2 * a * 2 ^ d ≡ m * 2 ^ (d + h))
  multiple zero l = (2 * a, ap (λ (x : ℕ). 2 * a * 2 ^ x) (plain d))
    where
      plain : (d : ℕ) → d ≡ d + 0
      plain d = omega arith
  multiple (suc zero) l = (a, twice a (2 ^ d) (2 ^ (d + 1)) (pow-add 2 d 1))
    where
      twice : (a D E : ℕ) → E ≡ D * 2 → 2 * a * D ≡ a * E
      twice a D E e = omega (arith, ap (λ (x : ℕ). a * x) e)
  multiple (suc (suc h)) l = absurd (omega arith)

  whole_and_rest : let m = (multiple high sum.once).0 in X ≡ m * m * (W * W) + 2 * b * (2 * b)
  whole_and_rest = let m = multiple high sum.once in regroup (2 * a * 2 ^ d) m.0 W b m.1
    where
      regroup : (A m W b : ℕ) → A ≡ m * W → A * A + 2 * b * (2 * b) ≡ m * m * (W * W) + 2 * b * (2 * b)
      regroup A m W b e = omega (arith, ap (λ (x : ℕ). x * x) e)

  tie_is_exact : IsTie q left (2 * b) (d + high) → 4 * n ≡ q * Q * (q * Q)
  tie_is_exact tie =
      let m = (multiple high sum.once).0 in
      sym four_times
      ∙ ap (λ (x : ℕ). x * (P * P)) (root_exact X W (hi * 2 ^ 54 + lo) q left (pow_pos (d + high)) sum.from sum.to w (m * m) (2 * b) whole_and_rest (2 * b / W) (sym tie.2) tie.0)
      ∙ scaled q

  exact_is_tie : 4 * n ≡ q * Q * (q * Q) → q % 4 ≡ 1 → IsTie q left (2 * b) (d + high)
  exact_is_tie e one =
      let m = (multiple high sum.once).0 in
      let same : X * (P * P) ≡ q * W * (q * W) * (P * P) = four_times ∙ e ∙ sym (scaled q) in
      let is : X ≡ q * W * (q * W) = le_antisymm (le_of_mul-le-mul_right {k = P * P} (le_of_eq same) squares-pos) (le_of_mul-le-mul_right {k = P * P} (le_of_eq (sym same)) squares-pos) in
      tie_at X W (hi * 2 ^ 54 + lo) q left (pow_pos (d + high)) sum.from sum.to w (m * m) (2 * b) whole_and_rest (d + high) refl is one

  module _ (r : ℕ) (rounded : IsRounded q left (2 * b) (d + high) r) where
    half_ways : HalfWays n Q r
    half_ways = let l = long-root in rounded_half_ways n Q q left (2 * b) (d + high) r (omega arith) (pow_pos (e + high)) from to tie_is_exact exact_is_tie rounded

    rounded_long : 2 ^ 52 ≤ r
    rounded_long = let l = long-root in elim rounded [ inl t ↦ let e = t.1 in omega arith | inr t ↦ let e = t.1 in omega arith ]

    pub rounded_short : r ≤ 2 ^ 53
    rounded_short = let l = short-root in elim rounded [ inl t ↦ let e = t.1 in omega arith | inr t ↦ let e = t.1 in omega arith ]

    leading : (i : ℕ) → 2 ^ (i + (e + high)) ≡ 2 ^ i * Q
    leading i = pow-add 2 i (e + high)

    pub joined_is_nearest : (e + high) * 2 ^ 52 + r < infinity → IsNearestRootOf n ((e + high) * 2 ^ 52 + r)
    joined_is_nearest h =
        between_is_nearest n (e + high) r half_ways rounded_short (λ _. rounded_long) h
        (λ _. quarter-le (2 ^ (52 + (e + high))) (2 ^ 52) q Q n (leading 52) (let l = long-root in omega arith) from)
        (quarter_gt (2 ^ (53 + (e + high))) (2 ^ 53) q Q n (leading 53) (let l = short-root in omega arith) to)

    -- past the last exponent, or at the last with a carry out of all its digits
    past_the_last : infinity ≤ (e + high) * 2 ^ 52 + r → e < 2046 → 2 * 2 ^ 2098 - 2 ^ 2045 ≤ q * Q
    past_the_last h l = let o = sum.once in let s = rounded_short in elim (either (e + high) 2046) [
      | inl k ↦
          let i : e + high ≡ 2045 = omega arith in
          let c : 2 ^ 54 - 1 ≤ q = elim rounded [ inl t ↦ let z = t.1 in omega arith | inr t ↦ let z = t.1 in omega arith ] in
          subst (λ (x : ℕ). 2 * 2 ^ 2098 - 2 ^ 2045 ≤ q * 2 ^ x) (sym i) (le_trans (lit≤ tt) (mul-le-mul_right (2 ^ 2045) c))
      | inr k ↦
          let i : e + high ≡ 2046 = omega arith in
          subst (λ (x : ℕ). 2 * 2 ^ 2098 - 2 ^ 2045 ≤ q * 2 ^ x) (sym i) (le_trans (lit≤ tt) (mul-le-mul_right (2 ^ 2046) long-root))
    ]

    pub joined_is_infinite : infinity ≤ (e + high) * 2 ^ 52 + r → e < 2046 → IsNearestRootOf n infinity
    joined_is_infinite h l = let c = past_the_last h l in past_is_infinite n (le_trans (mul-le-mul c c) from)

-- ---- exponents 27 and more apart: the smaller square raises the root by less than half of a last place
pub far_apart : (m e B : ℕ) → 2 ^ 52 ≤ m → m < 2 ^ 53 → e < 2046 → B * B < 2 ^ 52 * (2 ^ e * 2 ^ e) → IsNearestRootOf (m * 2 ^ e * (m * 2 ^ e) + B * B) (e * 2 ^ 52 + m)
far_apart m e B lo hi fits small =
    let Q = 2 ^ e in
    let n = m * Q * (m * Q) + B * B in
    let p = mul-pos (pow_pos e) (pow_pos e) in
    between_is_nearest n e m (half_ways m Q (B * B) lo p small) (le_of_lt hi) (λ _. lo) (omega arith)
    (λ _. reaches (2 ^ (52 + e)) m Q (B * B) lo (pow-add 2 52 e))
    (stays (2 ^ (53 + e)) m Q (B * B) lo hi small (pow-add 2 53 e))
  where
    half_ways : (m Q b : ℕ) → 2 ^ 52 ≤ m → 0 < Q * Q → b < 2 ^ 52 * (Q * Q) → HalfWays (m * Q * (m * Q) + b) Q m
    half_ways zero Q b lo p h = absurd (omega arith)
    half_ways (suc m) Q b lo p h =
        let l = mul-le-mul_right (Q * Q) lo in
        record {
          under = 2 * m + 1;
          next = omega arith;
          below = omega (arith, p);
          above = omega (arith, l, h);
          even-below = λ (e : (2 * m + 1) * Q * ((2 * m + 1) * Q) ≡ 4 * (suc m * Q * (suc m * Q) + b)). absurd (omega (arith, e, p));
          even-above = λ (e : 4 * (suc m * Q * (suc m * Q) + b) ≡ (2 * suc m + 1) * Q * ((2 * suc m + 1) * Q)). absurd (omega (arith, e, l, h, p));
        }

    reaches : (Y m Q b : ℕ) → 2 ^ 52 ≤ m → Y ≡ 2 ^ 52 * Q → Y * Y ≤ m * Q * (m * Q) + b
    reaches Y m Q b lo e = let l = mul-le-mul_right Q lo in omega (arith, ap (λ (x : ℕ). x * x) e, mul-le-mul l l)

    stays : (Y m Q b : ℕ) → 2 ^ 52 ≤ m → m < 2 ^ 53 → b < 2 ^ 52 * (Q * Q) → Y ≡ 2 ^ 53 * Q → m * Q * (m * Q) + b < Y * Y
    stays Y m Q b lo hi h e =
        let l : suc m ≤ 2 ^ 53 = omega arith in
        let k = mul-le-mul_right Q l in
        let next : suc m * Q * (suc m * Q) ≡ m * Q * (m * Q) + 2 * (m * (Q * Q)) + Q * Q = omega arith in
        omega (arith, h, next, ap (λ (x : ℕ). x * x) e, mul-le-mul k k, mul-le-mul_right (Q * Q) lo)
