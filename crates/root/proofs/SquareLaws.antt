-- A sum of two squares in words of 54 digits: a square by halves, a quotient by a power of 4, and both added. What is cut off is below one of the last digit.
use mathlib.Core.Path.{◌≡◌, ap, ◌∙◌}
use Prim.Native.Nat.{ℕ, ◌+◌, ◌-◌, ◌*◌, ◌/◌, ◌%◌, ◌^◌, ◌≤◌, ◌<◌}
use native.Mathlib.Nat.{mod-lt, div-add-mod', mul-le-mul, mul-le-mul_right, mul-lt-mul_of_pos_right, lt_of_mul-lt-mul_right, lt_of_le_of_lt, le_of_lt, le_of_eq, le_trans, div-le_self, mul-add-div_right}
use lib.Pow.{pow_pos, pow-add}
use native.Mathlib.Omega.{arith}
use Rattle.root.specs.Sums.{scaled_sum, IsSum}

-- ---- the square of a number below 2 ^ 54, by halves
pub record Products (h l : ℕ) : Type 0 where
  pub hh : h * h ≤ 2 ^ 54
  pub hl : h * l ≤ 2 ^ 54
  pub ll : l * l ≤ (2 ^ 27 - 1) * (2 ^ 27 - 1)

pub products : (a : ℕ) → a < 2 ^ 54 → Products (a / 2 ^ 27) (a % 2 ^ 27)
products a h =
    let x : a / 2 ^ 27 ≤ 2 ^ 27 = omega arith in
    let y : a % 2 ^ 27 ≤ 2 ^ 27 = omega arith in
    let z : a % 2 ^ 27 ≤ 2 ^ 27 - 1 = omega arith in
    record { hh = mul-le-mul x x; hl = mul-le-mul x y; ll = mul-le-mul z z }

pub square_is : (a h l m : ℕ) → h * 2 ^ 27 + l ≡ a → m ≡ 2 * (h * l) → (h * h + m / 2 ^ 27) * 2 ^ 54 + (l * l + m % 2 ^ 27 * 2 ^ 27) ≡ a * a
square_is a h l m e q = omega (arith, ap (λ (x : ℕ). x * x) e)

-- the upper word of what is not above a square has no more digits than the number
pub upper_lt : (x hi lo M : ℕ) → hi * M + lo ≤ x * x → x < M → hi < M
upper_lt x hi lo M e l = lt_of_mul-lt-mul_right M (lt_of_le_of_lt (omega (arith, e)) (squares-lt x M l))
  where
    squares-lt : (x M : ℕ) → x < M → x * x < M * M
    squares-lt x M l = lt_of_le_of_lt (mul-le-mul_right x (le_of_lt l)) (omega (arith, mul-lt-mul_of_pos_right l (positive x M l)))
      where
        positive : (x M : ℕ) → x < M → 0 < M
        positive x M l = omega arith

-- ---- a number of two words divided by 2 ^ k
module _ (hi lo k j : ℕ) (whole : 2 ^ k * 2 ^ j ≡ 2 ^ 54) where
  pub rest_is : hi / 2 ^ k * 2 ^ k + hi % 2 ^ k ≡ hi
  rest_is = div-add-mod' hi (2 ^ k)

  pub rest-small : hi % 2 ^ k * 2 ^ j < 2 ^ 54
  rest-small = let l = mul-lt-mul_of_pos_right (mod-lt hi (pow_pos k)) (pow_pos j) in omega (arith, l, whole)

  pub quotient_is : hi / 2 ^ k * 2 ^ 54 + (hi % 2 ^ k * 2 ^ j + lo / 2 ^ k) ≡ (hi * 2 ^ 54 + lo) / 2 ^ k
  quotient_is =
      let e : hi * 2 ^ 54 + lo ≡ hi * 2 ^ j * 2 ^ k + lo = omega (arith, ap (λ (x : ℕ). hi * x) whole) in
      let f : hi * 2 ^ j ≡ hi / 2 ^ k * 2 ^ 54 + hi % 2 ^ k * 2 ^ j = omega (arith, ap (λ (x : ℕ). x * 2 ^ j) rest_is, ap (λ (x : ℕ). hi / 2 ^ k * x) whole) in
      omega (arith, f, ap (λ (x : ℕ). x / 2 ^ k) e, mul-add-div_right (pow_pos k) (hi * 2 ^ j) lo)

-- ---- both added
words_added : (ph pl qh ql P Q : ℕ) → ph * 2 ^ 54 + pl ≡ P → qh * 2 ^ 54 + ql ≡ Q → (ph + qh + (pl + ql) / 2 ^ 54) * 2 ^ 54 + (pl + ql) % 2 ^ 54 ≡ P + Q
words_added ph pl qh ql P Q e f = omega arith

-- S is A and the whole part of B / D
cut_from : (A B D S : ℕ) → S ≡ A + B / D → S * D ≤ A * D + B
cut_from A B D S e = let q = div-add-mod' B D in omega (arith, q, ap (λ (x : ℕ). x * D) e)

cut_to : (A B D S : ℕ) → 0 < D → S ≡ A + B / D → A * D + B < (S + 1) * D
cut_to A B D S p e = let q = div-add-mod' B D in let l = mod-lt B p in omega (arith, q, l, ap (λ (x : ℕ). x * D) e)

-- the same over t times D, where R is S / t
times_from : (t R S D Y X : ℕ) → Y ≡ D * t → R * t ≤ S → S * D ≤ X → R * Y ≤ X
times_from t R S D Y X e f g = omega (arith, ap (λ (x : ℕ). R * x) e, mul-le-mul_right D f)

times_to : (t R S D Y X : ℕ) → Y ≡ D * t → S + 1 ≤ (R + 1) * t → X < (S + 1) * D → X < (R + 1) * Y
times_to t R S D Y X e f g = omega (arith, ap (λ (x : ℕ). (R + 1) * x) e, mul-le-mul_right D f)

module _ (a b d hi lo : ℕ) (long : 2 ^ 52 ≤ a) (is : hi * 2 ^ 54 + lo ≡ 2 * a * (2 * a) + 2 * b * (2 * b) / 2 ^ (2 * d)) (small : lo < 2 ^ 54) where
  abbrev S : ℕ
  S = hi * 2 ^ 54 + lo

  abbrev D : ℕ
  D = 2 ^ (2 * d)

  fourth_power : D ≡ 2 ^ d * 2 ^ d
  fourth_power = ap (λ (x : ℕ). 2 ^ x) (twice d) ∙ pow-add 2 d d
    where
      twice : (d : ℕ) → 2 * d ≡ d + d
      twice d = omega arith

  powers : (h : ℕ) → 2 ^ (d + h) * 2 ^ (d + h) ≡ D * (2 ^ h * 2 ^ h)
  powers h = regroup (2 ^ (d + h)) (2 ^ d) (2 ^ h) D (pow-add 2 d h) fourth_power
    where
      regroup : (W P H D : ℕ) → W ≡ P * H → D ≡ P * P → W * W ≡ D * (H * H)
      regroup W P H D e f = omega (arith, ap (λ (x : ℕ). x * x) e, ap (λ (x : ℕ). x * (H * H)) f)

  scaled_is : 2 * a * (2 * a) * D + 2 * b * (2 * b) ≡ scaled_sum a b d
  scaled_is = regroup a b (2 ^ d) D fourth_power
    where
      regroup : (a b P D : ℕ) → D ≡ P * P → 2 * a * (2 * a) * D + 2 * b * (2 * b) ≡ 2 * a * P * (2 * a * P) + 2 * b * (2 * b)
      regroup a b P D e = omega (arith, ap (λ (x : ℕ). 4 * (a * a) * x) e)

  sum_from : S * D ≤ scaled_sum a b d
  sum_from = omega (arith, scaled_is, cut_from (2 * a * (2 * a)) (2 * b * (2 * b)) D S is)

  sum_to : scaled_sum a b d < (S + 1) * D
  sum_to = omega (arith, scaled_is, cut_to (2 * a * (2 * a)) (2 * b * (2 * b)) D S (pow_pos (2 * d)) is)

  long_enough : 2 ^ 52 ≤ hi
  long_enough = let x : 2 ^ 53 ≤ 2 * a = omega arith in omega (arith, is, mul-le-mul x x)

  sum_kept : hi < 2 ^ 54 → IsSum a b d hi lo 0
  sum_kept h =
      record {
        from = times_from 1 S S D (2 ^ (d + 0) * 2 ^ (d + 0)) (scaled_sum a b d) (powers 0) (omega arith) sum_from;
        to = times_to 1 S S D (2 ^ (d + 0) * 2 ^ (d + 0)) (scaled_sum a b d) (powers 0) (omega arith) sum_to;
        long = long_enough;
        short = h;
        low = small;
        once = omega arith;
      }

  sum_over_four : 2 ^ 54 ≤ hi → hi < 2 ^ 56 → IsSum a b d (hi / 4) (hi % 4 * 2 ^ 52 + lo / 4) 1
  sum_over_four l h =
      let R = hi / 4 * 2 ^ 54 + (hi % 4 * 2 ^ 52 + lo / 4) in
      let from : R * 4 ≤ S = omega arith in
      let to : S + 1 ≤ (R + 1) * 4 = omega arith in
      record {
        from = times_from 4 R S D (2 ^ (d + 1) * 2 ^ (d + 1)) (scaled_sum a b d) (powers 1) from sum_from;
        to = times_to 4 R S D (2 ^ (d + 1) * 2 ^ (d + 1)) (scaled_sum a b d) (powers 1) to sum_to;
        long = omega arith;
        short = omega arith;
        low = omega arith;
        once = omega arith;
      }

-- ---- what the code adds: the square of 2 * a in ph and pl, that of 2 * b in sh and sl, and its quotient by 4 ^ d in qh and ql
pub record Added (a b d ph pl sh sl qh ql : ℕ) : Type 0 where
  pub first : ph * 2 ^ 54 + pl ≡ 2 * a * (2 * a)
  pub second : sh * 2 ^ 54 + sl ≡ 2 * b * (2 * b)
  pub quotient : qh * 2 ^ 54 + ql ≡ (sh * 2 ^ 54 + sl) / 2 ^ (2 * d)
  pub long : 2 ^ 52 ≤ a
  pub short : a < 2 ^ 53
  pub other : b < 2 ^ 53
  pub first-low : pl < 2 ^ 55
  pub quotient_low : ql < 2 ^ 56

pub added : {a b d ph pl sh sl qh ql : ℕ} → (2 ^ 52 ≤ a) × (a < 2 ^ 53) × (b < 2 ^ 53) × (d ≤ 26)
    → (ph * 2 ^ 54 + pl ≡ 2 * a * (2 * a)) × (pl < 2 ^ 55) → (sh * 2 ^ 54 + sl ≡ 2 * b * (2 * b)) × (sl < 2 ^ 55)
    → (qh * 2 ^ 54 + ql ≡ (sh * 2 ^ 54 + sl) / 2 ^ (2 * d)) × (ql < 2 ^ 56) → Added a b d ph pl sh sl qh ql
added r p s q = record { first = p.0; second = s.0; quotient = q.0; long = r.0; short = r.1; other = r.2; first-low = p.1; quotient_low = q.1 }

module _ {a b d ph pl sh sl qh ql : ℕ} (w : Added a b d ph pl sh sl qh ql) where
  pub first-upper : ph < 2 ^ 54
  first-upper = upper_lt (2 * a) ph pl (2 ^ 54) (le_of_eq w.first) (omega arith)

  pub quotient_upper : qh < 2 ^ 54
  quotient_upper = upper_lt (2 * b) qh ql (2 ^ 54) (le_trans (le_of_eq w.quotient) (le_trans (div-le_self (sh * 2 ^ 54 + sl) (2 ^ (2 * d))) (le_of_eq w.second))) (omega arith)

  hi : ℕ
  hi = ph + qh + (pl + ql) / 2 ^ 54

  lo : ℕ
  lo = (pl + ql) % 2 ^ 54

  is : hi * 2 ^ 54 + lo ≡ 2 * a * (2 * a) + 2 * b * (2 * b) / 2 ^ (2 * d)
  unfolding hi lo
  is = words_added ph pl qh ql (2 * a * (2 * a)) (2 * b * (2 * b) / 2 ^ (2 * d)) w.first (w.quotient ∙ ap (λ (x : ℕ). x / 2 ^ (2 * d)) w.second)

  pub added_kept : ph + qh + (pl + ql) / 2 ^ 54 < 2 ^ 54 → IsSum a b d (ph + qh + (pl + ql) / 2 ^ 54) ((pl + ql) % 2 ^ 54) 0
  unfolding hi lo
  added_kept h = sum_kept a b d hi lo w.long is (omega arith) h

  pub added_over_four : 2 ^ 54 ≤ ph + qh + (pl + ql) / 2 ^ 54 → IsSum a b d ((ph + qh + (pl + ql) / 2 ^ 54) / 4) ((ph + qh + (pl + ql) / 2 ^ 54) % 4 * 2 ^ 52 + (pl + ql) % 2 ^ 54 / 4) 1
  unfolding hi lo
  added_over_four h = let p = first-upper in let q = quotient_upper in sum_over_four a b d hi lo w.long is (omega arith) h (omega arith)
