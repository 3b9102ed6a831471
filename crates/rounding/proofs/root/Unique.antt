-- A value z of the format that lies within half of a last place of root(n) / 2 ^ k, and is even where it is exactly half, is `nearest_root f n k`:
-- two numbers of one grid so near the same point are equal, or it is half-way between them and only one is even. An implementation is proved by this law.
use mathlib.Core.Path.{◌≡◌, sym, ap, ◌∙◌, subst}
use mathlib.Core.Logic.{◌⊎◌, inl, inr}
use mathlib.Core.Bool.{false}
use Prim.Native.Nat.{ℕ, zero, suc, ◌+◌, ◌-◌, ◌*◌, ◌/◌, ◌%◌, ◌^◌, ◌≤◌, ◌<◌}
use native.Mathlib.Nat.{le_antisymm, lt_of_not-le, not-le_of_lt, lt_of_lt_of_le, le-div_iff_mul-le, le_of_mul-le-mul_right, mul-pos, le_of_eq}
use native.Mathlib.Omega.{arith}
use lib.Pow.{pow_pos, pow_mono}
use lib.Ieee.{Float, Format, prec, emax, low, size, round}
use lib.Ieee.Digits.{size-lt}
use lib.Ieee.Fits.{two, two-le_pos}
use lib.Ieee.Order.{drop, kept}
use Rattle.algebra.proofs.Size.{either}
use Rattle.rounding.specs.Root.{nearest_root}
use Rattle.rounding.specs.NearestRoot.{square_of, square_of_root}
use Rattle.rounding.specs.Value.{mag, negative, Fin}
use Rattle.rounding.proofs.Value.{Held, held, mag_of, sign_of, fin_of, mag-below}
use Rattle.rounding.proofs.Closest.{Half, Midway, closest-half}
use Rattle.rounding.proofs.Round.{rnd, drop_le, round-units}
use Rattle.rounding.proofs.Nearest.{rnd_tie}
use Rattle.rounding.proofs.Unique.{val_unique}
use Rattle.rounding.proofs.root.Nearest.{halves_of, scale_of, scale_pos, nearest_root_is, square_le_root, root_le_square, scaled_le_fraction, fraction_le_scaled}

-- ---- of a fraction: how many digits are dropped, and the one number of that many
pub drop_ge : (p n den d : ℕ) → 0 < p → 0 < den → (0 < d → 2 ^ (p - 1 + d) * den ≤ n) → d ≤ drop p n den
drop_ge p n den zero P D lo = omega arith
drop_ge p n den (suc d) P D lo =
    let reached = (le-div_iff_mul-le D).1 (lo (omega arith)) in
    let long : p - 1 + suc d < size (n / den) = lt_of_not-le (λ (g : size (n / den) ≤ p - 1 + suc d). not-le_of_lt (lt_of_lt_of_le (size-lt (n / den)) (pow_mono g)) reached) in
    omega arith

-- two numbers of a grid within half a step of n are equal, or a step apart with n half-way
neighbours : (x q u n : ℕ) → 0 < u → Half (x * u) n u → Half (q * u) n u → (x ≡ q) ⊎ (((x ≡ q + 1) ⊎ (q ≡ x + 1)) × (2 * n ≡ x * u + q * u))
neighbours x q u n U h k = elim (either x q) [
  | inl l ↦ let m = most x q h k in let e : q ≡ x + 1 = omega arith in inr (inr e, omega (arith, ap (λ (y : ℕ). y * u) e))
  | inr l ↦ elim (either q x) [
    | inl g ↦ let m = most q x k h in let e : x ≡ q + 1 = omega arith in inr (inl e, omega (arith, ap (λ (y : ℕ). y * u) e))
    | inr g ↦ inl (omega arith)
  ]
]
  where
    most : (x q : ℕ) → Half (x * u) n u → Half (q * u) n u → q ≤ x + 1
    most x q h k = le_of_mul-le-mul_right {k = u} (omega arith) U

-- the midpoint of two neighbours, seen from one
midway_of : (x q u n : ℕ) → (x ≡ q + 1) ⊎ (q ≡ x + 1) → 2 * n ≡ x * u + q * u → Midway q n u
midway_of x q u n (inl e) m = inl (omega (arith, ap (λ (y : ℕ). y * u) e))
midway_of x q u n (inr e) m = inr (omega (arith, ap (λ (y : ℕ). y * u) e))

parity : (x q : ℕ) → (x ≡ q + 1) ⊎ (q ≡ x + 1) → x % 2 ≡ 0 → q % 2 ≡ 0 → ⊥
parity x q (inl e) a b = omega arith
parity x q (inr e) a b = omega arith

pub rnd_only : (p n den q d : ℕ) → 0 < p → 0 < den → Held p (q * 2 ^ d) → drop p n den ≡ d → Half (q * (den * 2 ^ d)) n (den * 2 ^ d) → (Midway q n (den * 2 ^ d) → q % 2 ≡ 0)
    → rnd p n den ≡ q * 2 ^ d
rnd_only p n den q d P D H e k even =
    let i = drop p n den in
    let u = den * 2 ^ i in
    let U : 0 < u = mul-pos D (pow_pos i) in
    subst (λ (y : ℕ). rnd p n den ≡ q * 2 ^ y) e
    (elim (neighbours (kept p n den) q u n U (closest-half n u U) (rw e k)) [
      | inl same ↦ ap (λ (y : ℕ). y * 2 ^ i) same
      | inr other ↦ absurd (parity (kept p n den) q other.0
          (rnd_tie p n den (q * 2 ^ i) P D (rw e H) (apart (kept p n den) other.0) (regroup (kept p n den) q den (2 ^ i) n other.1))
          (even (rw (sym e) (midway_of (kept p n den) q u n other.0 other.1))))
    ])
  where
    apart : (x : ℕ) → (x ≡ q + 1) ⊎ (q ≡ x + 1) → x * 2 ^ drop p n den ≡ q * 2 ^ drop p n den → ⊥
    apart x s h = let P = pow_pos (drop p n den) in elim s [
      | inl e ↦ omega (arith, ap (λ (y : ℕ). y * 2 ^ drop p n den) e)
      | inr e ↦ omega (arith, ap (λ (y : ℕ). y * 2 ^ drop p n den) e)
    ]

    regroup : (x q d v n : ℕ) → 2 * n ≡ x * (d * v) + q * (d * v) → 2 * n ≡ (x * v + q * v) * d
    regroup x q d v n h = omega arith

-- ---- of the root. z is q * 2 ^ i units and the root has prec + i digits or, where i is 0, fewer; c and 2 * mag z + 2 ^ i are the half-way points around z, in half units
pub record BetweenHalfWays (f : Format) (n k : ℕ) (z : Float) (q i c : ℕ) : Type 0 where
  pub fin : Fin f z
  pub sign : negative z ≡ false
  pub size : mag f z ≡ q * 2 ^ i
  pub long : 0 < i → square_of k (2 * 2 ^ (prec f - 1 + i)) ≤ square_of_root f n
  pub short : square_of_root f n < square_of k (2 * 2 ^ (prec f + i))
  pub half_way : c + 2 ^ i ≡ 2 * mag f z
  pub below : square_of k c ≤ square_of_root f n
  pub above : square_of_root f n ≤ square_of k (2 * mag f z + 2 ^ i)
  pub even-below : square_of k c ≡ square_of_root f n → q % 2 ≡ 0
  pub even-above : square_of_root f n ≡ square_of k (2 * mag f z + 2 ^ i) → q % 2 ≡ 0

module _ (f : Format) (n k : ℕ) where
  num : ℕ
  num = halves_of f n k * 2 ^ low f

  -- the fraction is at least b units, or below
  fraction_ge : (b : ℕ) → square_of k (2 * b) ≤ square_of_root f n → b * scale_of f k ≤ num
  unfolding num
  fraction_ge b h = half b (scale_of f k) num (scaled_le_fraction f n k (2 * b) h)
    where
      half : (b d n : ℕ) → 2 * b * d ≤ 2 * n → b * d ≤ n
      half b d n h = omega arith

  fraction_lt : (b : ℕ) → square_of_root f n < square_of k (2 * b) → num < b * scale_of f k
  unfolding num
  fraction_lt b h = lt_of_not-le (λ (g : b * scale_of f k ≤ num). not-le_of_lt h (square_le_root f n k (2 * b) (twice b (scale_of f k) num g)))
    where
      twice : (b d n : ℕ) → b * d ≤ n → 2 * b * d ≤ 2 * n
      twice b d n h = omega arith

  -- the fraction is c half units exactly
  fraction_eq : (c : ℕ) → 2 * num ≡ c * scale_of f k → square_of k c ≡ square_of_root f n
  unfolding num
  fraction_eq c h = le_antisymm (square_le_root f n k c (le_of_eq (sym h))) (root_le_square f n k c (le_of_eq h))

  module _ (z : Float) (q i c : ℕ) (placed : BetweenHalfWays f n k z q i c) where
    near : Half (q * (scale_of f k * 2 ^ i)) num (scale_of f k * 2 ^ i)
    unfolding num
    near = around c q (mag f z) (2 ^ i) (scale_of f k) num placed.half_way placed.size (scaled_le_fraction f n k c placed.below) (fraction_le_scaled f n k (2 * mag f z + 2 ^ i) placed.above)
      where
        around : (c q g u d n : ℕ) → c + u ≡ 2 * g → g ≡ q * u → c * d ≤ 2 * n → 2 * n ≤ (2 * g + u) * d → Half (q * (d * u)) n (d * u)
        around c q g u d n e s l h = (omega (arith, ap (λ (y : ℕ). y * d) e, ap (λ (y : ℕ). y * d) s), omega (arith, ap (λ (y : ℕ). y * d) s))

    even : Midway q num (scale_of f k * 2 ^ i) → q % 2 ≡ 0
    even (inl h) = placed.even-above (sym (fraction_eq (2 * mag f z + 2 ^ i) (over q (mag f z) (2 ^ i) (scale_of f k) num placed.size h)))
      where
        over : (q g u d n : ℕ) → g ≡ q * u → 2 * n ≡ 2 * (q * (d * u)) + d * u → 2 * n ≡ (2 * g + u) * d
        over q g u d n s h = omega (arith, ap (λ (y : ℕ). y * d) s)
    even (inr h) = placed.even-below (fraction_eq c (under c q (mag f z) (2 ^ i) (scale_of f k) num placed.half_way placed.size h))
      where
        under : (c q g u d n : ℕ) → c + u ≡ 2 * g → g ≡ q * u → 2 * n + d * u ≡ 2 * (q * (d * u)) → 2 * n ≡ c * d
        under c q g u d n e s h = omega (arith, ap (λ (y : ℕ). y * d) e, ap (λ (y : ℕ). y * d) s)

    pub nearest_root_unique : nearest_root f n k ≡ z
    unfolding num
    nearest_root_unique =
        let p = prec f in
        let P = two-le_pos p (two f) in
        let den = scale_of f k in
        let D = scale_pos f k in
        let g = rnd p num den in
        let r = round f false (halves_of f n k) den in
        let hi : num < 2 ^ (p + i) * den = fraction_lt (2 ^ (p + i)) placed.short in
        let dropped : drop p num den ≡ i = le_antisymm (drop_le p num den i D hi) (drop_ge p num den i P D (λ (l : 0 < i). fraction_ge (2 ^ (p - 1 + i)) (placed.long l))) in
        let is : g ≡ q * 2 ^ i = rnd_only p num den q i P D (rw placed.size at (held f z placed.fin)) dropped near even in
        let v = round-units f false (halves_of f n k) den (subst (λ (y : ℕ). y < 2 ^ (low f + suc (emax f))) (sym (is ∙ sym placed.size)) (mag-below f z placed.fin)) in
        nearest_root_is f n k
        ∙ val_unique f r z (fin_of f false false (halves_of f n k) den g (2 ^ low f) v) placed.fin (sign_of r false g (2 ^ low f) v ∙ sym placed.sign) (mag_of f r false g v ∙ is ∙ sym placed.size)
