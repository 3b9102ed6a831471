-- `nearest_root f n k` is the value of the format nearest root(n) / 2 ^ k, ties to even: no other value of the format is nearer.
-- Nearer means on the right side of the point half-way to the other value, and the root and that point are compared by their squares.
use mathlib.Core.Path.{◌≡◌, refl, sym, ap, ◌∙◌, subst}
use mathlib.Core.Bool.{false}
use Prim.Native.Nat.{ℕ, suc, ◌+◌, ◌-◌, ◌*◌, ◌^◌, ◌≤◌, ◌<◌}
use native.Mathlib.Nat.{mul-le-mul_right, mul-pos, le_of_mul-le-mul_right, le_antisymm, le_of_eq, pow-succ'}
use native.Mathlib.Omega.{arith}
use lib.Dec.{T}
use lib.Pow.{pow_pos, pow-add}
use lib.Ieee.{Float, Format, prec, low, round}
use lib.Ieee.Fits.{two, two-le_pos}
use lib.Ieee.Exact.{HasValue}
use lib.Ieee.Scale.{finite}
use Rattle.rounding.specs.Root.{halves, nearest_root}
use Rattle.rounding.specs.NearestRoot.{square_of, square_of_root, IsNearestRoot}
use Rattle.rounding.specs.Value.{mag, negative, Fin, last_digit}
use Rattle.rounding.proofs.Value.{held, mag_of, sign_of, fin_of}
use Rattle.rounding.proofs.Round.{rnd, round-finite}
use Rattle.rounding.proofs.Nearest.{rnd_below, rnd_above, rnd_tie, rnd_last}
use Rattle.rounding.proofs.root.Whole.{halves-le, le-halves, le_of_halves, ge_of_halves, four_pow}

-- ---- what `nearest_root` rounds: the fraction halves_of / scale_of
abbrev spare : Format → ℕ → ℕ
spare f k = suc (low f) - k

abbrev pub halves_of : Format → ℕ → ℕ → ℕ
halves_of f n k = halves (n * 4 ^ spare f k)

abbrev pub scale_of : Format → ℕ → ℕ
scale_of f k = 2 * 2 ^ (k + spare f k)

pub nearest_root_is : (f : Format) (n k : ℕ) → nearest_root f n k ≡ round f false (halves_of f n k) (scale_of f k)
unfolding nearest_root
nearest_root_is f n k = refl

pub scale_pos : (f : Format) (k : ℕ) → 0 < scale_of f k
scale_pos f k = mul-pos (pow_pos 1) (pow_pos (k + spare f k))

-- an order, carried over to the same numbers on another scale
cross_le : (u v : ℕ) {a b x y : ℕ} → a * u ≡ x * v → b * u ≡ y * v → 0 < v → a ≤ b → x ≤ y
cross_le u v e g pos h = le_of_mul-le-mul_right {k = v} (omega (arith, mul-le-mul_right u h)) pos

module _ (f : Format) (n k c : ℕ) where
  j : ℕ
  j = spare f k

  -- a half unit, 1 / (2 * 2 ^ low), on the scale of `halves`
  unit : ℕ
  unit = 2 ^ (k + j - suc (low f))

  scale_is : 2 ^ (k + j) ≡ 2 * 2 ^ low f * unit
  unfolding j unit
  scale_is = ap (λ (i : ℕ). 2 ^ i) (enough k (suc (low f))) ∙ pow-add 2 (suc (low f)) (k + j - suc (low f)) ∙ ap (λ (x : ℕ). x * unit) (pow-succ' 2 (low f))
    where
      enough : (k l : ℕ) → k + (l - k) ≡ l + (k + (l - k) - l)
      enough k l = omega arith

  -- c half units, squared, on the two scales
  square_scales : c * unit * (c * unit) * (2 * 2 ^ low f * (2 * 2 ^ low f)) ≡ square_of k c * (2 ^ j * 2 ^ j)
  square_scales = regroup c unit (2 * 2 ^ low f) (2 ^ k) (2 ^ j) (sym (pow-add 2 k j) ∙ scale_is)
    where
      regroup : (c t u a b : ℕ) → a * b ≡ u * t → c * t * (c * t) * (u * u) ≡ c * a * (c * a) * (b * b)
      regroup c t u a b e = omega (arith, ap (λ (x : ℕ). c * c * (x * x)) e)

  -- and the root
  root_scales : n * 4 ^ j * (2 * 2 ^ low f * (2 * 2 ^ low f)) ≡ square_of_root f n * (2 ^ j * 2 ^ j)
  root_scales = regroup n (4 ^ j) (2 * 2 ^ low f) (2 ^ j) (four_pow j)
    where
      regroup : (n q u b : ℕ) → q ≡ b * b → n * q * (u * u) ≡ n * (u * u) * (b * b)
      regroup n q u b e = omega (arith, ap (λ (x : ℕ). n * (u * u) * x) e)

  unit-pos : 0 < 2 * 2 ^ low f
  unit-pos = mul-pos (pow_pos 1) (pow_pos (low f))

  fraction_is : c * scale_of f k ≡ 2 * (c * unit) * (2 * 2 ^ low f)
  unfolding j
  fraction_is = regroup c (2 ^ (k + j)) (2 * 2 ^ low f) unit scale_is
    where
      regroup : (c s u t : ℕ) → s ≡ u * t → c * (2 * s) ≡ 2 * (c * t) * u
      regroup c s u t e = omega (arith, ap (λ (x : ℕ). c * x) e)

  -- c half units compare with the fraction as their square with that of the root
  pub square_le_root : c * scale_of f k ≤ 2 * (halves_of f n k * 2 ^ low f) → square_of k c ≤ square_of_root f n
  unfolding j
  square_le_root h =
      let l : 2 * (c * unit) ≤ halves_of f n k = le_of_mul-le-mul_right {k = 2 * 2 ^ low f} (omega (arith, fraction_is)) unit-pos in
      cross_le (2 * 2 ^ low f * (2 * 2 ^ low f)) (2 ^ j * 2 ^ j) square_scales root_scales (mul-pos (pow_pos j) (pow_pos j)) (ge_of_halves (n * 4 ^ j) (c * unit) l)

  pub root_le_square : 2 * (halves_of f n k * 2 ^ low f) ≤ c * scale_of f k → square_of_root f n ≤ square_of k c
  unfolding j
  root_le_square h =
      let l : halves_of f n k ≤ 2 * (c * unit) = le_of_mul-le-mul_right {k = 2 * 2 ^ low f} (omega (arith, fraction_is)) unit-pos in
      cross_le (2 * 2 ^ low f * (2 * 2 ^ low f)) (2 ^ j * 2 ^ j) root_scales square_scales (mul-pos (pow_pos j) (pow_pos j)) (le_of_halves (n * 4 ^ j) (c * unit) l)

  pub scaled_le_fraction : square_of k c ≤ square_of_root f n → c * scale_of f k ≤ 2 * (halves_of f n k * 2 ^ low f)
  unfolding j
  scaled_le_fraction h =
      let l = le-halves (n * 4 ^ j) (c * unit) (cross_le (2 ^ j * 2 ^ j) (2 * 2 ^ low f * (2 * 2 ^ low f)) (sym square_scales) (sym root_scales) (mul-pos unit-pos unit-pos) h) in
      omega (arith, fraction_is, mul-le-mul_right (2 * 2 ^ low f) l)

  pub fraction_le_scaled : square_of_root f n ≤ square_of k c → 2 * (halves_of f n k * 2 ^ low f) ≤ c * scale_of f k
  unfolding j
  fraction_le_scaled h =
      let l = halves-le (n * 4 ^ j) (c * unit) (cross_le (2 ^ j * 2 ^ j) (2 * 2 ^ low f * (2 * 2 ^ low f)) (sym root_scales) (sym square_scales) (mul-pos unit-pos unit-pos) h) in
      omega (arith, fraction_is, mul-le-mul_right (2 * 2 ^ low f) l)

-- ---- the theorem: the result is what `round` makes of the fraction, in units
abbrev pub units_of : Format → ℕ → ℕ → ℕ
units_of f n k = rnd (prec f) (halves_of f n k * 2 ^ low f) (scale_of f k)

module _ (f : Format) (n k : ℕ) (t : T (finite (nearest_root f n k))) where
  digits_pos : 0 < prec f
  digits_pos = two-le_pos (prec f) (two f)

  value : HasValue (round f false (halves_of f n k) (scale_of f k)) false (units_of f n k) (2 ^ low f)
  value = round-finite f false (halves_of f n k) (scale_of f k) (subst (λ (z : Float). T (finite z)) (nearest_root_is f n k) t)

  pub nearest_root-size : mag f (nearest_root f n k) ≡ units_of f n k
  nearest_root-size = ap (mag f) (nearest_root_is f n k) ∙ mag_of f (round f false (halves_of f n k) (scale_of f k)) false (units_of f n k) value

  -- the half-way point with a value w of the format
  module _ (w : Float) (p : Fin f w) where
    lower_is_no_nearer : mag f w < units_of f n k → square_of k (units_of f n k + mag f w) ≤ square_of_root f n
    lower_is_no_nearer l = square_le_root f n k (units_of f n k + mag f w) (rnd_below (prec f) (halves_of f n k * 2 ^ low f) (scale_of f k) (mag f w) digits_pos (scale_pos f k) (held f w p) l)

    higher_is_no_nearer : units_of f n k < mag f w → square_of_root f n ≤ square_of k (units_of f n k + mag f w)
    higher_is_no_nearer l = root_le_square f n k (units_of f n k + mag f w) (rnd_above (prec f) (halves_of f n k * 2 ^ low f) (scale_of f k) (mag f w) digits_pos (scale_pos f k) (held f w p) l)

    tie_is_even : (units_of f n k ≡ mag f w → ⊥) → square_of k (units_of f n k + mag f w) ≡ square_of_root f n → last_digit f (units_of f n k) ≡ 0
    unfolding last_digit
    tie_is_even apart e =
        let c = units_of f n k + mag f w in
        let tie : 2 * (halves_of f n k * 2 ^ low f) ≡ c * scale_of f k = le_antisymm (fraction_le_scaled f n k c (le_of_eq (sym e))) (scaled_le_fraction f n k c (le_of_eq e)) in
        rnd_last (prec f) (halves_of f n k * 2 ^ low f) (scale_of f k) (two f) (scale_pos f k)
        (rnd_tie (prec f) (halves_of f n k * 2 ^ low f) (scale_of f k) (mag f w) digits_pos (scale_pos f k) (held f w p) apart tie)

  pub nearest-root : IsNearestRoot f n k (nearest_root f n k)
  nearest-root = record {
    fin = rw (nearest_root_is f n k) (fin_of f false false (halves_of f n k) (scale_of f k) (units_of f n k) (2 ^ low f) value);
    sign = ap negative (nearest_root_is f n k) ∙ sign_of (round f false (halves_of f n k) (scale_of f k)) false (units_of f n k) (2 ^ low f) value;
    below = rw nearest_root-size lower_is_no_nearer;
    above = rw nearest_root-size higher_is_no_nearer;
    even = rw nearest_root-size tie_is_even;
  }
