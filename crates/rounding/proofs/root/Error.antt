-- How far `nearest_root` is from the exact root: half of a last place where the exponent is known, and with no range asked 1 part in 2 ^ prec, or half of a unit.
-- Both come from what `round` makes of a fraction; half units compare with the fraction as with the root.
use mathlib.Core.Path.{◌≡◌, ap}
use mathlib.Core.Logic.{inl, inr}
use mathlib.Core.Bool.{false}
use Prim.Native.Nat.{ℕ, ◌+◌, ◌-◌, ◌*◌, ◌^◌, ◌≤◌, ◌<◌}
use native.Mathlib.Nat.{le_of_mul-le-mul_right, mul-le-mul_right}
use native.Mathlib.Omega.{arith}
use lib.Dec.{T}
use lib.Ieee.{Float, Format, prec, emax, low, round}
use lib.Ieee.Fits.{two, two-le_pos}
use lib.Ieee.Scale.{finite}
use Rattle.algebra.proofs.Size.{either}
use Rattle.rounding.specs.Root.{nearest_root}
use Rattle.rounding.specs.NearestRoot.{square_of, square_of_root}
use Rattle.rounding.specs.Value.{mag, negative, Fin}
use Rattle.rounding.proofs.Value.{mag_of, sign_of, fin_of}
use Rattle.rounding.proofs.Closest.{Half}
use Rattle.rounding.proofs.Round.{rnd, rnd_near, rnd_relative, round-units, no_overflow}
use Rattle.rounding.proofs.root.Nearest.{halves_of, scale_of, scale_pos, nearest_root_is, nearest_root-size, square_le_root, root_le_square, fraction_le_scaled}

-- ---- z is at most 2 ^ i half units above root(n) / 2 ^ k, at most as many below, and at most 2 ^ (prec + i) units
pub record IsNearRoot (f : Format) (n k i : ℕ) (z : Float) : Type 0 where
  pub fin : Fin f z
  pub sign : negative z ≡ false
  pub above : square_of k (2 * mag f z - 2 ^ i) ≤ square_of_root f n
  pub below : square_of_root f n ≤ square_of k (2 * mag f z + 2 ^ i)
  pub within : mag f z ≤ 2 ^ (prec f + i)

less_times : (a b d x : ℕ) → a * d ≤ x + b * d → (a - b) * d ≤ x
less_times a b d x h = elim (either a b) [
  | inl l ↦ let e : a - b ≡ 0 = omega arith in rw e (omega arith)
  | inr l ↦ let e : a ≡ a - b + b = omega arith in omega (arith, ap (λ (y : ℕ). y * d) e)
]

-- the absolute law, over the exponent
pub nearest_root-near : (f : Format) (n k i : ℕ) → prec f + i ≤ low f + emax f → square_of_root f n ≤ square_of k (2 * 2 ^ (prec f + i)) → IsNearRoot f n k i (nearest_root f n k)
nearest_root-near f n k i room h =
    let num = halves_of f n k * 2 ^ low f in
    let den = scale_of f k in
    let g = rnd (prec f) num den in
    let z = round f false (halves_of f n k) den in
    let small : num ≤ 2 ^ (prec f + i) * den = half (2 ^ (prec f + i)) num den (fraction_le_scaled f n k (2 * 2 ^ (prec f + i)) h) in
    let r = rnd_near (prec f) num den i (two-le_pos (prec f) (two f)) (scale_pos f k) small in
    let v = round-units f false (halves_of f n k) den (no_overflow f i g room r.0) in
    let size : mag f z ≡ g = mag_of f z false g v in
    rw (nearest_root_is f n k)
    (record {
      fin = fin_of f false false (halves_of f n k) den g (2 ^ low f) v;
      sign = sign_of z false g (2 ^ low f) v;
      above = rw size (square_le_root f n k (2 * g - 2 ^ i) (less_times (2 * g) (2 ^ i) den (2 * num) (over g num den (2 ^ i) r.1)));
      below = rw size (root_le_square f n k (2 * g + 2 ^ i) (under g num den (2 ^ i) r.1));
      within = rw size r.0;
    })
  where
    half : (b n d : ℕ) → 2 * n ≤ 2 * b * d → n ≤ b * d
    half b n d h = omega arith

    over : (g n d u : ℕ) → Half (g * d) n (u * d) → 2 * g * d ≤ 2 * n + u * d
    over g n d u h = omega arith

    under : (g n d u : ℕ) → Half (g * d) n (u * d) → 2 * n ≤ (2 * g + u) * d
    under g n d u h = omega arith

-- ---- the relative law, with no range asked: the root is at most c half units
module _ (f : Format) (n k c : ℕ) (t : T (finite (nearest_root f n k))) where
  pub nearest_root-le : (Q : ℕ) → 0 < Q → 2 ^ prec f ≡ Q + 1 → (2 * mag f (nearest_root f n k) + 1) * 2 ^ prec f ≤ c * Q → square_of_root f n ≤ square_of k c
  nearest_root-le Q Q-pos E h =
      let num = halves_of f n k * 2 ^ low f in
      let den = scale_of f k in
      root_le_square f n k c
      (reach (2 ^ prec f) Q (rnd (prec f) num den) c num den Q-pos E
      (rnd_relative (prec f) num den (two-le_pos (prec f) (two f)) (scale_pos f k)).1
      (rw (nearest_root-size f n k t) at h))
    where
      reach : (P Q g c n d : ℕ) → 0 < Q → P ≡ Q + 1 → 2 * (P * n) ≤ 2 * (P * (g * d)) + (2 * n + P * d) → (2 * g + 1) * P ≤ c * Q → 2 * n ≤ c * d
      reach P Q g c n d Q-pos E r h = le_of_mul-le-mul_right {k = Q} (omega (arith, ap (λ (y : ℕ). y * n) E, mul-le-mul_right d h)) Q-pos
