-- `nearest_root` at the scale of one unit, where the powers of two cancel: the value of the format nearest the root of n units. It is nearest, near, and the
-- only one so near. The root of a float and the root of an exact sum of squares are of this form.
use mathlib.Core.Path.{◌≡◌, sym, ap, ◌∙◌}
use mathlib.Core.Bool.{false}
use Prim.Native.Nat.{ℕ, suc, ◌+◌, ◌-◌, ◌*◌, ◌%◌, ◌^◌, ◌≤◌, ◌<◌}
use native.Mathlib.Nat.{mul-le-mul_right, mul-lt-mul_of_pos_right, mul-pos, le_of_mul-le-mul_right, le_of_eq, le_antisymm, pow-succ'}
use native.Mathlib.Omega.{arith}
use native.Mathlib.Decide.{dec_lt}
use lib.Dec.{T}
use lib.Pow.{pow_pos}
use lib.Ieee.{Float, inf, Format, prec, emax, low}
use lib.Ieee.Scale.{finite}
use Rattle.algebra.proofs.Squares.{square_le}
use Rattle.rounding.specs.Root.{nearest_root}
use Rattle.rounding.specs.NearestRoot.{square_of, square_of_root}
use Rattle.rounding.specs.Value.{mag, negative, Fin, last_digit}
use Rattle.rounding.proofs.root.Nearest.{nearest-root}
use Rattle.rounding.proofs.root.Error.{nearest_root-near}
use Rattle.rounding.proofs.root.Unique.{nearest_root_unique}
use Rattle.rounding.proofs.root.Overflow.{past_largest, nearest_root_overflow, nearest_root-finite}

-- ---- at the scale of one unit the squares cancel: c half units compare with the root of n units as c * c with 4 * n
abbrev unit_square : Format → ℕ
unit_square f = 2 ^ low f * 2 ^ low f

module _ (f : Format) (n c : ℕ) where
  unit_square_pos : 0 < unit_square f
  unit_square_pos = mul-pos (pow_pos (low f)) (pow_pos (low f))

  square_is : square_of (low f) c ≡ c * c * unit_square f
  square_is = omega arith

  root_square_is : square_of_root f n ≡ 4 * n * unit_square f
  root_square_is = omega arith

  cancel_le : square_of (low f) c ≤ square_of_root f n → c * c ≤ 4 * n
  cancel_le h = le_of_mul-le-mul_right {k = unit_square f} (rw (square_is, root_square_is) at h) unit_square_pos

  pub cancel_ge : square_of_root f n ≤ square_of (low f) c → 4 * n ≤ c * c
  cancel_ge h = le_of_mul-le-mul_right {k = unit_square f} (rw (root_square_is, square_is) at h) unit_square_pos

  spread_le : c * c ≤ 4 * n → square_of (low f) c ≤ square_of_root f n
  spread_le h = rw (square_is, root_square_is) (mul-le-mul_right (unit_square f) h)

  pub spread_ge : 4 * n ≤ c * c → square_of_root f n ≤ square_of (low f) c
  spread_ge h = rw (root_square_is, square_is) (mul-le-mul_right (unit_square f) h)

  spread_lt : 4 * n < c * c → square_of_root f n < square_of (low f) c
  spread_lt h = rw (root_square_is, square_is) (mul-lt-mul_of_pos_right h unit_square_pos)

-- ---- z is the value of f nearest the root of n units: no other value w is nearer, and at a tie z is even
pub record IsUnitsRoot (f : Format) (n : ℕ) (z : Float) : Type 0 where
  pub fin : Fin f z
  pub sign : negative z ≡ false
  pub below : (w : Float) → Fin f w → mag f w < mag f z → (mag f z + mag f w) * (mag f z + mag f w) ≤ 4 * n
  pub above : (w : Float) → Fin f w → mag f z < mag f w → 4 * n ≤ (mag f z + mag f w) * (mag f z + mag f w)
  pub even : (w : Float) → Fin f w → (mag f z ≡ mag f w → ⊥) → (mag f z + mag f w) * (mag f z + mag f w) ≡ 4 * n → last_digit f (mag f z) ≡ 0

pub units-root : (f : Format) (n : ℕ) → T (finite (nearest_root f n (low f))) → IsUnitsRoot f n (nearest_root f n (low f))
units-root f n t =
    let z = nearest_root f n (low f) in
    let r = nearest-root f n (low f) t in
    record {
      fin = r.fin;
      sign = r.sign;
      below = λ (w : Float) (p : Fin f w) (l : mag f w < mag f z). cancel_le f n (mag f z + mag f w) (r.below w p l);
      above = λ (w : Float) (p : Fin f w) (l : mag f z < mag f w). cancel_ge f n (mag f z + mag f w) (r.above w p l);
      even = λ (w : Float) (p : Fin f w) (apart : mag f z ≡ mag f w → ⊥) (e : (mag f z + mag f w) * (mag f z + mag f w) ≡ 4 * n).
          r.even w p apart (square_is f n (mag f z + mag f w) ∙ ap (λ (x : ℕ). x * unit_square f) e ∙ sym (root_square_is f n (mag f z + mag f w)));
    }

-- so z never goes past a value w of the format
module _ (f : Format) (n : ℕ) (z : Float) (r : IsUnitsRoot f n z) (w : Float) (p : Fin f w) where
  pub units_root_not_above : n ≤ mag f w * mag f w → mag f z ≤ mag f w
  units_root_not_above l = elim (dec_lt (mag f w) (mag f z)) [ yes g ↦ absurd (past (mag f z) (mag f w) g l (r.below w p g)) | no g ↦ omega arith ]
    where
      past : (z w : ℕ) → w < z → n ≤ w * w → (z + w) * (z + w) ≤ 4 * n → ⊥
      past z w g l h = let k : z + w ≤ 2 * w = square_le (z + w) (2 * w) (omega arith) in omega arith

  pub units_root_not_below : mag f w * mag f w ≤ n → mag f w ≤ mag f z
  units_root_not_below l = elim (dec_lt (mag f z) (mag f w)) [ yes g ↦ absurd (past (mag f z) (mag f w) g l (r.above w p g)) | no g ↦ omega arith ]
    where
      past : (z w : ℕ) → z < w → w * w ≤ n → 4 * n ≤ (z + w) * (z + w) → ⊥
      past z w g l h = let k : 2 * w ≤ z + w = square_le (2 * w) (z + w) (omega arith) in omega arith

-- ---- z is within 2 ^ j units of the root of n units, which is half of a last place at that exponent
pub record RootIs (f : Format) (n : ℕ) (z : Float) (j : ℕ) : Type 0 where
  pub fin : Fin f z
  pub sign : negative z ≡ false
  pub above : (mag f z - 2 ^ j) * (mag f z - 2 ^ j) ≤ n
  pub below : n ≤ (mag f z + 2 ^ j) * (mag f z + 2 ^ j)
  pub within : mag f z ≤ 2 ^ (prec f + suc j)

-- (2 a)² ≤ 4 n as a² ≤ n
pub quarter-le : (a b n : ℕ) → b ≡ 2 * a → b * b ≤ 4 * n → a * a ≤ n
quarter-le a b n e h = omega (arith, ap (λ (x : ℕ). x * x) e)

pub quarter_ge : (a b n : ℕ) → b ≡ 2 * a → 4 * n ≤ b * b → n ≤ a * a
quarter_ge a b n e h = omega (arith, ap (λ (x : ℕ). x * x) e)

pub units_root_near : (f : Format) (n j : ℕ) → prec f + suc j ≤ low f + emax f → n ≤ 2 ^ (prec f + suc j) * 2 ^ (prec f + suc j) → RootIs f n (nearest_root f n (low f)) j
units_root_near f n j room h =
    let z = nearest_root f n (low f) in
    let r = nearest_root-near f n (low f) (suc j) room (spread_ge f n (2 * 2 ^ (prec f + suc j)) (omega arith)) in
    let double = pow-succ' 2 j in
    record {
      fin = r.fin;
      sign = r.sign;
      above = quarter-le (mag f z - 2 ^ j) (2 * mag f z - 2 ^ suc j) n (omega arith) (cancel_le f n (2 * mag f z - 2 ^ suc j) r.above);
      below = quarter_ge (mag f z + 2 ^ j) (2 * mag f z + 2 ^ suc j) n (omega arith) (cancel_ge f n (2 * mag f z + 2 ^ suc j) r.below);
      within = r.within;
    }

-- ---- and z is the root where it lies between the half-way points around it, and is even where it lies at one: z is q * 2 ^ i units, the points are c and
-- 2 * mag z + 2 ^ i half units, and the root has prec + i digits or, where i is 0, fewer
pub units_root_unique : (f : Format) (n : ℕ) (z : Float) (q i c : ℕ) → Fin f z → negative z ≡ false → mag f z ≡ q * 2 ^ i
    → (0 < i → 2 ^ (prec f - 1 + i) * 2 ^ (prec f - 1 + i) ≤ n) → n < 2 ^ (prec f + i) * 2 ^ (prec f + i) → c + 2 ^ i ≡ 2 * mag f z
    → c * c ≤ 4 * n → 4 * n ≤ (2 * mag f z + 2 ^ i) * (2 * mag f z + 2 ^ i)
    → (c * c ≡ 4 * n → q % 2 ≡ 0) → (4 * n ≡ (2 * mag f z + 2 ^ i) * (2 * mag f z + 2 ^ i) → q % 2 ≡ 0) → nearest_root f n (low f) ≡ z
units_root_unique f n z q i c h s size lo hi e l g tie-below tie-above =
    let d = 2 * mag f z + 2 ^ i in
    nearest_root_unique f n (low f) z q i c
    (record {
      fin = h;
      sign = s;
      size = size;
      long = λ (p : 0 < i). let m = lo p in spread_le f n (2 * 2 ^ (prec f - 1 + i)) (omega arith);
      short = spread_lt f n (2 * 2 ^ (prec f + i)) (omega arith);
      half_way = e;
      below = spread_le f n c l;
      above = spread_ge f n d g;
      even-below = λ (t : square_of (low f) c ≡ square_of_root f n). tie-below (le_antisymm l (cancel_ge f n c (le_of_eq (sym t))));
      even-above = λ (t : square_of_root f n ≡ square_of (low f) d). tie-above (le_antisymm g (cancel_le f n d (le_of_eq (sym t))));
    })

-- ---- half-way past the largest value decides whether it is finite
pub units_root_overflow : (f : Format) (n i : ℕ) → prec f + i ≡ low f + suc (emax f) → past_largest f i * past_largest f i ≤ 4 * n → nearest_root f n (low f) ≡ inf false
units_root_overflow f n i top h = nearest_root_overflow f n (low f) i top (spread_le f n (past_largest f i) h)

pub units_root_finite : (f : Format) (n i : ℕ) → prec f + i ≡ low f + suc (emax f) → 4 * n < past_largest f i * past_largest f i → T (finite (nearest_root f n (low f)))
units_root_finite f n i top h = nearest_root-finite f n (low f) i top (spread_lt f n (past_largest f i) h)
