-- Lets one say that a float is the value of a format nearest a root, ties to even: no other value of the format is nearer.
-- Nearer means on the right side of the point half-way to the other value, and the root and that point are compared by their squares.
use Rattle.std.specs.Prelude.{ℕ, ◌+◌, ◌*◌, ◌^◌, ◌≤◌, ◌<◌, ◌≡◌, false, Float}
use Rattle.std.specs.Float.{Format}
use Rattle.std.specs.Float.Ieee.{low}
use Rattle.rounding.specs.Value.{mag, negative, Fin, last_digit}

-- c half units, c / (2 * 2 ^ low), against the root, root(n) / 2 ^ k: their squares, both times (2 * 2 ^ low * 2 ^ k) squared
abbrev pub square_of : ℕ → ℕ → ℕ
square_of k c = c * 2 ^ k * (c * 2 ^ k)

abbrev pub square_of_root : Format → ℕ → ℕ
square_of_root f n = n * (2 * 2 ^ low f * (2 * 2 ^ low f))

-- z is the value of f nearest root(n) / 2 ^ k: finite, without a sign, the root not below the half-way point to any lower value nor above that to any higher
-- one, and its last digit even where the root is half-way. With a value w of f, the half-way point is mag z + mag w half units.
pub record IsNearestRoot (f : Format) (n k : ℕ) (z : Float) : Type 0 where
  pub fin : Fin f z
  pub sign : negative z ≡ false
  pub below : (w : Float) → Fin f w → mag f w < mag f z → square_of k (mag f z + mag f w) ≤ square_of_root f n
  pub above : (w : Float) → Fin f w → mag f z < mag f w → square_of_root f n ≤ square_of k (mag f z + mag f w)
  pub even : (w : Float) → Fin f w → (mag f z ≡ mag f w → ⊥) → square_of k (mag f z + mag f w) ≡ square_of_root f n → last_digit f (mag f z) ≡ 0
