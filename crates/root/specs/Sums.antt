-- What each step of the hypot's code gives, over whole numbers.
use Rattle.std.specs.Prelude.{ℕ, ◌+◌, ◌*◌, ◌/◌, ◌%◌, ◌^◌, ◌≤◌, ◌<◌, ◌≡◌, ◌⊎◌}
use Rattle.std.specs.Float.{binary64}
use Rattle.std.specs.Float.Ieee.{of_bits}
use Rattle.rounding.specs.Root.{nearest_root}
use Rattle.root.specs.Parts.{infinity}

-- the square of (2 * a) and of 2 * b / 2 ^ d, summed, times 4 ^ d
abbrev pub scaled_sum : ℕ → ℕ → ℕ → ℕ
scaled_sum a b d = 2 * a * 2 ^ d * (2 * a * 2 ^ d) + 2 * b * (2 * b)

-- hi * 2 ^ 54 + lo is the whole part of that sum over 4 ^ (d + high), and has 107 or 108 digits
pub record IsSum (a b d hi lo high : ℕ) : Type 0 where
  pub from : (hi * 2 ^ 54 + lo) * (2 ^ (d + high) * 2 ^ (d + high)) ≤ scaled_sum a b d
  pub to : scaled_sum a b d < (hi * 2 ^ 54 + lo + 1) * (2 ^ (d + high) * 2 ^ (d + high))
  pub long : 2 ^ 52 ≤ hi
  pub short : hi < 2 ^ 54
  pub low : lo < 2 ^ 54
  pub once : high ≤ 1

-- r is the pattern of the f64 nearest the root of n units of 2 ^ -2148, which may be infinite
pub record IsNearestRootOf (n r : ℕ) : Type 0 where
  pub number : r ≤ infinity
  pub nearest : of_bits binary64 r ≡ nearest_root binary64 n 1074

-- a root with nothing left over, of which one digit is too many, is half-way between an even number and the odd one above it, if nothing of b * b was cut off
abbrev pub IsTie : ℕ → ℕ → ℕ → ℕ → Type 0
IsTie q left b k = (left ≡ 0) × (q % 4 ≡ 1) × (b / 2 ^ k * 2 ^ k ≡ b)

-- r is q halved and rounded: down at such a tie, and up anywhere else
abbrev pub IsRounded : ℕ → ℕ → ℕ → ℕ → ℕ → Type 0
IsRounded q left b k r = (IsTie q left b k × (r ≡ q / 2)) ⊎ ((IsTie q left b k → ⊥) × (r ≡ (q + 1) / 2))
