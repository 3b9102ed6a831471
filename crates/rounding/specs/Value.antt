-- A finite float of the format f as a whole number of units: f's smallest value, 2 ^ - low f.
use Rattle.std.specs.Prelude.{ℕ, ◌*◌, ◌/◌, ◌%◌, ◌-◌, ◌^◌, Bool, true, false, ◌&&◌, T, Float}
use Rattle.std.specs.Float.{nan, inf, fin, Format}
use Rattle.std.specs.Float.Ieee.{prec, low, up, down, size, fits}
use Rattle.std.specs.Float.Ieee.Scale.{finite}
use Rattle.algebra.specs.Integer.{Z}

-- the size in units, and 0 for what is not finite
unfoldable pub mag : Format → Float → ℕ
mag f nan = 0
mag f (inf s) = 0
mag f (fin s m e) = m * up e * 2 ^ low f / down e

-- a size with a sign, which is true below zero
abbrev pub signed : Bool → ℕ → Z
signed false a = record { p = a; n = 0 }
signed true a = record { p = 0; n = a }

unfoldable pub negative : Float → Bool
negative nan = false
negative (inf s) = s
negative (fin s m e) = s

-- the value in units
unfoldable pub val : Format → Float → Z
unfolding mag negative
val f x = signed (negative x) (mag f x)

-- finite, and held by the format
unfoldable pub Fin : Format → Float → Type 0
Fin f x = T (finite x && fits f x)

-- the last of the digits that the format keeps of a size a, which is the last of the float's pattern: IEEE 754 breaks a tie towards 0 there
unfoldable pub last_digit : Format → ℕ → ℕ
last_digit f a = a / 2 ^ (size a - prec f) % 2
