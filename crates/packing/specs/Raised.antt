-- A number raised to a whole one, in 64 bits.
use Rattle.std.specs.Prelude.{ℕ, ◌-◌, ◌^◌, min, Float}
use Rattle.scope.specs.Numbers.{raised}

-- what is past them all is the largest
abbrev pub raised_word : Float → ℕ
raised_word x = min (raised x) (2 ^ 64 - 1)
