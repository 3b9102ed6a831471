-- Powers of two as sizes in units of 2 ^ -1074, the smallest f64: `pow2 i` is 2 ^ (i - 60). It is shut, so that `omega` takes it for an unknown and never
-- computes it.
use Rattle.std.specs.Prelude.{ℕ, ◌+◌, ◌^◌}

unfoldable pub pow2 : ℕ → ℕ
pow2 i = 2 ^ (1014 + i)
