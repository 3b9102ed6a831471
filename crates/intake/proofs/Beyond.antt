-- A mask of 64 bits has none beyond them.
use Prim.Native.Nat.{ℕ, ◌*◌, ◌/◌, ◌^◌, ◌≤◌, ◌<◌}
use native.Mathlib.Omega.{arith}
use native.Mathlib.Nat.{div-lt_iff_lt-mul, lt_of_lt_of_le}
use mathlib.Core.Path.{◌≡◌, refl}
use mathlib.Core.Bool.{false}
use lib.Pow.{pow_pos, pow_mono}
use Rattle.scope.specs.Runs.{bit}

pub no_bit_beyond : (m i : ℕ) → m < 2 ^ 64 → 64 ≤ i → false ≡ bit m i
unfolding bit
no_bit_beyond m i f h = rw (none (m / 2 ^ i) ((div-lt_iff_lt-mul {k = 2 ^ i} {x = m} {y = 1} (pow_pos i)).1 (once (lt_of_lt_of_le f (pow_mono h))))) refl
  where
    none : (x : ℕ) → x < 1 → x ≡ 0
    none x h = omega arith

    once : m < 2 ^ i → m < 1 * 2 ^ i
    once l = omega arith
