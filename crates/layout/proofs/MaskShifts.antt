-- A mask that holds a bit is as large as it at least.
use Prim.Native.Nat.{ℕ, ◌*◌, ◌/◌, ◌%◌, ◌^◌, ◌≤◌}
use native.Mathlib.Omega.{arith}
use native.Mathlib.Nat.{le-div_iff_mul-le}
use mathlib.Core.Path.{◌≡◌}
use mathlib.Core.Bool.{true}
use lib.Pow.{pow_pos}
use borrow.Author.Tests.{eqb-true}
use Rattle.scope.specs.Runs.{bit}

pub held_at_least : (m i : ℕ) → bit m i ≡ true → 2 ^ i ≤ m
unfolding bit
held_at_least m i h = once ((le-div_iff_mul-le (pow_pos i)).0 (odd (m / 2 ^ i) (eqb-true (m / 2 ^ i % 2) 1 h)))
  where
    odd : (x : ℕ) → x % 2 ≡ 1 → 1 ≤ x
    odd x h = omega arith

    once : 1 * 2 ^ i ≤ m → 2 ^ i ≤ m
    once l = omega arith
