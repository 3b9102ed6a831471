-- The definitions of the root and of hypot, computed at a few numbers: squares, a long fraction, the ends of the range, the smallest units, two ties, and infinities and NaN.
use mathlib.Core.Path.{◌≡◌, refl}
use Prim.Native.Nat.{◌*◌, ◌+◌, ◌-◌}
use mathlib.Core.Bool.{true, false}
use lib.IntN.{pos}
use lib.Ieee.{nan, inf, fin, binary32, binary64, of_bits, to_bits}
use Rattle.rounding.specs.Root.{nearest_root, root, hypot}

root_of_four : root binary64 (fin false 1 (pos 2)) ≡ fin false 1 (pos 1)
unfolding root
root_of_four = refl

root_of_two : to_bits binary64 (root binary64 (fin false 1 (pos 1))) ≡ 0x3ff6a09e667f3bcd
unfolding root to_bits
root_of_two = refl

root_of_two_in_32 : to_bits binary32 (root binary32 (fin false 1 (pos 1))) ≡ 0x3fb504f3
unfolding root to_bits
root_of_two_in_32 = refl

root_of_whole_two : to_bits binary64 (nearest_root binary64 2 0) ≡ 0x3ff6a09e667f3bcd
unfolding nearest_root to_bits
root_of_whole_two = refl

root_of_largest : to_bits binary64 (root binary64 (of_bits binary64 0x7fefffffffffffff)) ≡ 0x5fefffffffffffff
unfolding root to_bits of_bits
root_of_largest = refl

root_of_smallest : to_bits binary64 (root binary64 (of_bits binary64 1)) ≡ 0x1e60000000000000
unfolding root to_bits of_bits
root_of_smallest = refl

-- 2 ^ 53 + 1 is half-way between 2 ^ 53 and 2 ^ 53 + 2, and goes down to the even one
tie_goes_down : to_bits binary64 (nearest_root binary64 (9007199254740993 * 9007199254740993) 0) ≡ 0x4340000000000000
unfolding nearest_root to_bits
tie_goes_down = refl

-- 2 ^ 53 + 3 is half-way between 2 ^ 53 + 2 and 2 ^ 53 + 4, and goes up to the even one
tie_goes_up : to_bits binary64 (nearest_root binary64 (9007199254740995 * 9007199254740995) 0) ≡ 0x4340000000000002
unfolding nearest_root to_bits
tie_goes_up = refl

-- below the second tie, and above the first
below_the_tie : to_bits binary64 (nearest_root binary64 (9007199254740995 * 9007199254740995 - 1) 0) ≡ 0x4340000000000001
unfolding nearest_root to_bits
below_the_tie = refl

above_the_tie : to_bits binary64 (nearest_root binary64 (9007199254740993 * 9007199254740993 + 1) 0) ≡ 0x4340000000000001
unfolding nearest_root to_bits
above_the_tie = refl

-- the root of 2 units is nearer 1 unit than 2
between-units : to_bits binary64 (nearest_root binary64 2 1074) ≡ 1
unfolding nearest_root to_bits
between-units = refl

-- ---- hypot

record Hypots : Type 0 where
  -- an infinity beside a NaN, a NaN beside a number
  infinity_and_nan : hypot binary64 (inf true) nan ≡ inf false
  nan_and_infinity : hypot binary64 nan (inf true) ≡ inf false
  nan_and_one : hypot binary64 nan (fin false 1 (pos 0)) ≡ nan
  one_and_nan : hypot binary64 (fin true 1 (pos 0)) nan ≡ nan
  -- the zeros have no sign left
  zeros : hypot binary64 (fin true 0 (pos 0)) (fin true 0 (pos 0)) ≡ fin false 0 (pos 0)
  three_and_four : hypot binary32 (fin true 3 (pos 0)) (fin false 1 (pos 2)) ≡ fin false 5 (pos 0)
  -- the largest value twice overflows, beside 1 it stays
  overflow : hypot binary64 (of_bits binary64 0x7fefffffffffffff) (of_bits binary64 0xffefffffffffffff) ≡ inf false
  largest : to_bits binary64 (hypot binary64 (of_bits binary64 0x7fefffffffffffff) (fin false 1 (pos 0))) ≡ 0x7fefffffffffffff
  -- in units: the roots of 2 and of 8
  unit_and_unit : to_bits binary64 (hypot binary64 (of_bits binary64 1) (of_bits binary64 1)) ≡ 1
  two_and_two_units : to_bits binary64 (hypot binary64 (of_bits binary64 2) (of_bits binary64 2)) ≡ 3

hypots : Hypots
unfolding hypot to_bits of_bits
hypots =
    record {
      infinity_and_nan = refl;
      nan_and_infinity = refl;
      nan_and_one = refl;
      one_and_nan = refl;
      zeros = refl;
      three_and_four = refl;
      overflow = refl;
      largest = refl;
      unit_and_unit = refl;
      two_and_two_units = refl;
    }
