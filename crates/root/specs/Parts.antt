-- What each step of the root's code gives, over whole numbers.
use Rattle.std.specs.Prelude.{ℕ, ◌+◌, ◌-◌, ◌*◌, ◌/◌, ◌%◌, ◌^◌, ◌≤◌, ◌<◌, ◌≡◌, cond, ltb}

-- the pattern of +infinity
abbrev pub infinity : ℕ
infinity = 2047 * 2 ^ 52

-- the value of the pattern b of a finite f64 that is not negative, as a multiple of 2 ^ -1074
unfoldable pub pattern_units : ℕ → ℕ
pattern_units b = cond (ltb b (2 ^ 52)) b ((2 ^ 52 + b % 2 ^ 52) * 2 ^ (b / 2 ^ 52 - 1))

-- m * 2 ^ k is the value of b, with k and m as the pattern has them
pub record IsUnits (b m k : ℕ) : Type 0 where
  pub value : m * 2 ^ k ≡ pattern_units b
  pub exponent : k ≡ b / 2 ^ 52 - 1
  pub joined : k * 2 ^ 52 + m ≡ b
  pub small : m < 2 ^ 53

-- 1 as a multiple of 2 ^ -1074
unfoldable pub one : ℕ
one = 2 ^ 1074

-- m has 53 digits, and m * 2 ^ k is the value of b as a multiple of 2 ^ -1126
pub record IsNormal (b m k : ℕ) : Type 0 where
  pub value : m * 2 ^ k ≡ pattern_units b * 2 ^ 52
  pub low : 2 ^ 52 ≤ m
  pub high : m < 2 ^ 53
  pub exponent : k < 2100

-- m has 53 or 54 digits, and m * 2 ^ 54 has the root that b's value has, up to 2 ^ h: as a multiple of 2 ^ -1074 that root is 2 ^ h times the root
-- of m * 2 ^ 54. Both sides are the value as a multiple of 2 ^ -2148
pub record IsSplit (b m h : ℕ) : Type 0 where
  pub value : m * 2 ^ 54 * (2 ^ h * 2 ^ h) ≡ pattern_units b * one
  pub low : 2 ^ 52 ≤ m
  pub high : m < 2 ^ 54
  pub exponent : h < 1600

-- q is the whole part of the root of n, and left is what is left over
pub record IsWholeRoot (n q left : ℕ) : Type 0 where
  pub square : q * q + left ≡ n
  pub rest : left ≤ 2 * q
