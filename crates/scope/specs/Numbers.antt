-- Document 01, "Records": all reals are f64, and IEEE 754 governs each operation. Each sign below is one operation of binary64, rounded once.
use Rattle.std.specs.Prelude.{ℕ, ◌+◌, ◌-◌, ◌*◌, ◌/◌, Bool, true, false, pos, negsuc, Float}
use Rattle.std.specs.Float.{nan, inf, fin, binary64}
use Rattle.std.specs.Float.Ieee.{up, down, add, sub, mul, div, lt, le, of_bits, of_int}

infixl 65 ◌+ᶠ◌
infixl 65 ◌-ᶠ◌
infixl 70 ◌*ᶠ◌
infixl 70 ◌/ᶠ◌
infix 50 ◌<ᶠ◌
infix 50 ◌≤ᶠ◌
abbrev pub ◌+ᶠ◌ : Float → Float → Float
x +ᶠ y = add binary64 x y

abbrev pub ◌-ᶠ◌ : Float → Float → Float
x -ᶠ y = sub binary64 x y

abbrev pub ◌*ᶠ◌ : Float → Float → Float
x *ᶠ y = mul binary64 x y

abbrev pub ◌/ᶠ◌ : Float → Float → Float
x /ᶠ y = div binary64 x y

-- false where either is NaN
abbrev pub ◌<ᶠ◌ : Float → Float → Bool
x <ᶠ y = lt x y

abbrev pub ◌≤ᶠ◌ : Float → Float → Bool
x ≤ᶠ y = le x y

-- ---- the numbers of document 01 and of the source. `fin false m (pos e)` is m * 2^e, and `fin false m (negsuc e)` is m / 2^(e + 1).
abbrev pub nought : Float
nought = fin false 0 (pos 0)

abbrev pub one : Float
one = fin false 1 (pos 0)

abbrev pub two : Float
two = fin false 1 (pos 1)

abbrev pub half : Float
half = fin false 1 (negsuc 0)

-- 1e-6
unfoldable pub e_6 : Float
e_6 = of_bits binary64 0x3eb0_c6f7_a0b5_ed8d

-- 1e-9
unfoldable pub e_9 : Float
e_9 = of_bits binary64 0x3e11_2e0b_e826_d695

-- 1e-10
unfoldable pub e_10 : Float
e_10 = of_bits binary64 0x3ddb_7cdf_d9d7_bdbb

-- 1e-12
unfoldable pub e_12 : Float
e_12 = of_bits binary64 0x3d71_9799_812d_ea11

-- 1.618
unfoldable pub golden : Float
golden = of_bits binary64 0x3ff9_e353_f7ce_d917

-- ---- |x|: the sign taken off
unfoldable pub abs : Float → Float
abs nan = nan
abs (inf s) = inf false
abs (fin s m e) = fin false m e

-- a whole number as an f64
abbrev pub whole : ℕ → Float
whole n = of_int binary64 (pos n)

-- raised to a whole number: the least one that is not below x, and 0 for what is below 0 or not finite
unfoldable pub raised : Float → ℕ
raised nan = 0
raised (inf s) = 0
raised (fin true m e) = 0
raised (fin false m e) = (m * up e + (down e - 1)) / down e
