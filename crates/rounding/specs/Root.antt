-- IEEE 754's squareRoot and hypot. squareRoot is the value of the format nearest the exact root, ties to even; -0 is its own root, and what is below zero has none.
-- The exact root need not be a fraction, so it is compared and never computed: `halves` keeps on which side of each whole number it lies.
use Rattle.std.specs.Prelude.{ℕ, zero, suc, ◌+◌, ◌-◌, ◌*◌, ◌/◌, ◌^◌, true, false, cond, leb, ltb, Float}
use Rattle.std.specs.Float.{nan, inf, fin, Format}
use Rattle.std.specs.Float.Ieee.{low, size, round}
use Rattle.rounding.specs.Value.{mag}

-- the whole part of the root of n, for an n below 4 ^ d: a base-4 digit at a time
unfoldable pub whole_root : ℕ → ℕ → ℕ
whole_root zero n = 0
whole_root (suc d) n = let r = 2 * whole_root d (n / 4) in cond (leb (suc r * suc r) n) (suc r) r

-- The root of n, in halves: twice its whole part, and one more where that is not all. So what is below, at or above a whole number stays so.
unfoldable pub halves : ℕ → ℕ
unfolding whole_root size
halves n = let r = whole_root (suc (size n / 2)) n in 2 * r + cond (ltb (r * r) n) 1 0

-- The value of the format nearest the root of n, divided by 2 ^ k, ties to even. A point half-way between two values of the format is a whole number of
-- half units, 2 ^ - (low + 1). At the scale k + j it is a whole number, so rounding `halves` there rounds the root.
unfoldable pub nearest_root : Format → ℕ → ℕ → Float
unfolding halves round
nearest_root f n k = let j = suc (low f) - k in round f false (halves (n * 4 ^ j)) (2 * 2 ^ (k + j))

-- The root of a units is the root of a * 2 ^ low, in units.
unfoldable pub root : Format → Float → Float
unfolding nearest_root mag
root f nan = nan
root f (inf true) = nan
root f (inf false) = inf false
root f (fin s zero e) = fin s zero e
root f (fin true (suc m) e) = nan
root f (fin false (suc m) e) = nearest_root f (mag f (fin false (suc m) e) * 2 ^ low f) (low f)

-- IEEE 754's hypot (9.2): the value of the format nearest the exact root of the exact sum of the two squares, ties to even. An infinity gives +infinity,
-- even beside a NaN (9.2.1). The squares of a and b units are a * a and b * b square units, and the root of n of these is root(n) units.
unfoldable pub hypot : Format → Float → Float → Float
unfolding nearest_root mag
hypot f (inf s) y = inf false
hypot f nan (inf t) = inf false
hypot f nan nan = nan
hypot f nan (fin t n d) = nan
hypot f (fin s m e) (inf t) = inf false
hypot f (fin s m e) nan = nan
hypot f (fin s m e) (fin t n d) =
    let a = mag f (fin s m e) in
    let b = mag f (fin t n d) in
    nearest_root f (a * a + b * b) (low f)
