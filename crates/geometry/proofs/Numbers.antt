-- The size of a number, in the code and in scope: by its sign.
use Prim.Native.Nat.{zero, suc, ◌+◌, ◌*◌}
use native.Mathlib.Omega.{arith}
use native.Mathlib.Nat.{mul-pos}
use mathlib.Core.Path.{◌≡◌, refl, sym, ap, ◌∙◌}
use mathlib.Core.Bool.{Bool, true, false, ◌&&◌, false≢true}
use lib.IntN.{ℤ, pos, negsuc}
use lib.Pow.{pow-lt}
use lib.Ieee.{Float, nan, inf, fin, binary64, of_bits, neg, lt, eq, up, down, fits}
use lib.Ieee.Fits.{up_pos}
use borrow.Author.Tests.{ltb-true, ltb-false, eqb-true, eq-eqb}
use Rattle.scope.specs.Numbers.{abs}

-- a zero is written in one way
zero_exponent : (e : ℤ) → up e * down e ≡ 1 → e ≡ pos 0
zero_exponent (pos zero) h = refl
zero_exponent (pos (suc k)) h = absurd (omega (arith, pow-lt {i = 0} {j = suc k} (omega arith)))
zero_exponent (negsuc k) h = absurd (omega (arith, pow-lt {i = 0} {j = suc k} (omega arith)))

pub size-below_zero : (x : Float) → lt x (of_bits binary64 0) ≡ true → neg x ≡ abs x
unfolding lt neg abs of_bits
size-below_zero nan h = refl
size-below_zero (inf true) h = refl
size-below_zero (inf false) h = absurd (false≢true h)
size-below_zero (fin true m e) h = refl
size-below_zero (fin false m e) h = absurd (omega (arith, ltb-true (m * up e * 1) (0 * down e) h))

pub first_holds : (a b : Bool) → a && b ≡ true → a ≡ true
first_holds true b h = refl
first_holds false b h = h

pub size_of_zero : (x : Float) → fits binary64 x ≡ true → eq x (of_bits binary64 0) ≡ true → of_bits binary64 0 ≡ abs x
unfolding eq abs of_bits fits
size_of_zero nan w h = absurd (false≢true h)
size_of_zero (inf s) w h = absurd (false≢true h)
size_of_zero (fin s zero e) w h = ap (fin false 0) (sym (zero_exponent e (eqb-true (up e * down e) 1 w)))
size_of_zero (fin s (suc m) e) w h =
    absurd (omega (arith, mul-pos {m = suc m} (omega arith) (up_pos e), eqb-true (suc m * up e * 1) (0 * down e) (first_holds _ _ h)))

pub size_above_zero : (x : Float) → lt x (of_bits binary64 0) ≡ false → eq x (of_bits binary64 0) ≡ false → x ≡ abs x
unfolding lt eq abs of_bits
size_above_zero nan l h = refl
size_above_zero (inf true) l h = absurd (false≢true (sym l))
size_above_zero (inf false) l h = refl
size_above_zero (fin false m e) l h = refl
size_above_zero (fin true m e) l h =
    let none = ltb-false 0 (m * up e * 1 + 0 * down e) l in
    absurd (false≢true (sym h ∙ rw (eq-eqb (m * up e * 1) (0 * down e) (omega arith), eq-eqb (m * up e * 1) 0 (omega arith))))
