-- The patterns of the circle's constants stand for the three limits, and no accepted radius is below the smallest normal number.
use Prim.Native.Nat.{ℕ, ◌*◌, ◌^◌, ◌≤◌}
use mathlib.Core.Path.{◌≡◌, refl}
use mathlib.Core.Bool.{Bool, true, false, ◌&&◌, ◌||◌, false≢true}
use native.Mathlib.Nat.{le_trans, mul-le-mul_left}
use native.Mathlib.Omega.{arith}
use lib.Dec.{lit≤, ltb, eqb}
use lib.Ieee.{Float, nan, inf, fin, binary64, of_bits, up, down, le, lt, eq}
use lib.Ieee.Fits.{down_pos}
use borrow.Author.Tests.{ltb-true, eqb-true, le-ltb}
use Rattle.shapes.specs.Limits.{smallest_radius, largest_radius, smallest_normal, radius_in_range}

pub smallest_radius_pattern : of_bits binary64 0x3eb0_0000_0000_0000 ≡ smallest_radius
unfolding of_bits smallest_radius
smallest_radius_pattern = refl

pub largest_radius_pattern : of_bits binary64 0x4130_0000_0000_0000 ≡ largest_radius
unfolding of_bits largest_radius
largest_radius_pattern = refl

pub smallest_normal_pattern : of_bits binary64 0x0010_0000_0000_0000 ≡ smallest_normal
unfolding of_bits smallest_normal
smallest_normal_pattern = refl

first_holds : (p q : Bool) → p && q ≡ true → p ≡ true
first_holds true q h = refl
first_holds false q h = h

second_holds : (p q : Bool) → p && q ≡ true → q ≡ true
second_holds true q h = h
second_holds false q h = absurd (false≢true h)

-- the tests that `le` makes of two sizes
at_most : (a b : ℕ) (p q t : Bool) → ltb a b ≡ p → eqb a b ≡ q → p || q && t ≡ true → a ≤ b
at_most a b true q t less same h = omega (arith, ltb-true a b less)
at_most a b false true t less same h = omega (arith, eqb-true a b same)
at_most a b false false t less same h = absurd (false≢true h)

-- Where r is at least 2^-20, its numerator times 2^20, and so times 2^1022, reaches its denominator.
not_below : (r : Float) → le smallest_radius r ≡ true → lt r smallest_normal ≡ false
unfolding smallest_radius smallest_normal lt le eq
not_below nan h = refl
not_below (inf true) h = absurd (false≢true h)
not_below (inf false) h = refl
not_below (fin true m e) h =
    let zero = eqb-true (1 * 1 * down e) 0 (second_holds (eqb (1 * 1 * down e) (m * up e * 2 ^ 20)) _ h) in
    absurd (omega (arith, down_pos e))
not_below (fin false m e) h =
    let reached = at_most (1 * 1 * down e) (m * up e * 2 ^ 20) _ _ _ refl refl h in
    le-ltb (m * up e * 2 ^ 1022) (1 * 1 * down e) (le_trans reached (mul-le-mul_left (m * up e) (lit≤ tt)))

pub accepted_not_below : (r : Float) → radius_in_range r ≡ true → lt r smallest_normal ≡ false
accepted_not_below r h = not_below r (first_holds _ (le r largest_radius) h)
