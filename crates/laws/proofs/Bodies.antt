-- The bodies of the three fields, written then read and read then written: their numbers stand one after another, and a float that is no NaN is its pattern.
use Prim.Native.Nat.{ℕ, ◌+◌, ◌^◌, ◌≤◌, ◌<◌}
use native.Mathlib.Omega.{arith}
use mathlib.Core.Path.{◌≡◌, ◌∙◌}
use mathlib.Core.Bool.{not}
use mathlib.Core.List.{List}
use lib.Dec.{T}
use lib.ListN.{length, take, drop}
use lib.Seq.{take-add, take_all}
use lib.Ieee.{Float, nan, inf, fin, binary64, fits, is_nan, to_bits, lt, eq, le}
use lib.Ieee.Bits.{of_bits-to_bits, to_bits-lt, to_bits-of_bits}
use Rattle.shapes.specs.declared.circle.Circle.{Circle}
use Rattle.scope.specs.Limits.{within}
use Rattle.scope.specs.Numbers.{◌≤ᶠ◌}
use Rattle.scope.specs.CardFile.{little_endian, float_of, pattern_of, word, short_word, circle_from}
use Rattle.scope.specs.Saving.{low_bytes, factor_body, circle_body, region_body}
use Rattle.laws.specs.Bytes.{AreBytes}
use Rattle.laws.proofs.Cases.{and_iff}
use Rattle.laws.proofs.Bytes.{low_read, part_written, part_below}

-- ---- floats

-- a float within two numbers is no NaN
pub no_nan_within : (low high x : Float) → T (within low high x) → T (not (is_nan x))
unfolding within le lt eq is_nan
no_nan_within low high nan h = ((and_iff (low ≤ᶠ nan) (nan ≤ᶠ high)).0 h).1
no_nan_within low high (inf s) h = tt
no_nan_within low high (fin s m e) h = tt

float_read : (x : Float) → T (fits binary64 x) → float_of (little_endian (low_bytes 8 (pattern_of x))) ≡ x
unfolding float_of pattern_of
float_read x h = rw (low_read 8 (to_bits binary64 x) (to_bits-lt binary64 x h)) (of_bits-to_bits binary64 x h)

float-written : (bs : List ℕ) (at : ℕ) → at + 8 ≤ length bs → AreBytes bs → T (not (is_nan (float_of (word bs at))))
    → low_bytes 8 (pattern_of (float_of (word bs at))) ≡ take 8 (drop at bs)
unfolding float_of pattern_of word
float-written bs at long small number =
    rw (to_bits-of_bits binary64 (little_endian (take 8 (drop at bs))) (part_below 8 at bs long small) number) (part_written 8 at bs long small)

-- ---- factor

pub factor-read : (x : Float) → T (fits binary64 x) → float_of (word (factor_body x) 0) ≡ x
unfolding factor_body word low_bytes
factor-read x h = float_read x h

pub factor-written : (bs : List ℕ) → length bs ≡ 8 → AreBytes bs → T (not (is_nan (float_of (word bs 0)))) → factor_body (float_of (word bs 0)) ≡ bs
unfolding factor_body
factor-written bs l small number = float-written bs 0 (omega arith) small number ∙ take_all 8 bs (omega arith)

-- ---- circle

pub circle-read : (c : Circle) → T (fits binary64 c.center.x) → T (fits binary64 c.center.y) → T (fits binary64 c.radius) → c.ink < 2 ^ 16
    → circle_from (circle_body c) ≡ c
unfolding circle_from circle_body word short_word low_bytes
circle-read c x y r k = rw (float_read c.center.x x, float_read c.center.y y, float_read c.radius r, low_read 2 c.ink k)

-- none of its numbers is a NaN
pub record Numbers (c : Circle) : Type 0 where
  pub x : T (not (is_nan c.center.x))
  pub y : T (not (is_nan c.center.y))
  pub radius : T (not (is_nan c.radius))

pub circle-written : (bs : List ℕ) → length bs ≡ 26 → AreBytes bs → Numbers (circle_from bs) → circle_body (circle_from bs) ≡ bs
unfolding circle_body circle_from short_word
circle-written bs l small n =
    let x = float-written bs 0 (omega arith) small n.x in
    let y = float-written bs 8 (omega arith) small n.y in
    let radius = float-written bs 16 (omega arith) small n.radius in
    let ink = part_written 2 24 bs (omega arith) small in
    rw (x, y, radius, ink, ← (take-add 8 8 bs), ← (take-add 16 8 bs), ← (take-add 24 2 bs)) (take_all 26 bs (omega arith))

-- ---- region: its area stays a pattern

pub region-read : (mask pattern : ℕ) → mask < 2 ^ 64 → pattern < 2 ^ 64
    → (word (region_body mask pattern) 0 ≡ mask) × (word (region_body mask pattern) 8 ≡ pattern)
unfolding region_body word low_bytes
region-read mask pattern m p = (low_read 8 mask m, low_read 8 pattern p)

pub region-written : (bs : List ℕ) → length bs ≡ 16 → AreBytes bs → region_body (word bs 0) (word bs 8) ≡ bs
unfolding region_body word
region-written bs l small =
    rw (part_written 8 0 bs (omega arith) small, part_written 8 8 bs (omega arith) small, ← (take-add 8 8 bs)) (take_all 16 bs (omega arith))
