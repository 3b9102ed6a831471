-- The tolerance is a number, never a NaN: so an area of minus infinity is always at most the tolerance.
use mathlib.Core.Path.{◌≡◌, refl, ap, ◌∙◌}
use mathlib.Core.Bool.{Bool, true, false, cond, true≢false}
use mathlib.Core.List.{List}
use Prim.Native.Nat.{ℕ, zero, suc, ◌+◌, ◌*◌, ◌^◌}
use lib.Dec.{T, ltb}
use lib.IntN.{ℤ}
use lib.ListN.{length}
use lib.Ieee.{Float, nan, inf, fin, Format, binary64, prec, emax, low, up, down, is_nan, odd, units, round, mul, lt, eq, le, of_bits, unlike}
use lib.Ieee.Fits.{round_is}
use lib.Ieee.Order.{drop, kept}
use Rattle.rounding.specs.Extremes.{maximum}
use Rattle.scope.specs.Numbers.{◌*ᶠ◌, ◌≤ᶠ◌, nought, one, e_10, abs}
use Rattle.scope.specs.Runs.{gather, always}
use Rattle.scope.specs.Links.{Region}
use Rattle.scope.specs.Tolerance.{region, largest, tolerance}
use Rattle.laws.proofs.Runs.{gather_keeps}

abbrev IsNumber : Float → Type 0
IsNumber x = is_nan x ≡ false

-- what is strictly beyond something is a number
beyond-number : (x y : Float) → T (lt x y) → IsNumber y
unfolding lt is_nan
beyond-number nan nan h = absurd h
beyond-number (inf s) nan h = absurd h
beyond-number (fin s m e) nan h = absurd h
beyond-number x (inf t) h = refl
beyond-number x (fin t n d) h = refl

maximum-number : (x y : Float) → IsNumber x → IsNumber (maximum x y)
unfolding maximum
maximum-number x y h = pick (lt x y) (beyond-number x y)
  where
    pick : (b : Bool) → (T b → IsNumber y) → IsNumber (cond b y x)
    pick true k = k tt
    pick false k = h

round_number : (f : Format) (s : Bool) (num den : ℕ) → IsNumber (round f s num den)
unfolding units is_nan
round_number f s num den = ap is_nan (round_is f s num den) ∙ go (kept (prec f) (num * 2 ^ low f) den) (drop (prec f) (num * 2 ^ low f) den)
  where
    odd_number : (d q k l : ℕ) → is_nan (odd d s q k l) ≡ false
    odd_number d zero k l = unfold odd in refl
    odd_number d (suc q) k l = unfold odd in refl

    pick : (b : Bool) (q k : ℕ) → is_nan (cond b (odd (suc (prec f)) s q k (low f)) (inf s)) ≡ false
    pick true q k = odd_number (suc (prec f)) q k (low f)
    pick false q k = refl

    go : (q k : ℕ) → is_nan (units f s q k) ≡ false
    go q k = pick (ltb (q * 2 ^ k) (2 ^ (low f + suc (emax f)))) q k

product_number : (s t : Bool) (m n : ℕ) (e d : ℤ) → IsNumber (fin s m e *ᶠ fin t n d)
unfolding mul
product_number s t m n e d = round_number binary64 (unlike s t) (m * up e * (n * up d)) (down e * down d)

scaled_infinity : (t : Bool) → IsNumber (e_10 *ᶠ inf t)
unfolding e_10 of_bits mul is_nan
scaled_infinity true = refl
scaled_infinity false = refl

scaled_number : (x : Float) → IsNumber x → IsNumber (e_10 *ᶠ x)
unfolding e_10 of_bits
scaled_number nan h = absurd (true≢false (unfold is_nan in h))
scaled_number (inf t) h = scaled_infinity t
scaled_number (fin s m e) h = product_number _ s _ m _ e

tolerance-number : (rs : List Region) → IsNumber (tolerance rs)
unfolding tolerance largest is_nan
tolerance-number rs =
    scaled_number (maximum (gather maximum nought always (length rs) (λ k. abs (region rs k).area)) one)
    (maximum-number (gather maximum nought always (length rs) (λ k. abs (region rs k).area)) one
    (gather_keeps maximum nought IsNumber always (length rs) (λ k. abs (region rs k).area) refl (λ k a l u h. maximum-number a (abs (region rs k).area) h)))

below-number : (x : Float) → IsNumber x → T (inf true ≤ᶠ x)
unfolding le lt eq is_nan
below-number nan h = absurd (true≢false h)
below-number (inf true) h = tt
below-number (inf false) h = tt
below-number (fin s m e) h = tt

pub minus_infinity_at_most : (rs : List Region) → T (inf true ≤ᶠ tolerance rs)
minus_infinity_at_most rs = below-number (tolerance rs) (tolerance-number rs)
