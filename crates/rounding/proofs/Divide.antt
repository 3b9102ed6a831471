-- The quotient by a divisor that is not zero: one rounding of the exact quotient, which is mag x * 2 ^ low / mag y units.
use mathlib.Core.Path.{◌≡◌, refl, ap, ◌∙◌}
use Prim.Native.Nat.{ℕ, zero, suc, ◌+◌, ◌*◌, ◌^◌, ◌≤◌, ◌<◌}
use native.Mathlib.Nat.{mul-pos, zero-mul}
use native.Mathlib.Omega.{arith}
use mathlib.Core.Bool.{Bool, true, false, cond}
use lib.Dec.{T, eqb, eqb→eq}
use lib.Ieee.{Float, nan, inf, fin, Format, prec, emax, low, up, down, round, div, unlike}
use lib.Ieee.Fits.{down_pos}
use Rattle.rounding.specs.Value.{mag, signed, negative, Fin}
use Rattle.rounding.proofs.Value.{value_of}
use Rattle.rounding.proofs.Rounded.{RoundOf, Rounded, round-near}

-- m / e is A units and n / d is B
cross : (m n e d l A B : ℕ) → m * l ≡ A * e → n * l ≡ B * d → m * d * l * B ≡ A * l * (n * e)
cross m n e d l A B p q = omega (arith, ap (λ (z : ℕ). z * (d * B)) p, ap (λ (z : ℕ). A * e * z) q)

none : (n d l B : ℕ) → n * l ≡ B * d → 0 < B → 0 < d → n ≡ 0 → ⊥
none n d l B q b dp z = omega (arith, mul-pos b dp, ap (λ (u : ℕ). u * l) z)

first : (n d l B : ℕ) → n * l ≡ B * d → 0 < B → 0 < d → 0 < n
first zero d l B q b dp = absurd (none 0 d l B q b dp refl)
first (suc n) d l B q b dp = omega arith

pub div_is : (f : Format) (x y : Float) → Fin f x → Fin f y → 0 < mag f y → RoundOf f (div f x y) (unlike (negative x) (negative y)) (mag f x * 2 ^ low f) (mag f y)
unfolding div Fin negative
div_is f nan y p q b = absurd p
div_is f (inf s) y p q b = absurd p
div_is f (fin s m e) nan p q b = absurd q
div_is f (fin s m e) (inf t) p q b = absurd q
div_is f (fin s m e) (fin t n d) p q b = go (eqb n 0) (eqb→eq n 0)
  where
    Y : n * up d * 2 ^ low f ≡ mag f (fin t n d) * down d
    Y = (value_of f (fin t n d) q).1

    go : (z : Bool) → (T z → n ≡ 0)
        → RoundOf f (cond z (cond (eqb m 0) nan (inf (unlike s t))) (round f (unlike s t) (m * up e * down d) (n * up d * down e))) (unlike s t) (mag f (fin s m e) * 2 ^ low f) (mag f (fin t n d))
    go true z = absurd (none (n * up d) (down d) (2 ^ low f) (mag f (fin t n d)) Y b (down_pos d) (ap (λ (u : ℕ). u * up d) (z tt) ∙ zero-mul (up d)))
    go false z = record {
      num = m * up e * down d;
      den = n * up d * down e;
      den_pos = mul-pos (first (n * up d) (down d) (2 ^ low f) (mag f (fin t n d)) Y b (down_pos d)) (down_pos e);
      d-pos = b;
      is = refl;
      units = cross (m * up e) (n * up d) (down e) (down d) (2 ^ low f) (mag f (fin s m e)) (mag f (fin t n d)) (value_of f (fin s m e) p).1 Y;
    }

module _ (f : Format) (x y : Float) (p : Fin f x) (q : Fin f y) (b : 0 < mag f y) where
  pub div-near : (k : ℕ) → prec f + k ≤ low f + emax f → mag f x * 2 ^ low f ≤ 2 ^ (prec f + k) * mag f y
      → Rounded f (div f x y) (signed (unlike (negative x) (negative y)) (mag f x * 2 ^ low f)) (mag f y) k
  div-near k o h = round-near (div_is f x y p q b) k h o
