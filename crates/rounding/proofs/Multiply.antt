-- The product: one rounding of the exact product, which is mag x * mag y / 2 ^ low units.
use mathlib.Core.Path.{◌≡◌, refl, ap}
use Prim.Native.Nat.{ℕ, ◌+◌, ◌*◌, ◌^◌, ◌≤◌}
use native.Mathlib.Nat.{mul-pos}
use native.Mathlib.Omega.{arith}
use mathlib.Core.Bool.{Bool, true, false}
use lib.Pow.{pow_pos}
use lib.Ieee.{Float, nan, inf, fin, Format, prec, emax, low, up, down, mul, unlike}
use lib.Ieee.Fits.{down_pos}
use Rattle.algebra.specs.Integer.{Within, ◌⊗◌, ◌≈◌}
use Rattle.rounding.specs.Value.{mag, signed, negative, val, Fin}
use Rattle.rounding.proofs.Value.{value_of}
use Rattle.rounding.proofs.Rounded.{RoundOf, Rounded, recast, round-near, round-sign, sign_kept}

-- m / e is A units and n / d is B
pub both : (m n e d l A B : ℕ) → m * l ≡ A * e → n * l ≡ B * d → m * n * l * l ≡ A * B * (e * d)
both m n e d l A B p q = omega (arith, ap (λ (z : ℕ). z * (n * l)) p, ap (λ (z : ℕ). A * e * z) q)

signs_mul : (s t : Bool) (A B : ℕ) → signed (unlike s t) (A * B) ≈ signed s A ⊗ signed t B
signs_mul false false A B = omega arith
signs_mul false true A B = omega arith
signs_mul true false A B = omega arith
signs_mul true true A B = omega arith

size-mul : (s t : Bool) (A B b : ℕ) → Within (signed s A ⊗ signed t B) b → A * B ≤ b
size-mul false false A B b h = omega arith
size-mul false true A B b h = omega arith
size-mul true false A B b h = omega arith
size-mul true true A B b h = omega arith

pub mul_is : (f : Format) (x y : Float) → Fin f x → Fin f y → RoundOf f (mul f x y) (unlike (negative x) (negative y)) (mag f x * mag f y) (2 ^ low f)
unfolding mul Fin negative
mul_is f nan y p q = absurd p
mul_is f (inf s) y p q = absurd p
mul_is f (fin s m e) nan p q = absurd q
mul_is f (fin s m e) (inf t) p q = absurd q
mul_is f (fin s m e) (fin t n d) p q = record {
  num = m * up e * (n * up d);
  den = down e * down d;
  den_pos = mul-pos (down_pos e) (down_pos d);
  d-pos = pow_pos (low f);
  is = refl;
  units = both (m * up e) (n * up d) (down e) (down d) (2 ^ low f) (mag f (fin s m e)) (mag f (fin t n d)) (value_of f (fin s m e) p).1 (value_of f (fin t n d) q).1;
}

module _ (f : Format) (x y : Float) (p : Fin f x) (q : Fin f y) where
  pub mul-near : (k : ℕ) → prec f + k ≤ low f + emax f → Within (val f x ⊗ val f y) (2 ^ (prec f + k) * 2 ^ low f) → Rounded f (mul f x y) (val f x ⊗ val f y) (2 ^ low f) k
  mul-near k o h =
      unfold val in
      recast (signs_mul (negative x) (negative y) (mag f x) (mag f y))
      (round-near (mul_is f x y p q) k (size-mul (negative x) (negative y) (mag f x) (mag f y) (2 ^ (prec f + k) * 2 ^ low f) h) o)

  pub mul-sign : negative (mul f x y) ≡ unlike (negative x) (negative y)
  mul-sign = round-sign (mul_is f x y p q)

-- a square is not negative, finite or not: a NaN counts as not negative
pub square-sign : (f : Format) (x : Float) → negative (mul f x x) ≡ false
unfolding mul negative
square-sign f nan = refl
square-sign f (inf true) = refl
square-sign f (inf false) = refl
square-sign f (fin true m e) = sign_kept f false _ _
square-sign f (fin false m e) = sign_kept f false _ _
