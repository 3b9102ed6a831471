-- The size of a finite f64 in units, as a natural number: bounds, squares and rounded results read in sizes.
use mathlib.Core.Path.{◌≡◌, refl, ap}
use mathlib.Core.Logic.{inl, inr}
use mathlib.Core.Bool.{Bool, true, false}
use Prim.Native.Nat.{ℕ, zero, suc, ◌+◌, ◌*◌, ◌^◌, ◌≤◌, ◌<◌}
use native.Mathlib.Nat.{le_of_mul-le-mul_right}
use native.Mathlib.Omega.{arith}
use lib.Pow.{pow_pos}
use lib.Ieee.{Float, nan, inf, fin, Format, binary64, prec, fits}
use Rattle.algebra.specs.Integer.{Z, ◌⊕◌, ◌⊗◌, ◌≈◌, nat, Within, Near}
use Rattle.algebra.proofs.Size.{size, size_cases}
use Rattle.rounding.specs.Value.{mag, signed, negative, val, Fin}
use Rattle.rounding.specs.Scale.{pow2}
use Rattle.rounding.proofs.Rounded.{Relative}
use Rattle.rounding.proofs.Double.{Close}
use Rattle.scope.specs.Numbers.{abs}

-- ---- a bound on a value and on its size
pub mag-le : (x : Float) (b : ℕ) → Within (val binary64 x) b → mag binary64 x ≤ b
unfolding val
mag-le x b h = go (negative x) (mag binary64 x) h
  where
    go : (s : Bool) (a : ℕ) → Within (signed s a) b → a ≤ b
    go false a h = omega arith
    go true a h = omega arith

pub within-mag : (x : Float) (b : ℕ) → mag binary64 x ≤ b → Within (val binary64 x) b
unfolding val
within-mag x b h = go (negative x) (mag binary64 x) h
  where
    go : (s : Bool) (a : ℕ) → a ≤ b → Within (signed s a) b
    go false a h = omega arith
    go true a h = omega arith

pub mag-square : (x : Float) → val binary64 x ⊗ val binary64 x ≈ nat (mag binary64 x * mag binary64 x)
unfolding val
mag-square x = go (negative x) (mag binary64 x)
  where
    go : (s : Bool) (a : ℕ) → signed s a ⊗ signed s a ≈ nat (a * a)
    go false a = omega arith
    go true a = omega arith

-- ---- a rounded result near v / d, where v is n or -n
pub close_sizes : {z : Float} {v : Z} {d e b : ℕ} (t : Bool) (n : ℕ) → v ≈ signed t n → Close z v d e b → (mag binary64 z * d ≤ n + e * d) × (n ≤ mag binary64 z * d + e * d)
unfolding val
close_sizes {z} {v} {d} {e} t n q r = go (negative z) t (mag binary64 z) v q r.near
  where
    go : (s t : Bool) (A : ℕ) (v : Z) → v ≈ signed t n → Near (signed s A ⊗ nat d) v (e * d) → (A * d ≤ n + e * d) × (n ≤ A * d + e * d)
    go false false A v q h = omega arith
    go false true A v q h = omega arith
    go true false A v q h = omega arith
    go true true A v q h = omega arith

-- a sum's size, of two values that are not negative
pub size_of_sum : (A B : Z) (a b : ℕ) → A ≡ nat a → B ≡ nat b → size (A ⊕ B) ≡ a + b
size_of_sum A B a b p q = elim (size_cases (A ⊕ B)) [ inl h ↦ let k = rw (p, q) at h in rw (p, q) (omega arith) | inr h ↦ let k = rw (p, q) at h in rw (p, q) (omega arith) ]

-- what is a units up to a relative error: a is at most e above it, for an e that is large against one part in 2^prec of it
pub relative_covers : (f : Format) (z : Float) (a Q e : ℕ) → 0 < Q → 2 ^ prec f ≡ Q + 1 → Relative f z a 1 → mag f z + 2 ^ prec f ≤ Q * e → a ≤ mag f z + e
relative_covers f z a Q e Q-pos E r w = go (2 ^ prec f) (mag f z) E r.below w
  where
    go : (P b : ℕ) → P ≡ Q + 1 → 2 * (P * a) ≤ 2 * (P * (b * 1)) + (2 * a + P * 1) → b + P ≤ Q * e → a ≤ b + e
    go P b E h w = le_of_mul-le-mul_right {k = Q} (omega (arith, ap (λ (z : ℕ). z * a) E, ap (λ (z : ℕ). z * b) E)) Q-pos

-- ---- the sign taken off
pub abs-fin : (x : Float) → Fin binary64 x → Fin binary64 (abs x)
unfolding Fin abs fits
abs-fin nan h = h
abs-fin (inf s) h = h
abs-fin (fin s zero e) h = h
abs-fin (fin s (suc m) e) h = h

pub abs_mag : (x : Float) → mag binary64 (abs x) ≡ mag binary64 x
unfolding mag abs
abs_mag nan = refl
abs_mag (inf s) = refl
abs_mag (fin s m e) = refl

pub abs-sign : (x : Float) → negative (abs x) ≡ false
unfolding negative abs
abs-sign nan = refl
abs-sign (inf s) = refl
abs-sign (fin s m e) = refl

-- ---- 1 is some units
pub one-pos : 0 < pow2 60
unfolding pow2
one-pos = pow_pos 1074
