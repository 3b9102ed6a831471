-- The laws as a proof about f64 uses them: bounds are `pow2`, errors are whole numbers of units, and each operation takes one line.
use mathlib.Core.Path.{◌≡◌, refl, sym, ap, ◌∙◌}
use Prim.Native.Nat.{ℕ, suc, ◌+◌, ◌*◌, ◌^◌, ◌≤◌, ◌<◌}
use native.Mathlib.Nat.{add_assoc, mul_comm}
use native.Mathlib.Omega.{arith}
use lib.Dec.{T, leb, leb→le}
use lib.Pow.{pow_mono, pow-add}
use lib.Ieee.{Float, binary64, low, add, sub, mul, div, unlike}
use Rattle.algebra.specs.Integer.{Z, nat, Within, Near, ◌⊕◌, ◌⊖◌, ◌⊗◌}
use Rattle.rounding.specs.Value.{mag, signed, negative, val, Fin}
use Rattle.rounding.specs.Scale.{pow2}
use Rattle.rounding.proofs.Rounded.{Rounded, whole_error}
use Rattle.rounding.proofs.Add.{add-near, sub-near}
use Rattle.rounding.proofs.Multiply.{mul-near}
use Rattle.rounding.proofs.Divide.{div-near}

-- ---- powers of two
pub pow2-le : (i j : ℕ) → T (leb i j) → pow2 i ≤ pow2 j
unfolding pow2
pow2-le i j t = pow_mono (let h = leb→le i j t in omega arith)

pub pow2_scale : (i d : ℕ) → pow2 (i + d) ≡ 2 ^ d * pow2 i
unfolding pow2
pow2_scale i d = ap (λ (x : ℕ). 2 ^ x) (sym (add_assoc 1014 i d)) ∙ pow-add 2 (1014 + i) d ∙ mul_comm (2 ^ (1014 + i)) (2 ^ d)

-- 1 is `pow2 60` units
pub one : pow2 60 ≡ 2 ^ low binary64
unfolding pow2
one = refl

-- the product of two sizes, in units
pub pow2-mul : (a b : ℕ) → pow2 (60 + a) * pow2 b ≡ pow2 (a + b) * pow2 60
unfolding pow2
pow2-mul a b = sym (pow-add 2 (1014 + (60 + a)) (1014 + b)) ∙ ap (λ (x : ℕ). 2 ^ x) (same a b) ∙ pow-add 2 (1014 + (a + b)) 1074
  where
    same : (a b : ℕ) → 1014 + (60 + a) + (1014 + b) ≡ 1014 + (a + b) + 1074
    same a b = omega arith

-- ---- z is finite, within e of v / d, and within b
pub record Close (z : Float) (v : Z) (d e b : ℕ) : Type 0 where
  pub fin : Fin binary64 z
  pub near : Near (val binary64 z ⊗ nat d) v (e * d)
  pub within : Within (val binary64 z) b

-- up to pow2 (54 + i) the last place kept is twice pow2 i, and the error is half of that
top : (i : ℕ) → pow2 (54 + i) ≡ 2 ^ (53 + suc (1014 + i))
unfolding pow2
top i = ap (λ (x : ℕ). 2 ^ x) (next i)
  where
    next : (i : ℕ) → 1014 + (54 + i) ≡ 53 + suc (1014 + i)
    next i = omega arith

room : (i : ℕ) → T (leb i 1029) → 53 + suc (1014 + i) ≤ 2097
room i t = let h = leb→le i 1029 t in omega arith

close : (z : Float) (v : Z) (d i : ℕ) → Rounded binary64 z v d (suc (1014 + i)) → Close z v d (pow2 i) (pow2 (54 + i))
close z v d i r = record { fin = r.fin; near = unfold pow2 in whole_error (1014 + i) r; within = rw top r.within }

module _ (i : ℕ) (t : T (leb i 1029)) (x y : Float) (p : Fin binary64 x) (q : Fin binary64 y) where
  pub add64 : Within (val binary64 x ⊕ val binary64 y) (pow2 (54 + i)) → Close (add binary64 x y) (val binary64 x ⊕ val binary64 y) 1 (pow2 i) (pow2 (54 + i))
  add64 h = close (add binary64 x y) (val binary64 x ⊕ val binary64 y) 1 i (add-near binary64 x y (suc (1014 + i)) p q (room i t) (rw top at h))

  pub sub64 : Within (val binary64 x ⊖ val binary64 y) (pow2 (54 + i)) → Close (sub binary64 x y) (val binary64 x ⊖ val binary64 y) 1 (pow2 i) (pow2 (54 + i))
  sub64 h = close (sub binary64 x y) (val binary64 x ⊖ val binary64 y) 1 i (sub-near binary64 x y p q (suc (1014 + i)) (room i t) (rw top at h))

  pub mul64 : Within (val binary64 x ⊗ val binary64 y) (pow2 (54 + i) * pow2 60) → Close (mul binary64 x y) (val binary64 x ⊗ val binary64 y) (pow2 60) (pow2 i) (pow2 (54 + i))
  mul64 h = rw one (close (mul binary64 x y) (val binary64 x ⊗ val binary64 y) (2 ^ low binary64) i (mul-near binary64 x y p q (suc (1014 + i)) (room i t) (rw (top, one) at h)))

  pub div64 : 0 < mag binary64 y → mag binary64 x * pow2 60 ≤ pow2 (54 + i) * mag binary64 y
      → Close (div binary64 x y) (signed (unlike (negative x) (negative y)) (mag binary64 x * pow2 60)) (mag binary64 y) (pow2 i) (pow2 (54 + i))
  div64 b h =
      rw one
      (close (div binary64 x y) (signed (unlike (negative x) (negative y)) (mag binary64 x * 2 ^ low binary64)) (mag binary64 y) i
      (div-near binary64 x y p q b (suc (1014 + i)) (room i t) (rw (top, one) at h)))
