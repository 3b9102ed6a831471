-- Floats within a bound, and what the operations of the packing make of them: a half is exact but for half of a unit, a middle has one rounding more.
use Prim.Native.Nat.{ℕ, ◌+◌, ◌*◌, ◌^◌, ◌≤◌, ◌<◌}
use native.Mathlib.Omega.{arith}
use mathlib.Core.Path.{◌≡◌, refl, subst, sym}
use mathlib.Core.Bool.{Bool, true, false}
use lib.Dec.{T, leb}
use lib.Ieee.{Float, binary64, low, add, div, neg, fits}
use lib.Pow.{pow_pos}
use Rattle.algebra.specs.Integer.{Z, nat, opp, Within, Near, ◌⊕◌, ◌⊗◌, ◌≈◌, ◌≼◌, ◌≺◌}
use Rattle.rounding.specs.Value.{mag, signed, negative, val, Fin}
use Rattle.rounding.specs.Scale.{pow2}
use Rattle.rounding.proofs.Value.{val-mag}
use Rattle.rounding.proofs.Negate.{neg-val, neg-fin}
use Rattle.rounding.proofs.Halve.{over_two}
use Rattle.rounding.proofs.Double.{add64}
use Rattle.scope.specs.Numbers.{nought, two}
use Rattle.scope.specs.Gauge.{middle}
use Rattle.scope.specs.Promises.{units}

-- finite, and at most b units in size
pub record Bounded (b : ℕ) (x : Float) : Type 0 where
  pub fin : Fin binary64 x
  pub within : Within (units x) b

-- and not negative
pub record Upto (b : ℕ) (x : Float) : Type 0 where
  pub fin : Fin binary64 x
  pub sign : negative x ≡ false
  pub within : Within (units x) b

pub bounded : {b : ℕ} {x : Float} → Upto b x → Bounded b x
bounded h = record { fin = h.fin; within = h.within }

pub wider : {a b : ℕ} {x : Float} → a ≤ b → Bounded a x → Bounded b x
wider {a} {b} {x} l h = record { fin = h.fin; within = let w = h.within in omega arith }

pub further : {a b : ℕ} {x : Float} → a ≤ b → Upto a x → Upto b x
further {a} {b} {x} l h = record { fin = h.fin; sign = h.sign; within = let w = h.within in omega arith }

pub nought_upto : (b : ℕ) → Upto b nought
unfolding Fin fits negative val mag
nought_upto b = record { fin = tt; sign = refl; within = omega arith }

-- ---- sizes
pub within-mag : (x : Float) (b : ℕ) → negative x ≡ false → mag binary64 x ≤ b → Within (units x) b
within-mag x b s h = rw (val-mag binary64 x s) (omega arith)

pub pow2-positive : (i : ℕ) → 0 < pow2 i
unfolding pow2
pow2-positive i = pow_pos (1014 + i)

pub not_below : (x : Float) → negative x ≡ false → nat 0 ≼ units x
not_below x s = rw (val-mag binary64 x s) (omega arith)

-- a rounding of a whole number of units, its divisor 1 left out
pub near_of : {a b : Z} {e : ℕ} → Near (a ⊗ nat 1) b (e * 1) → Near a b e
near_of {a} {b} {e} h = omega arith

pub joined : (a b c : Z) → a ≼ b → b ≼ c → a ≼ c
joined a b c h k = omega arith

-- ---- signs
-- a value above 0 has no sign
pub positive-sign : (s : Bool) (a : ℕ) (z : Z) → signed s a ≈ z → nat 0 ≺ z → s ≡ false
positive-sign false a z h k = refl
positive-sign true a z h k = absurd (omega arith)

-- ---- the opposite
pub opposite : {b : ℕ} {x : Float} → Bounded b x → Bounded b (neg x)
opposite {b} {x} h = record { fin = neg-fin binary64 x h.fin; within = subst (λ (z : Z). Within z b) (sym (neg-val binary64 x)) (turned (units x) h.within) }
  where
    turned : (a : Z) → Within a b → Within (opp a) b
    turned a w = omega arith

-- ---- a half
pub record IsHalf (z : Float) (x : Z) : Type 0 where
  pub fin : Fin binary64 z
  pub near : Near (units z ⊕ units z) x 1

pub two-finite : Fin binary64 two
unfolding Fin fits
two-finite = tt

pub two_size : mag binary64 two ≡ 2 * 2 ^ low binary64
unfolding mag
two_size = refl

pub two-sign : negative two ≡ false
unfolding negative
two-sign = refl

pub half_is : (x : Float) → Fin binary64 x → IsHalf (div binary64 x two) (units x)
half_is x p = let h = over_two binary64 x two p two-finite two-sign two_size in record { fin = h.fin; near = unfold val in h.near }

-- ---- the middle of two numbers
pub middle_is : (i : ℕ) → T (leb i 1029) → (b : ℕ) → 2 * b ≤ pow2 (54 + i) → (lo hi : Float) → Bounded b lo → Bounded b hi
    → Fin binary64 (middle lo hi) × Near (units (middle lo hi) ⊕ units (middle lo hi)) (units lo ⊕ units hi) (2 * pow2 i)
middle_is i t b k lo hi hl hh =
    let lw = hl.within in let hw = hh.within in
    let a = add64 i t lo hi hl.fin hh.fin (omega arith) in
    let m = half_is (add binary64 lo hi) a.fin in
    (m.fin, half_of (units lo ⊕ units hi) (units (add binary64 lo hi)) (units (middle lo hi)) (pow2 i) (pow2-positive i) (near_of a.near) m.near)
  where
    half_of : (s a m : Z) (u : ℕ) → 0 < u → Near a s u → Near (m ⊕ m) a 1 → Near (m ⊕ m) s (2 * u)
    half_of s a m u p h k = omega arith

-- it is within a unit's rounding of the bound
pub middle_bounded : (i : ℕ) → T (leb i 1029) → (b : ℕ) → 2 * b ≤ pow2 (54 + i) → (lo hi : Float) → Bounded b lo → Bounded b hi → Bounded (b + pow2 i) (middle lo hi)
middle_bounded i t b k lo hi hl hh =
    let m = middle_is i t b k lo hi hl hh in
    record { fin = m.0; within = between (units lo) (units hi) (units (middle lo hi)) hl.within hh.within m.1 }
  where
    between : (lo hi m : Z) → Within lo b → Within hi b → Near (m ⊕ m) (lo ⊕ hi) (2 * pow2 i) → Within m (b + pow2 i)
    between lo hi m h k n = omega arith
