-- One axis of a centre on its way from the turn to the answer: ± its own share of the turned vector plus a constant of the cluster, up to an error that each rounded step adds to.
use mathlib.Core.Bool.{Bool, true, false, not}
use Prim.Native.Nat.{ℕ, ◌+◌, ◌*◌, ◌≤◌}
use native.Mathlib.Nat.{mul-le-mul_right}
use native.Mathlib.Omega.{arith}
use lib.Dec.{T, leb}
use lib.Ieee.{Float, binary64}
use Rattle.algebra.specs.Integer.{Z, nat, Within, Near, ◌⊕◌, ◌⊖◌, ◌⊗◌, ◌≈◌}
use Rattle.rounding.specs.Value.{Fin}
use Rattle.rounding.specs.Scale.{pow2}
use Rattle.rounding.proofs.Double.{add64, sub64}
use Rattle.scope.specs.Numbers.{◌+ᶠ◌, ◌-ᶠ◌}
use Rattle.scope.specs.Promises.{units}
use Rattle.promises.proofs.gauge.Isometry.{flip}

-- x is (± u + k) within e, and within b. u and k are in squared units, of which `pow2 60` are a unit
pub record Axis (σ : Bool) (u k : Z) (x : Float) (e b : ℕ) : Type 0 where
  pub fin : Fin binary64 x
  pub within : Within (units x) b
  pub near : Near (units x ⊗ nat (pow2 60)) (flip σ u ⊕ k) (e * pow2 60)

pub loosen : {σ : Bool} {u k : Z} {x : Float} {e b : ℕ} (f d : ℕ) → e ≤ f → b ≤ d → Axis σ u k x e b → Axis σ u k x f d
loosen {σ} {u} {k} {x} {e} {b} f d l m a = record { fin = a.fin; within = wider (units x) b d m a.within; near = looser (units x ⊗ nat (pow2 60)) (flip σ u ⊕ k) e f (pow2 60) l a.near }
  where
    wider : (a : Z) (b d : ℕ) → b ≤ d → Within a b → Within a d
    wider a b d l h = omega arith

    looser : (a b : Z) (e f L : ℕ) → e ≤ f → Near a b (e * L) → Near a b (f * L)
    looser a b e f L l h = omega (arith, mul-le-mul_right L l)

-- ---- a step: x + K, and K - x
shift-near : (σ : Bool) (u k x y K : Z) (L e f : ℕ) → Near (x ⊗ nat L) (flip σ u ⊕ k) (e * L) → Near (y ⊗ nat 1) (x ⊕ K) (f * 1) → Near (y ⊗ nat L) (flip σ u ⊕ (k ⊕ K ⊗ nat L)) ((e + f) * L)
shift-near false u k x y K L e f h r = omega (arith, mul-le-mul_right L r.above, mul-le-mul_right L r.below)
shift-near true u k x y K L e f h r = omega (arith, mul-le-mul_right L r.above, mul-le-mul_right L r.below)

mirror-near : (σ : Bool) (u k x y K : Z) (L e f : ℕ) → Near (x ⊗ nat L) (flip σ u ⊕ k) (e * L) → Near (y ⊗ nat 1) (K ⊖ x) (f * 1) → Near (y ⊗ nat L) (flip (not σ) u ⊕ (K ⊗ nat L ⊖ k)) ((e + f) * L)
mirror-near false u k x y K L e f h r = omega (arith, mul-le-mul_right L r.above, mul-le-mul_right L r.below)
mirror-near true u k x y K L e f h r = omega (arith, mul-le-mul_right L r.above, mul-le-mul_right L r.below)

module _ {σ : Bool} {u k : Z} {x : Float} {e b : ℕ} (i : ℕ) (t : T (leb i 1029)) (K : Float) (p : Fin binary64 K) where
  pub shift : Within (units x ⊕ units K) (pow2 (54 + i)) → Axis σ u k x e b → Axis σ u (k ⊕ units K ⊗ nat (pow2 60)) (x +ᶠ K) (e + pow2 i) (pow2 (54 + i))
  shift w a =
      let r = add64 i t x K a.fin p w in
      record { fin = r.fin; within = r.within; near = shift-near σ u k (units x) (units (x +ᶠ K)) (units K) (pow2 60) e (pow2 i) a.near r.near }

  pub mirror : Within (units K ⊖ units x) (pow2 (54 + i)) → Axis σ u k x e b → Axis (not σ) u (units K ⊗ nat (pow2 60) ⊖ k) (K -ᶠ x) (e + pow2 i) (pow2 (54 + i))
  mirror w a =
      let r = sub64 i t K x p a.fin w in
      record { fin = r.fin; within = r.within; near = mirror-near σ u k (units x) (units (K -ᶠ x)) (units K) (pow2 60) e (pow2 i) a.near r.near }

-- ---- two circles of a cluster: the constant falls out
pub difference_near : (σ : Bool) (u v w k x y : Z) (L e f : ℕ) → u ⊖ v ≈ w → 2 * e ≤ f → Near (x ⊗ nat L) (flip σ u ⊕ k) (e * L) → Near (y ⊗ nat L) (flip σ v ⊕ k) (e * L) → Near ((x ⊖ y) ⊗ nat L) (flip σ w) (f * L)
difference_near false u v w k x y L e f d l h r = omega (arith, mul-le-mul_right L l)
difference_near true u v w k x y L e f d l h r = omega (arith, mul-le-mul_right L l)
