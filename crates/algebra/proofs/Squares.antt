-- Squares and orders: a square root's order, the square of a sum, and Lagrange's identity with Cauchy-Schwarz in two dimensions.
use mathlib.Core.Path.{◌≡◌}
use mathlib.Core.Logic.{inl, inr}
use mathlib.Core.List.{[], ◌∷◌}
use Prim.Native.Nat.{ℕ, ◌+◌, ◌-◌, ◌*◌, ◌≤◌, ◌<◌}
use native.Mathlib.Nat.{mul-le-mul}
use native.Mathlib.Omega.{arith}
use Rattle.algebra.specs.Integer.{Z, ◌⊕◌, ◌⊖◌, ◌⊗◌, ◌≈◌, ◌≼◌, nat}
use Rattle.algebra.proofs.Ring.{var, ◌:+◌, ◌:-◌, ◌:*◌, ring}
use Rattle.algebra.proofs.Size.{either, size-square}

-- ---- natural numbers
pub square_le : (x y : ℕ) → x * x ≤ y * y → x ≤ y
square_le x y h = elim (either y x) [ inl l ↦ absurd (omega (arith, mul-le-mul l l)) | inr l ↦ l ]

pub square-lt : (x y : ℕ) → x * x < y * y → x < y
square-lt x y h = elim (either x y) [ inl l ↦ l | inr l ↦ absurd (omega (arith, mul-le-mul l l)) ]

pub twice_product_le : (x y : ℕ) → 2 * (x * y) ≤ x * x + y * y
twice_product_le x y = elim (either x y) [ inl l ↦ go x y (omega arith) | inr l ↦ let h = go y x l in omega arith ]
  where
    go : (x y : ℕ) → x ≤ y → 2 * (x * y) ≤ x * x + y * y
    go x y l = let k : y ≡ x + (y - x) = omega arith in rw k (omega arith)

-- ---- whole numbers
pub square-positive : (a : Z) → nat 0 ≼ a ⊗ a
square-positive a = omega (arith, size-square a)

-- (a² + b²)(c² + d²) = (ac + bd)² + (ad - bc)²
pub lagrange : (a b c d : Z) → (a ⊗ a ⊕ b ⊗ b) ⊗ (c ⊗ c ⊕ d ⊗ d) ≈ (a ⊗ c ⊕ b ⊗ d) ⊗ (a ⊗ c ⊕ b ⊗ d) ⊕ (a ⊗ d ⊖ b ⊗ c) ⊗ (a ⊗ d ⊖ b ⊗ c)
lagrange a b c d =
    let x = var 0 in let y = var 1 in let z = var 2 in let w = var 3 in
    ring (a ∷ b ∷ c ∷ d ∷ []) ((x :* x :+ y :* y) :* (z :* z :+ w :* w)) ((x :* z :+ y :* w) :* (x :* z :+ y :* w) :+ (x :* w :- y :* z) :* (x :* w :- y :* z)) tt

-- (ac + bd)² ≤ (a² + b²)(c² + d²)
pub cauchy_schwarz : (a b c d : Z) → (a ⊗ c ⊕ b ⊗ d) ⊗ (a ⊗ c ⊕ b ⊗ d) ≼ (a ⊗ a ⊕ b ⊗ b) ⊗ (c ⊗ c ⊕ d ⊗ d)
cauchy_schwarz a b c d = from (a ⊗ c ⊕ b ⊗ d) (a ⊗ d ⊖ b ⊗ c) ((a ⊗ a ⊕ b ⊗ b) ⊗ (c ⊗ c ⊕ d ⊗ d)) (lagrange a b c d)
  where
    from : (u v w : Z) → w ≈ u ⊗ u ⊕ v ⊗ v → u ⊗ u ≼ w
    from u v w h = omega (arith, square-positive v)
