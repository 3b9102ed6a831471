-- The size of a whole number as a natural one, and bounds on products: what `omega` does not see by itself.
use mathlib.Core.Path.{◌≡◌}
use mathlib.Core.Logic.{◌⊎◌, inl, inr}
use mathlib.Core.Bool.{Bool, true, false, not}
use Prim.Native.Nat.{ℕ, ◌+◌, ◌-◌, ◌*◌, ◌≤◌, ◌<◌}
use native.Mathlib.Nat.{mul-le-mul}
use native.Mathlib.Omega.{arith}
use lib.Dec.{T, ltb, ltb→lt, nltb→le}
use Rattle.algebra.specs.Integer.{Z, ◌⊖◌, ◌⊗◌, ◌≈◌, nat, Within, Near}

pub either : (a b : ℕ) → (a < b) ⊎ (b ≤ a)
either a b = go (ltb a b) (ltb→lt a b) (nltb→le a b)
  where
    go : (t : Bool) → (T t → a < b) → (T (not t) → b ≤ a) → (a < b) ⊎ (b ≤ a)
    go true h k = inl (h tt)
    go false h k = inr (k tt)

-- a is d or -d
abbrev Sized : Z → ℕ → Type 0
Sized a d = (a.p ≡ a.n + d) ⊎ (a.n ≡ a.p + d)

sized : (a : Z) → (d : ℕ) × Sized a d
sized a = elim (either a.p a.n) [ inl h ↦ (a.n - a.p, inr (omega arith)) | inr h ↦ (a.p - a.n, inl (omega arith)) ]

-- |a|
pub size : Z → ℕ
size a = (sized a).0

pub size_cases : (a : Z) → (a.p ≡ a.n + size a) ⊎ (a.n ≡ a.p + size a)
unfolding size
size_cases a = (sized a).1

pub size-square : (a : Z) → a ⊗ a ≈ nat (size a * size a)
size-square a = go (size a) (size_cases a)
  where
    go : (d : ℕ) → Sized a d → a ⊗ a ≈ nat (d * d)
    go d (inl h) = rw h (omega arith)
    go d (inr h) = rw h (omega arith)

pub size-within : (a : Z) → Within a (size a)
size-within a = elim (size_cases a) [ inl h ↦ omega arith | inr h ↦ omega arith ]

pub size-le : (a : Z) (b : ℕ) → Within a b → size a ≤ b
size-le a b w = elim (size_cases a) [ inl h ↦ omega arith | inr h ↦ omega arith ]

-- ---- a product of bounds
pub within-mul : {a b : Z} {A B : ℕ} → Within a A → Within b B → Within (a ⊗ b) (A * B)
within-mul {a} {b} {A} {B} h k = go (size a) (size b) (size_cases a) (size_cases b)
  where
    go : (d e : ℕ) → Sized a d → Sized b e → Within (a ⊗ b) (A * B)
    go d e (inl p) (inl q) = let x : d * e ≤ A * B = mul-le-mul (omega arith) (omega arith) in rw (p, q) (omega (arith, x))
    go d e (inl p) (inr q) = let x : d * e ≤ A * B = mul-le-mul (omega arith) (omega arith) in rw (p, q) (omega (arith, x))
    go d e (inr p) (inl q) = let x : d * e ≤ A * B = mul-le-mul (omega arith) (omega arith) in rw (p, q) (omega (arith, x))
    go d e (inr p) (inr q) = let x : d * e ≤ A * B = mul-le-mul (omega arith) (omega arith) in rw (p, q) (omega (arith, x))

pub within_difference : {a b : Z} {e : ℕ} → Near a b e → Within (a ⊖ b) e
within_difference {a} {b} {e} h = omega arith
