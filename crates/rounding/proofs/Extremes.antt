-- Minimum and maximum of finite values are the least and the greatest; what is no number as the second operand is passed over.
use mathlib.Core.Path.{◌≡◌, refl}
use mathlib.Core.Logic.{◌⊎◌, inl, inr}
use mathlib.Core.Bool.{Bool, true, false, not, cond}
use native.Mathlib.Omega.{arith}
use Prim.Native.Nat.{◌+◌}
use lib.Dec.{T, T_not}
use lib.Ieee.{Float, nan, inf, fin, Format, lt}
use Rattle.algebra.specs.Integer.{◌≼◌}
use Rattle.algebra.proofs.Size.{either}
use Rattle.rounding.specs.Value.{val, Fin}
use Rattle.rounding.specs.Extremes.{minimum, maximum}
use Rattle.rounding.proofs.Order.{lt_is}

-- ---- one choice serves both: y where it is beyond x, else x
chosen : (P : Float → Type 0) (b : Bool) (x y : Float) → P x → P y → P (cond b y x)
chosen P true x y p q = q
chosen P false x y p q = p

one_of : (b : Bool) (x y : Float) → (cond b y x ≡ x) ⊎ (cond b y x ≡ y)
one_of true x y = inr refl
one_of false x y = inl refl

extreme : (R : Float → Float → Type 0) (b : Bool) (x y : Float) → ((u : Float) → R u u) → (T b → R y x) → (T (not b) → R x y) → R (cond b y x) x × R (cond b y x) y
extreme R true x y r h k = (h tt, r y)
extreme R false x y r h k = (r x, k tt)

not_lt : (f : Format) (x y : Float) → Fin f x → Fin f y → T (not (lt x y)) → val f y ≼ val f x
not_lt f x y p q t = elim (either ((val f x).p + (val f y).n) ((val f y).p + (val f x).n)) [ inl h ↦ absurd (T_not (lt x y) t ((lt_is f x y p q).1 h)) | inr h ↦ h ]

-- ---- the laws
pub maximum_one_of : (x y : Float) → (maximum x y ≡ x) ⊎ (maximum x y ≡ y)
unfolding maximum
maximum_one_of x y = one_of (lt x y) x y

pub minimum-either : (P : Float → Type 0) (x y : Float) → P x → P y → P (minimum x y)
unfolding minimum
minimum-either P x y p q = chosen P (lt y x) x y p q

pub maximum-either : (P : Float → Type 0) (x y : Float) → P x → P y → P (maximum x y)
unfolding maximum
maximum-either P x y p q = chosen P (lt x y) x y p q

pub minimum-least : (f : Format) (x y : Float) → Fin f x → Fin f y → (val f (minimum x y) ≼ val f x) × (val f (minimum x y) ≼ val f y)
unfolding minimum
minimum-least f x y p q = extreme (λ u v. val f u ≼ val f v) (lt y x) x y (λ u. omega arith) (λ t. let h = (lt_is f y x q p).0 t in omega arith) (λ t. not_lt f y x q p t)

pub maximum_greatest : (f : Format) (x y : Float) → Fin f x → Fin f y → (val f x ≼ val f (maximum x y)) × (val f y ≼ val f (maximum x y))
unfolding maximum
maximum_greatest f x y p q = extreme (λ u v. val f v ≼ val f u) (lt x y) x y (λ u. omega arith) (λ t. let h = (lt_is f x y p q).0 t in omega arith) (λ t. not_lt f x y p q t)

-- ---- no number
lt-nan : (x : Float) → lt x nan ≡ false
unfolding lt
lt-nan nan = refl
lt-nan (inf s) = refl
lt-nan (fin s m e) = refl

pub minimum-nan : (x : Float) → (minimum x nan ≡ x) × (minimum nan x ≡ nan)
unfolding minimum lt
minimum-nan x = (refl, rw lt-nan)

pub maximum-nan : (x : Float) → (maximum x nan ≡ x) × (maximum nan x ≡ nan)
unfolding maximum lt
maximum-nan x = (rw lt-nan, refl)
