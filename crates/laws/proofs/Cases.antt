-- Tests read as statements: what `||`, `&&` and `not` say of T. What a test chooses.
use Prim.Native.Nat.{ℕ, ◌+◌, ◌≤◌}
use native.Mathlib.Omega.{arith}
use native.Mathlib.Decide.{dec_lt}
use native.Mathlib.Nat.{not-le_of_lt}
use mathlib.Core.Path.{◌≡◌, refl, sym, ◌∙◌, subst}
use mathlib.Core.Logic.{◌↔◌, ◌⊎◌, inl, inr, ⊎_elim}
use mathlib.Core.Bool.{Bool, true, false, not, cond, ◌&&◌, ◌||◌}
use borrow.Author.Tests.{lt-ltb, le-ltb}
use lib.Dec.{T, eqb, ltb, eqb→eq, eqb_refl, ltb→lt, nltb→le}

pub or_iff : (a b : Bool) → T (a || b) ↔ (T a ⊎ T b)
or_iff true b = (λ h. inl h, λ h. tt)
or_iff false b = (λ h. inr h, ⊎_elim (λ h. absurd h) (λ h. h))

pub sum_iff : {A B C D : Type 0} → A ↔ C → B ↔ D → (A ⊎ B) ↔ (C ⊎ D)
sum_iff h k = (⊎_elim (λ a. inl (h.0 a)) (λ b. inr (k.0 b)), ⊎_elim (λ c. inl (h.1 c)) (λ d. inr (k.1 d)))

pub and_iff : (a b : Bool) → T (a && b) ↔ (T a × T b)
and_iff true b = (λ h. (tt, h), λ h. h.1)
and_iff false b = (λ h. absurd h, λ h. h.0)

pub not_iff : (b : Bool) → T (not b) ↔ (¬ T b)
not_iff true = (λ h. absurd h, λ h. h tt)
not_iff false = (λ h g. g, λ h. tt)

pub not_not_iff : (b : Bool) → (¬ T (not b)) ↔ T b
not_not_iff true = (λ h. tt, λ h g. g)
not_not_iff false = (λ h. h tt, λ h. absurd h)

pub eqb_iff : (m n : ℕ) → T (eqb m n) ↔ (m ≡ n)
eqb_iff m n = (eqb→eq m n, λ e. subst (λ (k : ℕ). T (eqb m k)) e (eqb_refl m))

pub not_ltb_iff : (m n : ℕ) → (¬ T (ltb m n)) ↔ (n ≤ m)
not_ltb_iff m n = (λ h. nltb→le m n ((not_iff (ltb m n)).1 h), λ l t. not-le_of_lt (ltb→lt m n t) l)

pub ltb_more : (m n : ℕ) → (m ≡ n → ⊥) → ltb m n ≡ ltb m (n + 1)
ltb_more m n h = elim (dec_lt m n) [ yes l ↦ lt-ltb m n l ∙ sym (lt-ltb m (n + 1) (omega arith)) | no g ↦ le-ltb m n (omega arith) ∙ sym (le-ltb m (n + 1) (omega arith)) ]

pub tested : (b : Bool) → Dec (T b)
tested true = yes tt
tested false = no (λ h. h)

pub is_true : (b : Bool) → T b → b ≡ true
is_true true h = refl
is_true false h = absurd h

pub is_false : (b : Bool) → ¬ T b → b ≡ false
is_false true h = absurd (h tt)
is_false false h = refl

pub same_test : (a b : Bool) → T a ↔ T b → a ≡ b
same_test true b h = sym (is_true b (h.0 tt))
same_test false b h = sym (is_false b h.1)

-- a choice is read field by field
pub chosen : {A B : Type 0} (f : A → B) (b : Bool) (x y : A) → f (cond b x y) ≡ cond b (f x) (f y)
chosen f true x y = refl
chosen f false x y = refl
