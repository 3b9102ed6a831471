-- Folds of minimum and maximum: the result is the start or one of the values, and it bounds them all. From an infinity it is one of the values.
use Prim.Native.Nat.{ℕ, zero, suc, ◌<◌}
use native.Mathlib.Omega.{arith}
use native.Mathlib.Decide.{dec_lt}
use mathlib.Core.Path.{◌≡◌, refl, ap, ◌∙◌, subst}
use mathlib.Core.Logic.{◌⊎◌, inl, inr}
use mathlib.Core.Bool.{Bool, true, false}
use lib.Dec.{T}
use lib.Ieee.{Float, nan, inf, fin, binary64, lt}
use Rattle.algebra.specs.Integer.{Z, ◌≼◌}
use Rattle.rounding.specs.Value.{Fin}
use Rattle.rounding.specs.Extremes.{minimum, maximum}
use Rattle.rounding.proofs.Extremes.{minimum-either, maximum-either, minimum-least, maximum_greatest}
use Rattle.scope.specs.Runs.{gather}
use Rattle.scope.specs.Promises.{units}
use Rattle.laws.proofs.Cases.{tested, is_true, is_false}
use Rattle.laws.proofs.Runs.{gather_keeps, gather-takes, gather-leaves}

-- ---- a part of a record-valued fold is the fold of the parts
module _ {A B C D : Type 0} (op : A → B → A) (op' : C → D → C) (part : A → C) (taken : B → D) (parts : (a : A) (b : B) → part (op a b) ≡ op' (part a) (taken b)) where
  pub gather_part : (z : A) (p : ℕ → Bool) (n : ℕ) (f : ℕ → B) → part (gather op z p n f) ≡ gather op' (part z) p n (λ i. taken (f i))
  unfolding gather
  gather_part z p zero f = refl
  gather_part z p (suc n) f = elim (tested (p n)) [
    | yes h ↦ rw (is_true (p n) h) (parts (gather op z p n f) (f n) ∙ ap (λ (c : C). op' c (taken (f n))) (gather_part z p n f))
    | no h ↦ rw (is_false (p n) h) (gather_part z p n f)
  ]

-- ---- one of the values that p takes
pub record Attained (p : ℕ → Bool) (n : ℕ) (f : ℕ → Float) (g : Float) : Type 0 where
  pub at : ℕ
  pub below : at < n
  pub takes : T (p at)
  pub is : g ≡ f at

-- so what holds of all of them holds of it
pub attained_has : {p : ℕ → Bool} {n : ℕ} {f : ℕ → Float} {g : Float} (P : Float → Type 0) → Attained p n f g → ((i : ℕ) → i < n → T (p i) → P (f i)) → P g
attained_has P a h = rw a.is (h a.at a.below a.takes)

-- What the fold does in one step, from the start z and on: the result is one of the two, finite, and beyond both in the order R.
pub record Steps (R : Z → Z → Type 0) (op : Float → Float → Float) (z : Float) : Type 1 where
  pub either : (P : Float → Type 0) (x y : Float) → P x → P y → P (op x y)
  pub starts : (y : Float) → Fin binary64 y → Fin binary64 (op z y) × R (units y) (units (op z y))
  pub keeps : (x y : Float) → Fin binary64 x → Fin binary64 y → R (units x) (units (op x y)) × R (units y) (units (op x y))
  pub joined : (a b c : Z) → R a b → R b c → R a c

module _ {R : Z → Z → Type 0} {op : Float → Float → Float} {z : Float} (steps : Steps R op z) (p : ℕ → Bool) (f : ℕ → Float) where
  pub start_or_attained : (n : ℕ) → (gather op z p n f ≡ z) ⊎ Attained p n f (gather op z p n f)
  start_or_attained n =
      gather_keeps op z (λ a. (a ≡ z) ⊎ Attained p n f a) p n f (inl refl)
      (λ i a h t k. steps.either (λ b. (b ≡ z) ⊎ Attained p n f b) a (f i) k (inr (record { at = i; below = h; takes = t; is = refl })))

  -- after index i is taken the result is finite, and beyond the value there
  abbrev Beyond : ℕ → Float → Type 0
  Beyond i g = Fin binary64 g × R (units (f i)) (units g)

  next : (i n : ℕ) (a : Float) → Fin binary64 (f n) → Beyond i a → Beyond i (op a (f n))
  next i n a F b = (steps.either (Fin binary64) a (f n) b.0 F, steps.joined (units (f i)) (units a) (units (op a (f n))) b.1 (steps.keeps a (f n) b.0 F).0)

  entered : (n : ℕ) → ((i : ℕ) → i < n → T (p i) → Fin binary64 (f i)) → Fin binary64 (f n) → Beyond n (op (gather op z p n f) (f n))
  entered n F here = elim (start_or_attained n) [ inl e ↦ rw e (steps.starts (f n) here) | inr a ↦ both (gather op z p n f) (attained_has (Fin binary64) a F) ]
    where
      both : (a : Float) → Fin binary64 a → Beyond n (op a (f n))
      both a h = (steps.either (Fin binary64) a (f n) h here, (steps.keeps a (f n) h here).1)

  pub gather-beyond : (n : ℕ) → ((i : ℕ) → i < n → T (p i) → Fin binary64 (f i)) → (i : ℕ) → i < n → T (p i) → Fin binary64 (gather op z p n f) × R (units (f i)) (units (gather op z p n f))
  gather-beyond zero F i h t = absurd (omega arith)
  gather-beyond (suc n) F i h t =
      let earlier : (j : ℕ) → j < n → T (p j) → Fin binary64 (f j) = λ j hj. F j (omega arith) in
      elim (tested (p n)) [
        | yes u ↦ rw (gather-takes op z p n f u) (elim (dec_lt i n) [
          | yes l ↦ next i n (gather op z p n f) (F n (omega arith) u) (gather-beyond n earlier i l t)
          | no g ↦ let e : n ≡ i = omega arith in subst (λ (j : ℕ). Beyond j (op (gather op z p n f) (f n))) e (entered n earlier (F n (omega arith) u))
        ])
        | no u ↦ rw (gather-leaves op z p n f u) (gather-beyond n earlier i (before u) t)
      ]
    where
      before : ¬ T (p n) → i < n
      before u = elim (dec_lt i n) [ yes l ↦ l | no g ↦ let e : i ≡ n = omega arith in absurd (u (subst (λ (j : ℕ). T (p j)) e t)) ]

-- ---- minimum and maximum, from an infinity or from a finite value
abbrev pub Up : Z → Z → Type 0
Up a b = a ≼ b

abbrev pub Down : Z → Z → Type 0
Down a b = b ≼ a

-- the infinities to start from give way to every finite value
from_plus : (y : Float) → Fin binary64 y → minimum (inf false) y ≡ y
unfolding minimum lt Fin
from_plus nan p = absurd p
from_plus (inf s) p = absurd p
from_plus (fin s m e) p = refl

from_minus : (y : Float) → Fin binary64 y → maximum (inf true) y ≡ y
unfolding maximum lt Fin
from_minus nan p = absurd p
from_minus (inf s) p = absurd p
from_minus (fin s m e) p = refl

-- what gives way to y is y
gives_way : (R : Z → Z → Type 0) (y g : Float) → g ≡ y → Fin binary64 y → R (units y) (units y) → Fin binary64 g × R (units y) (units g)
gives_way R y g e F r = rw e (F, r)

minimum_steps : Steps Down minimum (inf false)
minimum_steps = record {
  either = minimum-either;
  starts = λ y h. gives_way Down y (minimum (inf false) y) (from_plus y h) h (omega arith);
  keeps = minimum-least binary64;
  joined = λ a b c h k. omega arith;
}

maximum_steps : (z : Float) → ((y : Float) → Fin binary64 y → Fin binary64 (maximum z y) × (units y ≼ units (maximum z y))) → Steps Up maximum z
maximum_steps z starts = record { either = maximum-either; starts = starts; keeps = maximum_greatest binary64; joined = λ a b c h k. omega arith }

minus_steps : Steps Up maximum (inf true)
minus_steps = maximum_steps (inf true) (λ y h. gives_way Up y (maximum (inf true) y) (from_minus y h) h (omega arith))

finite_steps : (z : Float) → Fin binary64 z → Steps Up maximum z
finite_steps z Z = maximum_steps z (λ y h. (maximum-either (Fin binary64) z y Z h, (maximum_greatest binary64 z y Z h).1))

-- the result is one of the values, and they are all R it
pub record Extreme (R : Z → Z → Type 0) (p : ℕ → Bool) (n : ℕ) (f : ℕ → Float) (g : Float) : Type 0 where
  pub attained : Attained p n f g
  pub bounds : (i : ℕ) → i < n → T (p i) → R (units (f i)) (units g)

module _ (p : ℕ → Bool) (n : ℕ) (f : ℕ → Float) (F : (i : ℕ) → i < n → T (p i) → Fin binary64 (f i)) where
  -- no infinity is finite, so some value was taken
  not_start : (z g : Float) → (Fin binary64 z → ⊥) → Fin binary64 g → (g ≡ z) ⊎ Attained p n f g → Attained p n f g
  not_start z g h k (inl e) = absurd (h (subst (Fin binary64) e k))
  not_start z g h k (inr a) = a

  infinite : (s : Bool) → Fin binary64 (inf s) → ⊥
  unfolding Fin
  infinite s h = h

  pub minimum_extreme : (i : ℕ) → i < n → T (p i) → Extreme Down p n f (gather minimum (inf false) p n f)
  minimum_extreme i h t =
      let all = gather-beyond minimum_steps p f n F in
      record { attained = not_start (inf false) (gather minimum (inf false) p n f) (infinite false) (all i h t).0 (start_or_attained minimum_steps p f n); bounds = λ j hj u. (all j hj u).1 }

  pub maximum_extreme : (i : ℕ) → i < n → T (p i) → Extreme Up p n f (gather maximum (inf true) p n f)
  maximum_extreme i h t =
      let all = gather-beyond minus_steps p f n F in
      record { attained = not_start (inf true) (gather maximum (inf true) p n f) (infinite true) (all i h t).0 (start_or_attained minus_steps p f n); bounds = λ j hj u. (all j hj u).1 }

  -- from a finite value
  pub maximum_bounds : (z : Float) → Fin binary64 z → (i : ℕ) → i < n → T (p i) → units (f i) ≼ units (gather maximum z p n f)
  maximum_bounds z Z i h t = (gather-beyond (finite_steps z Z) p f n F i h t).1
