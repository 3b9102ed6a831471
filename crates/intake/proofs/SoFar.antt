-- A loop over a list that sets a flag where it finds what it looks for. What it looks for at an element may rest on those after it. The invariant: the list has
-- it if it was found, or if the list from place i on has it.
use Prim.Native.Nat.{ℕ, zero, suc, ◌+◌, ◌≤◌, ◌<◌}
use native.Mathlib.Numerals.{add-one}
use native.Mathlib.Omega.{arith}
use mathlib.Core.Path.{◌≡◌, refl, sym, ap, ◌∙◌}
use mathlib.Core.Logic.{◌⊎◌, ⊎_elim}
use mathlib.Core.Bool.{Bool, true, false, ◌||◌, or-true, or-false, or_assoc}
use mathlib.Core.List.{List, [], ◌∷◌}
use lib.Dec.{eqb}
use lib.ListN.{length, get_or, take, drop}
use lib.Seq.{drop-cons, drop-length, take_all}
use Rattle.scope.specs.Runs.{any}
use Rattle.scope.specs.Refusals.{repeated}

-- a flag that a turn sets where a test holds, and else leaves
abbrev pub Flag : Bool → Bool → Bool → Type 0
Flag test before after = ((test ≡ true) × (after ≡ true)) ⊎ ((test ≡ false) × (after ≡ before))

flag_is : {test after : Bool} (before : Bool) → Flag test before after → after ≡ before || test
flag_is before = ⊎_elim (λ w. w.1 ∙ rw w.0 (sym (or-true before))) (λ w. w.1 ∙ rw w.0 (sym (or-false before)))

module _ {A : Type 0} (has : List A → Bool) (l : List A) where
  abbrev pub SoFar : ℕ → Bool → Type 0
  SoFar i found = (i ≤ length l) × (has l ≡ found || has (drop i l))

  pub one_seen : (i : ℕ) {test after : Bool} (before : Bool) → i < length l → has (drop i l) ≡ test || has (drop (i + 1) l)
      → SoFar i before → Flag test before after → SoFar (i + 1) after
  one_seen i {test} before h next so came = (omega arith, so.1 ∙ rw (next, flag_is before came) (sym (or_assoc before test _)))

  pub all_seen : (i : ℕ) {found : Bool} → has [] ≡ false → length l ≤ i → SoFar i found → found ≡ has l
  all_seen i {found} empty end so =
      let here = so.0 in
      let all : i ≡ length l = omega arith in
      sym (so.1 ∙ rw (all, drop-length l, empty) (or-false found))

-- ---- the list from place i on has it at i or after
pub any_from : {A : Type 0} (p : A → Bool) (l : List A) (i : ℕ) (d : A) → i < length l → any p (drop i l) ≡ p (get_or l i d) || any p (drop (i + 1) l)
unfolding any
any_from p l i d h = rw (drop-cons l i d h, add-one)

pub repeated_from : (ks : List ℕ) (i : ℕ) → i < length ks → repeated (drop i ks) ≡ any (eqb (get_or ks i 0)) (drop (i + 1) ks) || repeated (drop (i + 1) ks)
unfolding repeated
repeated_from ks i h = rw (drop-cons ks i 0 h, add-one)

-- ---- the first i of a list have it
module _ {A : Type 0} (p : A → Bool) where
  pub any_of_none : (l : List A) → any p (take 0 l) ≡ false
  unfolding any
  any_of_none l = refl

  any-one_more : (i : ℕ) (l : List A) (d : A) → i < length l → any p (take (suc i) l) ≡ any p (take i l) || p (get_or l i d)
  unfolding any
  any-one_more i [] d h = absurd (omega arith)
  any-one_more zero (a ∷ l) d h = or-false (p a)
  any-one_more (suc i) (a ∷ l) d h = ap (λ (b : Bool). p a || b) (any-one_more i l d (omega arith)) ∙ sym (or_assoc (p a) (any p (take i l)) (p (get_or l i d)))

  pub any_more : (i : ℕ) (l : List A) (d : A) {before after : Bool} → i < length l → before ≡ any p (take i l) → after ≡ before || p (get_or l i d) → after ≡ any p (take (i + 1) l)
  any_more i l d h b e = e ∙ rw (b, add-one) (sym (any-one_more i l d h))

  pub any_of_all : (i : ℕ) (l : List A) → length l ≤ i → any p (take i l) ≡ any p l
  any_of_all i l h = ap (any p) (take_all i l h)
