-- What the library's calls on a list answer, in the words of document 01's checks.
use Prim.Native.Nat.{ℕ, zero, suc, ◌+◌, ◌<◌}
use native.Mathlib.Numerals.{add-one}
use native.Mathlib.Omega.{arith}
use native.Mathlib.Decide.{ℕ_discrete}
use mathlib.Core.Path.{◌≡◌, refl, sym, ap, ◌∙◌}
use mathlib.Core.Bool.{Bool, true, false, ◌||◌, ◌&&◌, true≢false}
use mathlib.Core.List.{List, [], ◌∷◌}
use borrow.Author.Tests.{eq-eqb, ne_eqb}
use lib.Dec.{eqb, ltb}
use lib.ListN.{length, get_or}
use Rattle.std.specs.Bool.{MatchBool}
use Rattle.std.specs.List.{list_any}
use Rattle.scope.specs.Runs.{any}
use Rattle.scope.specs.Refusals.{rising, repeated}

pub any_listed : {A : Type 0} (p : A → Bool) (l : List A) → list_any p l ≡ any p l
unfolding any
any_listed p [] = refl
any_listed p (a ∷ l) = ap (λ (b : Bool). p a || b) (any_listed p l)

-- ---- an ink that is found among those after it, or not

same_either_way : (k j : ℕ) → eqb j k ≡ eqb k j
same_either_way k j = elim (ℕ_discrete k j) [
  | yes e ↦ eq-eqb j k (sym e) ∙ sym (eq-eqb k j e)
  | no d ↦ ne_eqb j k (λ e. d (sym e)) ∙ sym (ne_eqb k j d)
]

found_listed : (k : ℕ) (ks : List ℕ) → list_any (λ y. eqb y k) ks ≡ any (eqb k) ks
unfolding any
found_listed k [] = refl
found_listed k (j ∷ ks) = rw (same_either_way k j, found_listed k ks)

pub repeated_next : (l : List ℕ) (k : ℕ) (ks : List ℕ) (found : Bool) → l ≡ k ∷ ks → found ≡ list_any (λ y. eqb y k) ks → repeated l ≡ found || repeated ks
unfolding repeated
repeated_next l k ks found whole answer = rw (whole, answer, found_listed k ks)

pub none_repeated : (l : List ℕ) → length l ≡ 0 → repeated l ≡ false
unfolding repeated
none_repeated [] empty = refl
none_repeated (k ∷ l) empty = absurd (omega arith)

-- ---- each element below the next

-- each element and the next, by R
abbrev Neighbours : (ℕ → ℕ → Type 0) → List ℕ → Type 0
Neighbours R l = (k d : ℕ) → suc k < length l → R (get_or l k d) (get_or l (suc k) d)

rises : (l : List ℕ) → Neighbours (λ a b. ltb a b ≡ true) l → rising l ≡ true
unfolding rising
rises [] below = refl
rises (a ∷ []) below = refl
rises (a ∷ b ∷ l) below =
    rw (below 0 0 (omega arith))
    (rises (b ∷ l) (λ k d h. below (suc k) d (omega arith)))

both : (a b : Bool) → a && b ≡ true → (a ≡ true) × (b ≡ true)
both true b e = (refl, e)
both false b e = absurd (true≢false (sym e))

below_next : (l : List ℕ) → rising l ≡ true → Neighbours (λ a b. ltb a b ≡ true) l
unfolding rising
below_next [] r k d h = absurd (omega arith)
below_next (a ∷ []) r k d h = absurd (omega arith)
below_next (a ∷ b ∷ l) r zero d h = (both (ltb a b) (rising (b ∷ l)) r).0
below_next (a ∷ b ∷ l) r (suc k) d h =
    below_next (b ∷ l) (both (ltb a b) (rising (b ∷ l)) r).1 k d (omega arith)

pub rising_answered : (l : List ℕ) (r : Bool)
    → MatchBool r ((k d : ℕ) → k + 1 < length l → true ≡ ltb (get_or l k d) (get_or l (k + 1) d))
    ((k : ℕ) × (k + 1 < length l) × ((d : ℕ) → false ≡ ltb (get_or l k d) (get_or l (k + 1) d)))
    → r ≡ rising l
rising_answered l true all = sym (rises l (λ k d h. sym (rw add-one at (all k d (omega arith)))))
rising_answered l false one = by_answer (rising l) refl
  where
    by_answer : (b : Bool) → rising l ≡ b → false ≡ b
    by_answer false e = refl
    by_answer true e = absurd (true≢false (sym (below_next l e one.0 0 (omega (arith, one.1))) ∙ sym (rw add-one at (one.2 0))))
