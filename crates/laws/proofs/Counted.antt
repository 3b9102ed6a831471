-- A count of records, in every call alike: it is within the cap or refused by 1, and then no record is looked at.
use Prim.Native.Nat.{ℕ, ◌≤◌}
use native.Mathlib.Omega.{arith}
use mathlib.Core.Path.{◌≡◌, refl, sym, ◌∙◌, ap}
use mathlib.Core.Bool.{Bool, true, false}
use mathlib.Core.List.{List, ◌∷◌}
use borrow.Author.Tests.{ltb-false}
use Rattle.scope.specs.Limits.{circle_cap}
use Rattle.scope.specs.Refusals.{causes, Checks, cause_holds, first, refusal, too_many}
use Rattle.scope.specs.Twins.{unless_many}

pub few : (n : ℕ) → too_many n ≡ false → n ≤ circle_cap
unfolding too_many
few n h = ltb-false circle_cap n h

pub by_many : {P : Type 0} (n : ℕ) → (too_many n ≡ true → P) → (too_many n ≡ false → P) → P
by_many {P} n many few = by_test (too_many n) refl
  where
    by_test : (b : Bool) → too_many n ≡ b → P
    by_test true h = many h
    by_test false h = few h

-- a number 0 is not that of too many
pub none-counted : (n k : ℕ) → unless_many n 1 k ≡ 0 → (too_many n ≡ false) × (n ≤ circle_cap) × (k ≡ 0)
none-counted n k z = by_many n (λ h. let one : ◌≡◌ {A = ℕ} 1 0 = rw h at z in absurd (omega arith)) (λ h. (h, few n h, rw h at z))

-- what is answered of as many records as a run has, unless there are too many, is answered of the run
pub of_run : {A X : Type 0} (n : ℕ) (cs shown : List A) (f : List A → X) (bad x : X) → (too_many n ≡ false → shown ≡ cs) → (too_many n ≡ true → f cs ≡ bad)
    → x ≡ unless_many n bad (f shown) → x ≡ f cs
of_run n cs shown f bad x back many e = by_many n (λ h. rw h at e ∙ sym (many h)) (λ h. rw h at e ∙ ap f (back h))

-- the number of a call's checks, the count's first: it may be that of another count m as well, which is no larger
pub at_once : (rest : Checks) → refusal ((1, true) ∷ rest) ≡ 1
unfolding refusal first cause_holds causes
at_once rest = refl

pub counted-number : (n m : ℕ) (rest : Checks) → (too_many n ≡ false → too_many m ≡ false) → refusal ((1, too_many n) ∷ rest) ≡ unless_many n 1 (refusal ((1, too_many m) ∷ rest))
counted-number n m rest fewer = by_many n (λ h. rw h (at_once rest)) (λ h. rw (h, fewer h))
