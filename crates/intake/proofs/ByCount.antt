-- A call on the first n records of an array of 64, where the count is looked at first: what its refusal says of it, and what it says that there is none.
use Prim.Native.Nat.{ℕ, ◌≤◌}
use native.Mathlib.Omega.{arith}
use mathlib.Core.Path.{◌≡◌, refl, sym, ◌∙◌}
use mathlib.Core.Bool.{Bool, true, false, cond}
use mathlib.Core.List.{List}
use lib.ListN.{length, take}
use lib.Seq.{length-take-le}
use Rattle.std.specs.Prelude.{Result, Ok, Err}
use Rattle.scope.specs.Limits.{circle_cap}
use Rattle.scope.specs.Refusals.{too_many}
use Rattle.laws.proofs.Counted.{few}
use Rattle.refusals.specs.declared.Refusal.{Refusal}
use Rattle.refusals.specs.Numbers.{number, number_if}
use Rattle.refusals.proofs.Exits.{stopped, passed}
use Rattle.intake.specs.Limits.{max_circles}

holds : (b : Bool) → (◌≡◌ {A = ℕ} (cond b 1 0) 0 → ⊥) → b ≡ true
holds true h = refl
holds false h = absurd (h refl)

holds_not : (b : Bool) → ◌≡◌ {A = ℕ} (cond b 1 0) 0 → b ≡ false
holds_not true h = absurd (omega arith)
holds_not false h = refl

module _ {A : Type 0} (r : Result A Refusal) (n : ℕ) {many : Bool} (test : many ≡ too_many n) (says : number_if r ≡ cond many 1 0) where
  number-is : number_if r ≡ cond (too_many n) 1 0
  number-is = rw test at says

  pub counted-out : (e : Refusal) → r ≡ Err e → (number e ≡ 1) × (too_many n ≡ true)
  counted-out e is =
      let s = stopped r (cond (too_many n) 1 0) number-is e is in
      let all = holds (too_many n) s.1 in
      (s.0 ∙ rw all refl, all)

  module _ (x : A) (is : r ≡ Ok x) where
    pub counted_in : too_many n ≡ false
    counted_in = holds_not (too_many n) (passed r (cond (too_many n) 1 0) number-is x is)

    module _ {B : Type 0} (l : List B) (wide : length l ≡ max_circles) where
      pub fits-array : n ≤ length l
      unfolding circle_cap
      fits-array = let room = few n counted_in in omega arith

      pub is_front : n ≡ length (take n l)
      is_front = sym (length-take-le n l fits-array)
