-- What a refusal that is passed on says.
use Prim.Native.Nat.{ℕ, zero, suc}
use mathlib.Core.Path.{◌≡◌, refl, sym, ap, ◌∙◌}
use mathlib.Core.Bool.{Bool, true, false, cond, true≢false}
use lib.Dec.{eqb}
use Rattle.std.specs.Prelude.{Result, Ok, Err}
use Rattle.scope.specs.Refusals.{Answer, refused, given, answer}
use Rattle.refusals.specs.declared.Refusal.{Refusal}
use Rattle.refusals.specs.declared.Refusal.TheVariants.{TooManyCircles, TooManyRegions, BadCoordinate, BadRadius, MasksNotRising, BadFactor, BadSide, BadPadding, BadTag, WrongLength, CutShort, NoRoot, UnequalLists, RepeatedInk, OutputTooShort, BadProportion, BadPrice, TooManyPoints, TooFewAnswers}
use Rattle.refusals.specs.Numbers.{number, number_if}

-- no refusal has the number 0
pub number-there : (r : Refusal) → eqb (number r) 0 ≡ false
number-there TooManyCircles = refl
number-there TooManyRegions = refl
number-there BadCoordinate = refl
number-there BadRadius = refl
number-there MasksNotRising = refl
number-there BadFactor = refl
number-there BadSide = refl
number-there BadPadding = refl
number-there BadTag = refl
number-there WrongLength = refl
number-there CutShort = refl
number-there NoRoot = refl
number-there UnequalLists = refl
number-there RepeatedInk = refl
number-there OutputTooShort = refl
number-there BadProportion = refl
number-there BadPrice = refl
number-there TooManyPoints = refl
number-there TooFewAnswers = refl

-- checks that end with a later cause: it decides where the earlier ones pass
module _ {A : Type 0} (r : Result A Refusal) (before whole later : ℕ) (says : number_if r ≡ before) (all : whole ≡ cond (eqb before 0) later before) where
  pub passed_on : (e : Refusal) → r ≡ Err e → number e ≡ whole
  passed_on e is = let there : number e ≡ before = sym (ap number_if is) ∙ says in sym (rw (← there, number-there e) at all)

  pub let_pass : (x : A) → r ≡ Ok x → later ≡ whole
  let_pass x is = let none : 0 ≡ before = sym (ap number_if is) ∙ says in sym (rw (← none) at all)

-- an answer after checks: the refusal's number, or the value
module _ {A B : Type 0} (r : Result A Refusal) (k : ℕ) (says : number_if r ≡ k) (x : B) where
  pub answer-refused : (e : Refusal) → r ≡ Err e → refused (number e) ≡ answer k x
  unfolding answer
  answer-refused e is = let there : number e ≡ k = sym (ap number_if is) ∙ says in of_number (number e) k there (number-there e)
    where
      of_number : (n k : ℕ) → n ≡ k → eqb n 0 ≡ false → refused n ≡ answer k x
      of_number zero k e t = absurd (true≢false t)
      of_number (suc n) k e t = rw (← e)

  pub answer-given : (u : A) → r ≡ Ok u → given x ≡ answer k x
  unfolding answer
  answer-given u is = let none : 0 ≡ k = sym (ap number_if is) ∙ says in rw (← none)

-- the number that checks give: not 0 where they refuse, and 0 where they pass
module _ {A : Type 0} (r : Result A Refusal) (k : ℕ) (says : number_if r ≡ k) where
  pub stopped : (e : Refusal) → r ≡ Err e → (number e ≡ k) × (k ≡ 0 → ⊥)
  stopped e is =
      let there : number e ≡ k = sym (ap number_if is) ∙ says in
      (there, λ (z : k ≡ 0). true≢false (ap (λ (n : ℕ). eqb n 0) (sym (there ∙ z)) ∙ number-there e))

  pub passed : (u : A) → r ≡ Ok u → k ≡ 0
  passed u is = sym says ∙ ap number_if is
