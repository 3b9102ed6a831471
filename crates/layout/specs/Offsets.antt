-- The offset step's answers as document 01's: a parent's number, a moved circle or none, and the circles at a moment of the step.
use Rattle.std.specs.Prelude as prelude
use Rattle.std.specs.Prelude.{ℕ, ◌<◌, ◌≡◌, cond, List, ltb, get_or}
use Rattle.std.proofs.Math.Option.{Option, none, some}
use Rattle.shapes.specs.declared.circle.Circle.{Circle}
use Rattle.scope.specs.Links.{Region}
use Rattle.scope.specs.Offset.{parent_of, Moved}

-- a number below n is the parent's, any other says that there is none
unfoldable pub numbered : ℕ → ℕ → Option ℕ
numbered n p = cond (ltb p n) (some p) none

-- an answer of a function, as the definitions have it
abbrev pub maybe : {A : Type 0} → prelude.Option A → Option A
maybe (prelude.Some x) = some x
maybe prelude.None = none

abbrev pub parent_at : ℕ → List ℕ → ℕ → Option ℕ
parent_at n ps i = numbered n (get_or ps i 0)

-- a list of parents' numbers: those of the circles below n
abbrev pub ParentsOf : ℕ → List Region → List ℕ → Type 0
ParentsOf n rs ps = (i : ℕ) → i < n → parent_at n ps i ≡ parent_of n rs i

-- the circles and the mask at a moment of the step
abbrev pub moment : List Circle → ℕ → Moved
moment cs mask = record { circles = cs; mask = mask }
