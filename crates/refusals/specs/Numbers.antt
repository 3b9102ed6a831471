-- A refusal's number, and what a call's answer says in document 01's terms: a value, or the number of a refusal.
use Rattle.std.specs.Prelude.{ℕ, Bool, List, map, Result, Ok, Err}
use Rattle.refusals.specs.declared.Refusal.{Refusal}
use Rattle.refusals.specs.declared.Refusal.TheVariants.{TooManyCircles, TooManyRegions, BadCoordinate, BadRadius, MasksNotRising, BadFactor, BadSide, BadPadding, BadTag, WrongLength, CutShort, NoRoot, UnequalLists, RepeatedInk, OutputTooShort, BadProportion, BadPrice, TooManyPoints, TooFewAnswers}
use Rattle.scope.specs.Refusals.{Answer, refused, given, Checks}

-- document 01, the table of causes, and document 02, which appends to it
abbrev pub number : Refusal → ℕ
number TooManyCircles = 1
number TooManyRegions = 2
number BadCoordinate = 3
number BadRadius = 4
number MasksNotRising = 5
number BadFactor = 6
number BadSide = 7
number BadPadding = 8
number BadTag = 9
number WrongLength = 10
number CutShort = 11
number NoRoot = 12
number UnequalLists = 13
number RepeatedInk = 14
number OutputTooShort = 15
number BadProportion = 16
number BadPrice = 17
number TooManyPoints = 18
number TooFewAnswers = 19

-- the number that comes back for a check: 0 where nothing is refused
abbrev pub number_if : {A : Type 0} → Result A Refusal → ℕ
number_if (Ok _) = 0
number_if (Err r) = number r

-- an answer that is a value or a refusal
abbrev pub answer_of : {A : Type 0} → Result A Refusal → Answer A
answer_of (Ok x) = given x
answer_of (Err r) = refused (number r)

-- causes, and whether each holds, as document 01's checks
abbrev pub checks_of : List (Bool × Refusal) → Checks
checks_of cs = map (λ c. (number c.1, c.0)) cs
