-- Lets one say what a call answers as a whole: on a refusal the number, the rest 0 and everything lent as it was; on acceptance the number 0 and the value.
use Rattle.std.specs.Prelude.{ℕ, ◌≡◌, ◌↔◌, ◌≢◌}
use Rattle.scope.specs.Refusals.{Answer, refused, given}

-- A call whose checks give `number` answers `answer`: the refused form at a refusal, `value` on acceptance. `number_of` reads the number off an answer.
pub record Answers {A : Type 0} (number_of : A → ℕ) (number : ℕ) (answer : A) (refused : ℕ → A) (value : A) : Type 0 where
  pub says : number_of answer ≡ number
  pub at_refusal : number ≢ 0 → answer ≡ refused number
  pub on_acceptance : number ≡ 0 → answer ≡ value

-- An answer that is a value or a refusal, read both ways: it is the refusal k exactly if `Refused k`, and the value a exactly if `Given a`.
pub record Decides {A : Type 0} (answer : Answer A) (Refused : ℕ → Type 0) (Given : A → Type 0) : Type 0 where
  pub refuses : (k : ℕ) → k ≢ 0 → (answer ≡ refused k) ↔ Refused k
  pub gives : (a : A) → (answer ≡ given a) ↔ Given a

-- the number of an answer that is a value or a refusal
abbrev pub refusal_of : {A : Type 0} → Answer A → ℕ
refusal_of (refused k) = k
refusal_of (given a) = 0
