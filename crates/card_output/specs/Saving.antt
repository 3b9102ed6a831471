-- The writer's answer as document 02's.
use Rattle.std.specs.Prelude.{ℕ, ◌≡◌, List, take, Result, Ok, Err}
use Rattle.std.specs.Result.{IfOk}
use Rattle.scope.specs.Refusals.{given}
use Rattle.scope.specs.CardFile.{Card, read_card}
use Rattle.scope.specs.Saving.{Saved, refused_saving}
use Rattle.refusals.specs.declared.Refusal.{Refusal}
use Rattle.refusals.specs.Numbers.{number}

-- the answer, and the lent list as it then is
abbrev pub saved : Result ℕ Refusal → List ℕ → Saved
saved (Ok n) out = record { refusal = 0; written = n; output = out }
saved (Err r) out = refused_saving out (number r)

-- what was written reads back to the card
abbrev pub ReadsBack : Card → Result ℕ Refusal → List ℕ → Type 0
ReadsBack card r out = IfOk r (λ n. read_card (take n out) ≡ given card)
