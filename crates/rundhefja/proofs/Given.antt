-- A record of C whose number is 0 holds what the call gave, so what is said of that holds of the record.
use Prim.Native.Nat.{ℕ}
use mathlib.Core.Path.{◌≡◌, sym, ap, subst, ◌∙◌}
use mathlib.Core.Bool.{true≢false}
use mathlib.Core.List.{List}
use lib.Dec.{eqb}
use Rattle.std.specs.Prelude.{Result, Ok, Err}
use Rattle.std.specs.Result.{IfOk}
use Rattle.scope.specs.Groups.{Grouping}
use Rattle.scope.specs.Layout.{Result as Outcome, refused_layout}
use Rattle.refusals.specs.declared.Refusal.{Refusal}
use Rattle.refusals.specs.Numbers.{number}
use Rattle.refusals.proofs.Exits.{number-there}
use Rattle.clustering.specs.declared.Clusters as clustering
use Rattle.clustering.specs.Answers.{grouped}
use Rattle.layout.specs.declared.normalize.Arrangement.{Arrangement}
use Rattle.layout.specs.Answers as layout
use Rattle.rundhefja.specs.declared.answers.Clusters.{Clusters}
use Rattle.rundhefja.specs.declared.answers.Laid.{Laid}
use Rattle.rundhefja.specs.Answers.{grouping_of, outcome_of}

-- no refusal has the number 0
none : {A : Type 0} (k : ℕ) (r : Refusal) → k ≡ number r → k ≡ 0 → A
none k r e z = absurd (true≢false (ap (λ (n : ℕ). eqb n 0) (sym z ∙ e) ∙ number-there r))

pub numbers-given : (P : List ℕ → Type 0) (answer : Result clustering.Clusters Refusal) (r : Clusters) → grouping_of r ≡ grouped answer
    → IfOk answer (λ c. P c.numbers) → r.refusal ≡ 0 → P r.numbers
numbers-given P (Ok c) r e h z = subst P (sym (ap (λ (g : Grouping). g.numbers) e)) h
numbers-given P (Err k) r e h z = none r.refusal k (ap (λ (g : Grouping). g.refusal) e) z

pub outcome-given : (P : Outcome → Type 0) (answer : Result Arrangement Refusal) (r : Laid) → outcome_of r ≡ layout.result_of answer
    → IfOk answer (λ a. P (layout.outcome_of a)) → r.refusal ≡ 0 → P (outcome_of r)
unfolding refused_layout
outcome-given P (Ok a) r e h z = subst P (sym e) h
outcome-given P (Err k) r e h z = none r.refusal k (ap (λ (o : Outcome). o.refusal) e) z
