-- `check_layout` meets its contract: a card's checks, and then the proportion's.
use mathlib.Core.Path.{◌≡◌, refl, ap, ◌∙◌}
use Rattle.std.proofs.lemmas.Result.{err_from_is_err_and}
use Rattle.refusals.specs.Numbers.{number}
use Rattle.refusals.proofs.Exits.{passed_on, let_pass}
use Rattle.scope.specs.Refusals.{card_refusal, layout_refusal}
use Rattle.intake.proofs.Checked.{proportion_after_card}
use Rattle.intake.proofs.checks.check_layout.Goals as goal

pub returns-in_err-check_card : goal.returns-in_err-check_card
unfolding layout_refusal card_refusal
returns-in_err-check_card c =
    let p = err_from_is_err_and c.from_residual.result c.from_residual.ensures.1 in
    let e : number p.0 ≡ number c.in_err-check_card.field-0.0 = ap number p.2 in
    rw p.1 (e ∙ passed_on c.check_card.result _ _ _ (c.check_card.ensures c.args.areas.now refl) (proportion_after_card _ _ _ _ _ _ _ _ _) _ c.in_err-check_card.was)

pub returns : goal.returns
unfolding layout_refusal card_refusal
returns c =
    c.refuse_if.ensures ∙ rw c.bad_proportion.ensures
    (let_pass c.check_card.result _ _ _ (c.check_card.ensures c.args.areas.now refl) (proportion_after_card _ _ _ _ _ _ _ _ _) _ c.in_ok-check_card.was)
