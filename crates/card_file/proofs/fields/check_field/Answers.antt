-- `check_field` meets its contract: the checks in their order.
use mathlib.Core.Path.{sym, ap, ◌∙◌}
use Rattle.std.proofs.lemmas.Result.{err_from_is_err_and}
use Rattle.scope.specs.Refusals.{front_to_back}
use Rattle.scope.specs.CardFile.{field_refusal}
use Rattle.refusals.specs.Numbers.{number_if}
use Rattle.card_file.proofs.FieldLaws.{known}
use Rattle.card_file.proofs.fields.check_field.Goals as goal

pub returns-then-is_head_cut-clause-number : goal.returns-then-is_head_cut-clause-number
unfolding field_refusal front_to_back
returns-then-is_head_cut-clause-number c = rw (← c.is_head_cut.ensures, c.if-is_head_cut.true)

pub returns-in_default-clause-number : goal.returns-in_default-clause-number
unfolding field_refusal front_to_back
returns-in_default-clause-number c =
    let unknown = rw c.in_default.is at c.tag_at.ensures in
    rw (← c.is_head_cut.ensures, c.if-is_head_cut.false, unknown)

pub returns-in_err-check_length-clause-number : goal.returns-in_err-check_length-clause-number
unfolding field_refusal front_to_back
returns-in_err-check_length-clause-number c =
    let p = err_from_is_err_and c.from_residual.result c.from_residual.ensures.1 in
    let tagged = rw c.in-Some.is at c.tag_at.ensures in
    rw (p.1, p.2, ← c.is_head_cut.ensures, c.if-is_head_cut.false, known _ _ tagged)
    (sym (ap number_if c.in_err-check_length.was) ∙ c.check_length.ensures)

pub returns-clause-number : goal.returns-clause-number
unfolding field_refusal front_to_back
returns-clause-number c =
    let tagged = rw c.in-Some.is at c.tag_at.ensures in
    rw (← c.is_head_cut.ensures, c.if-is_head_cut.false, known _ _ tagged) c.in_ok-check_length.ensures
