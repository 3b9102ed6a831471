-- `field_body` meets its contract.
use mathlib.Core.Path.{sym}
use borrow.Author.Tests.{ne_eqb}
use Rattle.scope.specs.CardFile.{field_body}
use Rattle.refusals.proofs.Exits.{stopped}
use Rattle.card_file.proofs.FieldLaws.{tagged-inside, accepted_is_whole}
use Rattle.card_file.proofs.fields.field_body.Goals as goal

pub body_at-requires : goal.body_at-requires
body_at-requires c =
    let a = c.args in
    let checked = c.in-Ok.ensures in
    tagged-inside a.file.now a.at _ checked.tag (accepted_is_whole _ (sym checked.number))

pub returns-in-Ok-clause-body : goal.returns-in-Ok-clause-body
unfolding field_body
returns-in-Ok-clause-body c = rw (← c.in-Ok.ensures.number) c.body_at.ensures.body

pub returns-in-Err-clause-body : goal.returns-in-Err-clause-body
unfolding field_body
returns-in-Err-clause-body c =
    let e = stopped c.check_field.result _ c.check_field.ensures.number _ c.in-Err.is in
    rw (ne_eqb _ _ e.1)
