-- `read_field` meets its contract.
use mathlib.Core.Path.{sym}
use Rattle.std.proofs.lemmas.Result.{err_from_is_err_and}
use Rattle.scope.specs.Refusals.{answer}
use Rattle.scope.specs.CardFile.{read_field, field_of}
use Rattle.refusals.proofs.Exits.{answer-refused}
use Rattle.card_file.proofs.FieldLaws.{tagged-inside, accepted_is_whole}
use Rattle.card_file.proofs.fields.read_field.Goals as goal

pub returns-in_err-tag : goal.returns-in_err-tag
unfolding read_field
returns-in_err-tag c =
    let p = err_from_is_err_and c.from_residual.result c.from_residual.ensures.1 in
    rw (p.1, p.2) (answer-refused c.check_field.result _ c.check_field.ensures.number _ _ c.in_err-tag.was)

pub body_at-body-requires : goal.body_at-body-requires
body_at-body-requires c =
    let a = c.args in
    let checked = c.in_ok-tag.ensures in
    tagged-inside a.file.now a.at _ checked.tag (accepted_is_whole _ (sym checked.number))

pub returns-in-Factor : goal.returns-in-Factor
unfolding read_field answer field_of
returns-in-Factor c =
    let checked = c.in_ok-tag.ensures in
    rw (← checked.number, checked.tag, c.in-Factor.is, c.float_of.ensures, c.word_at.ensures, c.body_at-body.ensures.body)

pub returns-in-Circle : goal.returns-in-Circle
unfolding read_field answer field_of
returns-in-Circle c =
    let checked = c.in_ok-tag.ensures in
    rw (← checked.number, checked.tag, c.in-Circle.is, c.circle_of.ensures, c.body_at-body.ensures.body)

pub returns-in-Region : goal.returns-in-Region
unfolding read_field answer field_of
returns-in-Region c =
    let checked = c.in_ok-tag.ensures in
    rw (
      ← checked.number,
      checked.tag,
      c.in-Region.is,
      c.word_at-in-Region.ensures,
      c.float_of-in-Region.ensures,
      c.word_at-in-Region-2.ensures,
      c.body_at-body.ensures.body,
    )
