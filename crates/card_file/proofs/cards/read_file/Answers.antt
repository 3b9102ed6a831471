-- `read_file` meets its contract: the factor, and what follows it.
use mathlib.Core.Path.{sym, ◌∙◌}
use Rattle.laws.proofs.CardFiles.{after_factor, nothing_after}
use Rattle.refusals.proofs.Exits.{stopped, passed}
use Rattle.card_file.proofs.FieldLaws.{tagged-inside}
use Rattle.card_file.proofs.Filling.{refused_is_blank}
use Rattle.laws.proofs.NextFields.{first_is}
use Rattle.card_file.proofs.Reading.{first_is_whole}
use Rattle.card_file.specs.declared.tags.Tag.TheVariants.{Factor}
use Rattle.card_file.proofs.cards.read_file.Goals as goal

pub returns-in-Err-clause-answer : goal.returns-in-Err-clause-answer
returns-in-Err-clause-answer c =
    let e = stopped c.check_first.result _ c.check_first.ensures _ c.in-Err.is in
    rw (c.refused.ensures.refusal, e.0) (sym (nothing_after _ e.1))

pub returns-in-Err-clause-rest : goal.returns-in-Err-clause-rest
returns-in-Err-clause-rest c = refused_is_blank _ c.refused.ensures.blank

pub body_at-requires : goal.body_at-requires
body_at-requires c =
    let a = c.args in
    let accepted = passed c.check_first.result _ c.check_first.ensures _ c.in_default.is in
    tagged-inside a.file.now 0 Factor (first_is a.file.now accepted).tagged (first_is_whole a.file.now accepted)

pub returns-clause-answer : goal.returns-clause-answer
returns-clause-answer c =
    let whole = after_factor _ (passed c.check_first.result _ c.check_first.ensures _ c.in_default.is) in
    c.later_fields.ensures.answer ∙ rw (c.float_of-factor.ensures, c.word_at.ensures, c.body_at.ensures.body) (sym whole)
