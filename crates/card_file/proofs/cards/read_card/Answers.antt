-- `read_card` meets its contract: the fields, and then the values.
use mathlib.Core.Path.{sym, ap}
use Rattle.std.specs.Prelude.{is_some}
use Rattle.scope.specs.CardFile.{read_card}
use Rattle.promises.proofs.saved.Cards.{cards-saved}
use Rattle.refusals.proofs.Exits.{answer-refused, answer-given}
use Rattle.card_file.specs.Answers.{shown}
use Rattle.card_file.proofs.Filling.{used_length, refused_is_blank}
use Rattle.card_file.proofs.Values.{stays-refused, with_values, given_card}
use Rattle.card_file.proofs.cards.read_card.Goals as goal

pub returns-in-Some-clause-answer : goal.returns-in-Some-clause-answer
unfolding read_card
returns-in-Some-clause-answer c =
    rw c.refused.ensures.refusal (rw c.in-Some.is at (stays-refused _ _ _ c.read_file-card.ensures.answer (ap is_some c.in-Some.is)))

pub returns-in-Some-clause-rest : goal.returns-in-Some-clause-rest
returns-in-Some-clause-rest c = refused_is_blank _ c.refused.ensures.blank

pub returns-in-Err-clause-answer : goal.returns-in-Err-clause-answer
unfolding read_card
returns-in-Err-clause-answer c =
    let read = c.read_file-card in
    rw (c.refused-in-Err.ensures.refusal, with_values _ _ _ read.ensures.answer c.in_default.is)
    (answer-refused c.check_card.result _ (c.check_card.ensures _ (used_length read.ensures.rest.areas)) _ _ c.in-Err.is)

pub returns-in-Err-clause-rest : goal.returns-in-Err-clause-rest
returns-in-Err-clause-rest c = refused_is_blank _ c.refused-in-Err.ensures.blank

pub returns-clause-answer : goal.returns-clause-answer
unfolding read_card
returns-clause-answer c =
    let read = c.read_file-card in
    let whole = c.in_default.is in
    rw (with_values _ _ _ read.ensures.answer whole, given_card _ (shown read.result) whole)
    (answer-given c.check_card.result _ (c.check_card.ensures _ (used_length read.ensures.rest.areas)) _ _ c.in_default-check_card.is)

pub returns-clause-again : goal.returns-clause-again
unfolding read_card
returns-clause-again c whole =
    let read = c.read_file-card in
    cards-saved.same_bytes c.args.file.now (shown read.result) (λ k h. (c.type_inv.file k).fits)
    (rw (with_values _ _ _ read.ensures.answer whole)
    (sym (answer-given c.check_card.result _ (c.check_card.ensures _ (used_length read.ensures.rest.areas)) _ _ c.in_default-check_card.is)))
