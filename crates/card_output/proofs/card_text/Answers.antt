-- `card_text` meets its contract: too long, refused, or laid out.
use mathlib.Core.Path.{sym, ◌∙◌}
use Rattle.scope.specs.Limits.{input_cap}
use Rattle.card_file.proofs.Values.{refused_card, given_card}
use Rattle.card_output.proofs.Texts.{long-text, refusal-text, given-text, values-accepted}
use Rattle.card_output.proofs.card_text.Goals as goal

pub returns-then-input-gt-MAX_INPUT : goal.returns-then-input-gt-MAX_INPUT
unfolding input_cap
returns-then-input-gt-MAX_INPUT c = rw (← long-text _ c.if-input-gt-MAX_INPUT.true) c.refused_text.ensures

pub returns-in-Some : goal.returns-in-Some
unfolding input_cap
returns-in-Some c =
    let read = c.read_card-card.ensures.answer in
    rw (← refusal-text _ c.if-input-gt-MAX_INPUT.false _ (sym (refused_card _ _ _ c.in-Some.is) ∙ read)) c.refused_text-in-Some.ensures

pub layout_text-requires : goal.layout_text-requires
layout_text-requires c =
    let read = c.read_card-card.ensures in
    (read.rest, values-accepted c.args.input.now _ (sym (given_card _ _ c.in-None.is) ∙ read.answer))

pub returns-in-None : goal.returns-in-None
unfolding input_cap
returns-in-None c =
    let read = c.read_card-card.ensures.answer in
    rw (← given-text _ c.if-input-gt-MAX_INPUT.false _ (sym (given_card _ _ c.in-None.is) ∙ read)) c.layout_text.ensures
