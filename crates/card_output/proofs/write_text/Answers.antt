-- `write_text` meets its contract: the used part of the text's array is what is put.
use native.Mathlib.Omega.{arith}
use mathlib.Core.Path.{sym, ◌∙◌}
use Rattle.std.proofs.lemmas.Result.{err_from_is_err_and}
use Rattle.scope.specs.Print.{card_text}
use Rattle.laws.proofs.AfterRefusal.{write_text-answers}
use Rattle.refusals.proofs.Exits.{stopped, passed}
use Rattle.card_output.proofs.Putting.{put_front, text-fits, text_part}
use Rattle.card_output.proofs.Short.{not_short}
use Rattle.card_output.proofs.Texts.{text-number}
use Rattle.card_output.proofs.write_text.Goals as goal

pub returns-in_err-refuse_if : goal.returns-in_err-refuse_if
returns-in_err-refuse_if c =
    let a = c.args in
    let p = err_from_is_err_and c.from_residual.result c.from_residual.ensures.1 in
    let says = c.refuse_if.ensures ∙ rw c.card_text-text.ensures.0 (sym (text-number a.input.now a.out.now)) in
    let e = stopped c.refuse_if.result _ says _ c.in_err-refuse_if.was in
    rw (p.1, p.2, e.0) (sym ((write_text-answers a.input.now a.out.now).at_refusal e.1))

pub put_bytes-requires : goal.put_bytes-requires
put_bytes-requires c =
    let text = c.card_text-text in
    let room = not_short _ text.result.length (sym c.in_ok-refuse_if.ensures) in
    let long = text-fits (card_text c.args.input.now) text.result.length text.result.bytes text.ensures in
    rw c.as_bytes.ensures (omega (arith, room, long.1))

pub returns : goal.returns
returns c =
    let a = c.args in
    let text = c.card_text-text in
    let says = c.refuse_if.ensures ∙ rw text.ensures.0 (sym (text-number a.input.now a.out.now)) in
    let part = text_part (card_text a.input.now) text.result.length text.result.bytes text.ensures in
    let put = rw (c.as_bytes.ensures, part) at c.put_bytes.ensures in
    let whole = put_front put in
    let accepted = passed c.refuse_if.result _ says _ c.in_ok-refuse_if.was in
    rw (whole.0, whole.1) (sym ((write_text-answers a.input.now a.out.now).on_acceptance accepted))
