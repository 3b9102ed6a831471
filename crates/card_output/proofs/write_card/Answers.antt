-- `write_card` meets its contract: refused and nothing written, or the file of the card.
use mathlib.Core.Path.{sym, ◌∙◌}
use lib.ListN.{length-map}
use Rattle.scope.specs.CardFile.{float_of}
use Rattle.std.proofs.lemmas.Result.{err_from_is_err_and}
use Rattle.refusals.proofs.Exits.{passed_on, let_pass, stopped, passed}
use Rattle.card_output.proofs.Putting.{put_front}
use Rattle.card_output.proofs.WrittenCards.{in_order, paired, few, room_for_file, written-refused, written-accepted, all_typed}
use Rattle.card_output.proofs.write_card.Goals as goal

pub returns-in_err-check_card : goal.returns-in_err-check_card
returns-in_err-check_card c =
    let a = c.args in
    let p = err_from_is_err_and c.from_residual.result c.from_residual.ensures.1 in
    let says = c.check_card.ensures _ (length-map a.patterns.now float_of) in
    let order = in_order a.factor a.circles.now a.masks.now a.patterns.now a.out.now in
    let e = passed_on c.check_card.result _ _ _ says order _ c.in_err-check_card.was in
    rw (p.1, p.2) (written-refused a.factor a.circles.now a.masks.now a.patterns.now a.out.now _ e, tt)

pub is_short-requires : goal.is_short-requires
is_short-requires c =
    let a = c.args in
    let says = c.check_card.ensures _ (length-map a.patterns.now float_of) in
    few a.factor a.circles.now a.masks.now a.patterns.now a.out.now (passed c.check_card.result _ says _ c.in_ok-check_card.was)

pub returns-in_err-refuse_if : goal.returns-in_err-refuse_if
returns-in_err-refuse_if c =
    let a = c.args in
    let p = err_from_is_err_and c.from_residual-in_err-refuse_if.result c.from_residual-in_err-refuse_if.ensures.1 in
    let says = c.check_card.ensures _ (length-map a.patterns.now float_of) in
    let order = in_order a.factor a.circles.now a.masks.now a.patterns.now a.out.now in
    let last = let_pass c.check_card.result _ _ _ says order _ c.in_ok-check_card.was in
    let e = stopped c.refuse_if.result _ (c.refuse_if.ensures ∙ rw c.is_short.ensures last) _ c.in_err-refuse_if.was in
    rw (p.1, p.2) (written-refused a.factor a.circles.now a.masks.now a.patterns.now a.out.now _ e.0, tt)

pub put_file-requires : goal.put_file-requires
put_file-requires c =
    let a = c.args in
    let says = c.check_card.ensures _ (length-map a.patterns.now float_of) in
    let values = passed c.check_card.result _ says _ c.in_ok-check_card.was in
    let output = passed c.refuse_if.result _ (c.refuse_if.ensures ∙ rw c.is_short.ensures) _ c.in_ok-refuse_if.was in (
      sym (paired a.factor a.circles.now a.masks.now a.patterns.now a.out.now values),
      room_for_file a.factor a.circles.now a.masks.now a.patterns.now a.out.now output,
    )

pub returns : goal.returns
returns c =
    let a = c.args in
    let says = c.check_card.ensures _ (length-map a.patterns.now float_of) in
    let values = passed c.check_card.result _ says _ c.in_ok-check_card.was in
    let order = in_order a.factor a.circles.now a.masks.now a.patterns.now a.out.now in
    let last = let_pass c.check_card.result _ _ _ says order _ c.in_ok-check_card.was in
    let all = passed c.refuse_if.result _ (c.refuse_if.ensures ∙ rw c.is_short.ensures last) _ c.in_ok-refuse_if.was in
    let typed =
    all_typed a.factor a.circles.now a.masks.now a.patterns.now a.out.now c.put_file.ensures.typed c.well_formed.1.0.1
    (λ i. (c.type_inv.masks i).fits) (λ i. (c.type_inv.patterns i).fits) in
    let put = put_front c.put_file.ensures.put in
    written-accepted a.factor a.circles.now a.masks.now a.patterns.now a.out.now _ _ values all put typed
