-- `write_card_by_value` meets its contract: a count that is too large, or the call on the front of the array.
use mathlib.Core.Path.{refl, ◌∙◌}
use Rattle.std.proofs.lemmas.Result.{err_from_is_err_and}
use Rattle.scope.specs.Twins.{first_written}
use Rattle.intake.proofs.ByCount.{counted-out, counted_in, fits-array, is_front}
use Rattle.card_output.proofs.write_card_by_value.Goals as goal

pub returns-in_err-refuse_if-clause-answer : goal.returns-in_err-refuse_if-clause-answer
unfolding first_written
returns-in_err-refuse_if-clause-answer c =
    let p = err_from_is_err_and c.from_residual.result c.from_residual.ensures.1 in
    let s = counted-out c.refuse_if.result c.args.n c.too_many.ensures c.refuse_if.ensures _ c.in_err-refuse_if.was in
    rw (p.1, p.2, s.0, s.1) refl

pub slice_bounds-circles-end : goal.slice_bounds-circles-end
slice_bounds-circles-end c =
    fits-array c.refuse_if.result c.args.n c.too_many.ensures c.refuse_if.ensures _ c.in_ok-refuse_if.was _ c.well_formed.0.1.0.1

pub slice_bounds-write_card-end : goal.slice_bounds-write_card-end
slice_bounds-write_card-end c =
    is_front c.refuse_if.result c.args.n c.too_many.ensures c.refuse_if.ensures _ c.in_ok-refuse_if.was _ c.well_formed.0.1.0.1

pub returns-clause-answer : goal.returns-clause-answer
unfolding first_written
returns-clause-answer c =
    let few = counted_in c.refuse_if.result c.args.n c.too_many.ensures c.refuse_if.ensures _ c.in_ok-refuse_if.was in
    c.write_card.ensures.0 ∙ rw few refl
