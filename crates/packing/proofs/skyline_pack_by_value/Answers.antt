-- `skyline_pack_by_value` meets its contract: a count that is too large, or the call on the front of the array.
use Rattle.std.proofs.Common.{refl, ◌∙◌}
use Rattle.std.proofs.lemmas.Result.{err_from_is_err_and}
use Rattle.scope.specs.Twins.{first_packing}
use Rattle.intake.proofs.ByCount.{counted-out, counted_in, fits-array, is_front}
use Rattle.packing.proofs.skyline_pack_by_value.Goals as goal

pub returns-in_err-refuse_if : goal.returns-in_err-refuse_if
unfolding first_packing
returns-in_err-refuse_if c =
    let p = err_from_is_err_and c.from_residual.result c.from_residual.ensures.1 in
    let s = counted-out c.refuse_if.result c.args.n c.too_many.ensures c.refuse_if.ensures _ c.in_err-refuse_if.was in
    rw (p.1, p.2, s.0, s.1) refl

pub slice_bounds-rectangles-end : goal.slice_bounds-rectangles-end
slice_bounds-rectangles-end c =
    fits-array c.refuse_if.result c.args.n c.too_many.ensures c.refuse_if.ensures _ c.in_ok-refuse_if.was _ c.well_formed.0.1.0.1

pub slice_bounds-skyline_pack-end : goal.slice_bounds-skyline_pack-end
slice_bounds-skyline_pack-end c =
    is_front c.refuse_if.result c.args.n c.too_many.ensures c.refuse_if.ensures _ c.in_ok-refuse_if.was _ c.well_formed.0.1.0.1

pub returns : goal.returns
unfolding first_packing
returns c =
    let few = counted_in c.refuse_if.result c.args.n c.too_many.ensures c.refuse_if.ensures _ c.in_ok-refuse_if.was in
    c.skyline_pack.ensures ∙ rw few refl
