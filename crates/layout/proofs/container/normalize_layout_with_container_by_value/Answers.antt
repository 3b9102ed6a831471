-- `normalize_layout_with_container_by_value` meets its contract: a count that is too large, or the call on the front of the array.
use mathlib.Core.Path.{refl}
use Rattle.std.proofs.lemmas.Result.{err_from_is_err_and}
use Rattle.scope.specs.Twins.{first_contained}
use Rattle.intake.proofs.ByCount.{counted-out, counted_in, fits-array, is_front}
use Rattle.layout.proofs.FirstCircles.{first-kept, first-settled}
use Rattle.layout.proofs.container.normalize_layout_with_container_by_value.Goals as goal

pub returns-in_err-refuse_if : goal.returns-in_err-refuse_if
unfolding first_contained
returns-in_err-refuse_if c =
    let p = err_from_is_err_and c.from_residual.result c.from_residual.ensures.1 in
    let s = counted-out c.refuse_if.result c.args.n c.too_many.ensures c.refuse_if.ensures _ c.in_err-refuse_if.was in
    rw (p.1, p.2, s.0, s.1) refl

pub slice_bounds-placed-end : goal.slice_bounds-placed-end
slice_bounds-placed-end c =
    fits-array c.refuse_if.result c.args.n c.too_many.ensures c.refuse_if.ensures _ c.in_ok-refuse_if.was _ c.well_formed.0.1.0.1

pub slice_bounds-normalize_layout_with_container-end : goal.slice_bounds-normalize_layout_with_container-end
slice_bounds-normalize_layout_with_container-end c =
    is_front c.refuse_if.result c.args.n c.too_many.ensures c.refuse_if.ensures _ c.in_ok-refuse_if.was _ c.well_formed.0.1.0.1

pub returns-in_err-at : goal.returns-in_err-at
returns-in_err-at c =
    let a = c.args in
    let N = c.normalize_layout_with_container in
    let p = err_from_is_err_and c.from_residual-in_err-at.result c.from_residual-in_err-at.ensures.1 in
    let few = counted_in c.refuse_if.result a.n c.too_many.ensures c.refuse_if.ensures _ c.in_ok-refuse_if.was in
    rw (p.1, p.2) (first-kept a.n a.circles N.new.circles few a.container N.result N.ensures _ c.in_err-at.was)

pub returns : goal.returns
returns c =
    let a = c.args in
    let N = c.normalize_layout_with_container in
    let few = counted_in c.refuse_if.result a.n c.too_many.ensures c.refuse_if.ensures _ c.in_ok-refuse_if.was in
    first-settled a.n a.circles N.new.circles few a.container N.result N.ensures _ c.in_ok-at.was
