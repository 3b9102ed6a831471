-- `normalize_layout_with_clusters_by_value` meets its contract: a count that is too large, or the call on the front of the array.
use mathlib.Core.Path.{refl, sym, ◌∙◌}
use lib.Seq.{take_at}
use Rattle.std.proofs.lemmas.Result.{err_from_is_err_and}
use Rattle.scope.specs.Twins.{first_layout}
use Rattle.intake.proofs.ByCount.{counted-out, counted_in, fits-array, is_front}
use Rattle.layout.proofs.FirstCircles.{first-refused, first-arranged}
use Rattle.layout.proofs.normalize.normalize_layout_with_clusters_by_value.Goals as goal

pub returns-in_err-refuse_if-clause-answer : goal.returns-in_err-refuse_if-clause-answer
unfolding first_layout
returns-in_err-refuse_if-clause-answer c =
    let p = err_from_is_err_and c.from_residual.result c.from_residual.ensures.1 in
    let s = counted-out c.refuse_if.result c.args.n c.too_many.ensures c.refuse_if.ensures _ c.in_err-refuse_if.was in
    rw (p.1, p.2, s.0, s.1) refl

pub slice_bounds-placed-end : goal.slice_bounds-placed-end
slice_bounds-placed-end c =
    fits-array c.refuse_if.result c.args.n c.too_many.ensures c.refuse_if.ensures _ c.in_ok-refuse_if.was _ c.well_formed.0.1.0.1

pub slice_bounds-normalize_layout_with_clusters-end : goal.slice_bounds-normalize_layout_with_clusters-end
slice_bounds-normalize_layout_with_clusters-end c =
    is_front c.refuse_if.result c.args.n c.too_many.ensures c.refuse_if.ensures _ c.in_ok-refuse_if.was _ c.well_formed.0.1.0.1

pub returns-in_err-arrangement-clause-answer : goal.returns-in_err-arrangement-clause-answer
returns-in_err-arrangement-clause-answer c =
    let a = c.args in
    let N = c.normalize_layout_with_clusters in
    let p = err_from_is_err_and c.from_residual-in_err-arrangement.result c.from_residual-in_err-arrangement.ensures.1 in
    let few = counted_in c.refuse_if.result a.n c.too_many.ensures c.refuse_if.ensures _ c.in_ok-refuse_if.was in
    rw (p.1, p.2) (first-refused a.n a.circles N.new.circles few a.factor a.masks.now a.areas.now a.proportion N.result N.ensures.answer _ c.in_err-arrangement.was)

pub returns-clause-answer : goal.returns-clause-answer
returns-clause-answer c =
    let a = c.args in
    let N = c.normalize_layout_with_clusters in
    let few = counted_in c.refuse_if.result a.n c.too_many.ensures c.refuse_if.ensures _ c.in_ok-refuse_if.was in
    first-arranged a.n a.circles N.new.circles few a.factor a.masks.now a.areas.now a.proportion N.result N.ensures.answer _ c.in_ok-arrangement.was

pub returns-clause-promises : goal.returns-clause-promises
returns-clause-promises c =
    let a = c.args in
    let N = c.normalize_layout_with_clusters in
    let n = is_front c.refuse_if.result a.n c.too_many.ensures c.refuse_if.ensures _ c.in_ok-refuse_if.was _ c.well_formed.0.1.0.1 in
    rw (take_at N.new.circles _ a.n (N.auto.circles ∙ sym n)) c.in_ok-arrangement.ensures.promises
