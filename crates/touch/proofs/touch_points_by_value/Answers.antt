-- `touch_points_by_value` meets its contract: a count of circles that is too large, the call on the front of both arrays, or a count of points that is too large.
use mathlib.Core.Path.{refl, sym, ◌∙◌}
use lib.Seq.{length-take-le}
use Rattle.std.proofs.lemmas.Result.{err_from_is_err_and}
use Rattle.scope.specs.Twins.{first_touched}
use Rattle.intake.proofs.ByCount.{counted-out, counted_in, fits-array, is_front}
use Rattle.refusals.proofs.Exits.{stopped}
use Rattle.touch.proofs.FirstTouches.{few_points, as_runs, many-refused, many-counted}
use Rattle.touch.proofs.touch_points_by_value.Goals as goal

pub returns-in_err-refuse_if : goal.returns-in_err-refuse_if
unfolding first_touched
returns-in_err-refuse_if c =
    let p = err_from_is_err_and c.from_residual.result c.from_residual.ensures.1 in
    let s = counted-out c.refuse_if.result c.args.n c.too_many.ensures c.refuse_if.ensures _ c.in_err-refuse_if.was in
    rw (p.1, p.2, s.0, s.1) refl

pub slice_bounds-circles-end : goal.slice_bounds-circles-end
slice_bounds-circles-end c =
    fits-array c.refuse_if.result c.args.n c.too_many.ensures c.refuse_if.ensures _ c.in_ok-refuse_if.was _ c.well_formed.0.1.0.1

pub slice_bounds-run-end : goal.slice_bounds-run-end
slice_bounds-run-end c =
    is_front c.refuse_if.result c.args.n c.too_many.ensures c.refuse_if.ensures _ c.in_ok-refuse_if.was _ c.well_formed.0.1.0.1

pub returns-in_err-check_touch : goal.returns-in_err-check_touch
returns-in_err-check_touch c =
    let a = c.args in
    let few = counted_in c.refuse_if.result a.n c.too_many.ensures c.refuse_if.ensures _ c.in_ok-refuse_if.was in
    let p = err_from_is_err_and c.from_residual-in_err-check_touch.result c.from_residual-in_err-check_touch.ensures.1 in
    let e = stopped c.check_touch.result _ c.check_touch.ensures _ c.in_err-check_touch.was in
    rw (p.1, p.2) (many-refused a.n a.circles few a.m a.points a.answers.now (sym c.if-too_many_points.ensures) c.well_formed.1.1.0.1.0.1 _ e.0 (λ z. e.1 (sym e.0 ∙ z)))

pub returns-then-too_many_points : goal.returns-then-too_many_points
returns-then-too_many_points c =
    let a = c.args in
    let few = counted_in c.refuse_if.result a.n c.too_many.ensures c.refuse_if.ensures _ c.in_ok-refuse_if.was in
    many-counted a.n a.circles few a.m a.points a.answers.now (sym c.if-too_many_points.ensures) c.well_formed.1.1.0.1.0.1 c.in_ok-check_touch.ensures

pub slice_bounds-points-end : goal.slice_bounds-points-end
slice_bounds-points-end c = few_points c.args.m c.args.points (sym c.if-too_many_points.ensures) c.well_formed.1.1.0.1.0.1

pub slice_bounds-touch_points-end : goal.slice_bounds-touch_points-end
slice_bounds-touch_points-end c =
    sym (length-take-le _ _ (few_points c.args.m c.args.points (sym c.if-too_many_points.ensures) c.well_formed.1.1.0.1.0.1))

pub returns : goal.returns
returns c =
    let a = c.args in
    let few = counted_in c.refuse_if.result a.n c.too_many.ensures c.refuse_if.ensures _ c.in_ok-refuse_if.was in
    c.touch_points.ensures ∙ as_runs a.n a.circles few a.m a.points a.answers.now
    (few_points a.m a.points (sym c.if-too_many_points.ensures) c.well_formed.1.1.0.1.0.1)
