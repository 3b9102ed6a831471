-- `normalize_layout_with_clusters` meets its contract: the refusal, or the arranged columns written back.
use mathlib.Core.Path.{sym, ◌∙◌}
use lib.Seq.{take_all}
use Rattle.std.proofs.lemmas.Result.{err_from_is_err_and}
use Rattle.scope.specs.Layout.{refused_layout}
use Rattle.laws.proofs.AfterRefusal.{layout-answers}
use Rattle.refusals.proofs.Exits.{stopped}
use Rattle.intake.specs.Limits.{max_circles}
use Rattle.intake.proofs.Columns.{length_xs, length_ys, length-radii}
use Rattle.layout.proofs.Joined.{few_laid, bare_accepted, proportion-inside, laid_back, promises_kept, run-doubles}
use Rattle.layout.proofs.normalize.normalize_layout_with_clusters.Goals as goal

pub returns-in_err-check_layout-clause-answer : goal.returns-in_err-check_layout-clause-answer
unfolding refused_layout
returns-in_err-check_layout-clause-answer c =
    let a = c.args in
    let p = err_from_is_err_and c.from_residual.result c.from_residual.ensures.1 in
    let e = stopped c.check_layout.result _ c.check_layout.ensures _ c.in_err-check_layout.was in
    rw (p.1, p.2, e.0) (sym ((layout-answers a.circles.now a.factor a.masks.now a.areas.now a.proportion).at_refusal e.1))

pub arranged-arrangement-requires : goal.arranged-arrangement-requires
arranged-arrangement-requires c =
    let a = c.args in
    let e = c.of-n.ensures in
    let cs = a.circles.now in
    let z = sym c.in_ok-check_layout.ensures in
    let few = few_laid cs a.factor a.masks.now a.areas.now a.proportion z in
    rw (e.x, e.y, e.radius, take_all max_circles cs few) (
      rw (length_xs cs) few,
      length_ys cs ∙ sym (length_xs cs),
      length-radii cs ∙ sym (length_xs cs),
      bare_accepted cs a.factor a.masks.now a.areas.now a.proportion z,
      proportion-inside cs a.factor a.masks.now a.areas.now a.proportion z,
    )

pub join-requires : goal.join-requires
join-requires c =
    let a = c.args in
    let e = c.of-n.ensures in
    let cs = a.circles.now in
    let few = few_laid cs a.factor a.masks.now a.areas.now a.proportion (sym c.in_ok-check_layout.ensures) in
    let all = take_all max_circles cs few in
    let long-x = rw (e.x, all, length_xs cs) at c.arranged-arrangement.auto.xs in
    let long-y = rw (e.y, all, length_ys cs) at c.arranged-arrangement.auto.ys in
    (long-x, long-y)

pub returns-clause-answer : goal.returns-clause-answer
returns-clause-answer c =
    let a = c.args in
    let e = c.of-n.ensures in
    let cs = a.circles.now in
    let z = sym c.in_ok-check_layout.ensures in
    let all = take_all max_circles cs (few_laid cs a.factor a.masks.now a.areas.now a.proportion z) in
    let r = c.arranged-arrangement.ensures in
    rw c.join.ensures
    (laid_back cs a.factor a.masks.now a.areas.now a.proportion z _ _ _ (rw (e.x, e.y, e.radius, all) at r.result)
    (rw (e.x, e.y, e.radius, all) at r.circles))

pub returns-clause-promises : goal.returns-clause-promises
returns-clause-promises c =
    let a = c.args in
    let e = c.of-n.ensures in
    let cs = a.circles.now in
    let z = sym c.in_ok-check_layout.ensures in
    let all = take_all max_circles cs (few_laid cs a.factor a.masks.now a.areas.now a.proportion z) in
    let r = c.arranged-arrangement.ensures in
    rw c.join.ensures
    (promises_kept cs a.factor a.masks.now a.areas.now a.proportion z (rw (e.x, e.y, e.radius, all) at r.doubles)
    c.well_formed.1.1.1.1.0.1 _ _
    (laid_back cs a.factor a.masks.now a.areas.now a.proportion z _ _ _ (rw (e.x, e.y, e.radius, all) at r.result)
    (rw (e.x, e.y, e.radius, all) at r.circles)))

pub returns-clause-doubles : goal.returns-clause-doubles
returns-clause-doubles c =
    let a = c.args in
    let e = c.of-n.ensures in
    let cs = a.circles.now in
    let all = take_all max_circles cs (few_laid cs a.factor a.masks.now a.areas.now a.proportion (sym c.in_ok-check_layout.ensures)) in
    run-doubles cs a.factor (rw (e.x, e.y, e.radius, all) at c.arranged-arrangement.ensures.doubles)
