-- `find_clusters` meets its contract: the refusal, or the clusters.
use mathlib.Core.Path.{sym, ◌∙◌}
use Rattle.std.proofs.lemmas.Result.{err_from_is_err_and}
use Rattle.scope.specs.Limits.{circle_cap}
use Rattle.laws.proofs.Accepted.{not_too_many_iff}
use Rattle.laws.proofs.AfterRefusal.{plain_grouping-answers}
use Rattle.laws.proofs.EntryPoints.{circles_reads}
use Rattle.refusals.proofs.Exits.{stopped}
use Rattle.clustering.proofs.find_clusters.Goals as goal

pub returns-in_err-check_circles : goal.returns-in_err-check_circles
returns-in_err-check_circles c =
    let p = err_from_is_err_and c.from_residual.result c.from_residual.ensures.1 in
    let e = stopped c.check_circles.result _ c.check_circles.ensures _ c.in_err-check_circles.was in
    rw (p.1, p.2, e.0) (sym ((plain_grouping-answers c.args.circles.now).at_refusal e.1))

pub by_circles-requires : goal.by_circles-requires
unfolding circle_cap
by_circles-requires c =
    let cs = c.args.circles.now in
    (not_too_many_iff _).0 ((circles_reads cs).accepted.0 (sym c.in_ok-check_circles.ensures)).0

pub returns : goal.returns
returns c = c.by_circles.ensures ∙ sym ((plain_grouping-answers c.args.circles.now).on_acceptance (sym c.in_ok-check_circles.ensures))
