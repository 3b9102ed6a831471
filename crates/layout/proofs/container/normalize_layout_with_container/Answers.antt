-- `normalize_layout_with_container` meets its contract: the refusal, or the settled columns written back.
use mathlib.Core.Path.{sym, ◌∙◌}
use lib.Seq.{take_all}
use Rattle.std.proofs.lemmas.Result.{err_from_is_err_and}
use Rattle.laws.proofs.AfterRefusal.{container-answers}
use Rattle.refusals.proofs.Exits.{stopped}
use Rattle.intake.specs.Limits.{max_circles}
use Rattle.intake.proofs.Columns.{length_xs, length_ys, length-radii}
use Rattle.layout.proofs.Joined.{few_contained, contained_lifted, settled_back}
use Rattle.layout.proofs.container.normalize_layout_with_container.Goals as goal

pub returns-in_err-check_container : goal.returns-in_err-check_container
returns-in_err-check_container c =
    let p = err_from_is_err_and c.from_residual.result c.from_residual.ensures.1 in
    let e = stopped c.check_container.result _ c.check_container.ensures _ c.in_err-check_container.was in
    rw (p.1, p.2, e.0) (sym ((container-answers c.args.circles.now c.args.container).at_refusal e.1))

pub settled-requires : goal.settled-requires
settled-requires c =
    let e = c.of-c.ensures in
    let cs = c.args.circles.now in
    let z = sym c.in_ok-check_container.ensures in
    rw (e.x, e.y, e.radius, take_all max_circles cs (few_contained cs c.args.container z))
    (length_ys cs ∙ sym (length_xs cs), length-radii cs ∙ sym (length_xs cs), contained_lifted cs c.args.container z)

pub join-requires : goal.join-requires
join-requires c =
    let e = c.of-c.ensures in
    let cs = c.args.circles.now in
    let z = sym c.in_ok-check_container.ensures in
    let all = take_all max_circles cs (few_contained cs c.args.container z) in
    let long-x = rw (e.x, all, length_xs cs) at c.settled.auto.xs in
    let long-y = rw (e.y, all, length_ys cs) at c.settled.auto.ys in
    (long-x, long-y)

pub returns : goal.returns
returns c =
    let e = c.of-c.ensures in
    let cs = c.args.circles.now in
    let z = sym c.in_ok-check_container.ensures in
    let all = take_all max_circles cs (few_contained cs c.args.container z) in
    rw (c.placed.ensures, c.join.ensures) (settled_back cs c.args.container z _ _ (rw (e.x, e.y, e.radius, all) at c.settled.ensures))
