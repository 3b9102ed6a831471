-- `touch_points` meets its contract: the refusal, or each point's answer.
use mathlib.Core.Path.{refl, sym, ap, ◌∙◌}
use native.Mathlib.Omega.{arith}
use lib.ListN.{length-take}
use lib.Seq.{take_all}
use Rattle.std.proofs.lemmas.Result.{err_from_is_err_and}
use Rattle.laws.proofs.AfterRefusal.{touch_answers}
use Rattle.refusals.proofs.Exits.{stopped}
use Rattle.intake.specs.Limits.{max_circles}
use Rattle.intake.proofs.Columns.{length_xs, length_ys, length-radii}
use Rattle.touch.specs.Answers.{touch_of}
use Rattle.touch.proofs.Touching.{masks_shown, accepted_counts}
use Rattle.touch.proofs.touch_points.Goals as goal

pub returns-in_err-check_touch : goal.returns-in_err-check_touch
returns-in_err-check_touch c =
    let p = err_from_is_err_and c.from_residual.result c.from_residual.ensures.1 in
    let e = stopped c.check_touch.result _ c.check_touch.ensures _ c.in_err-check_touch.was in
    rw (p.1, p.2, e.0) (sym ((touch_answers c.args.circles.now c.args.points.now c.args.answers.now).at_refusal e.1))

pub put_masks-requires : goal.put_masks-requires
put_masks-requires c =
    let e = c.of-c.ensures in
    let cs = c.args.circles.now in
    rw (e.x, e.y, e.radius, length_xs, length_ys, length-radii)
    (refl, refl, omega (arith, length-take max_circles cs), (accepted_counts cs c.args.points.now c.args.answers.now (sym c.in_ok-check_touch.ensures)).1)

pub returns : goal.returns
returns c =
    let e = c.of-c.ensures in
    let cs = c.args.circles.now in
    let z = sym c.in_ok-check_touch.ensures in
    let few = (accepted_counts cs c.args.points.now c.args.answers.now z).0 in
    rw ((touch_answers cs c.args.points.now c.args.answers.now).on_acceptance z)
    (ap (touch_of 0) (c.put_masks.ensures ∙ rw (e.x, e.y, e.radius, take_all max_circles cs few) (masks_shown cs c.args.points.now c.args.answers.now)))
