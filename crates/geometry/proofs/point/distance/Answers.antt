-- `distance` meets its contract: the refusal, or the value where there is none.
use mathlib.Core.Path.{◌≡◌, ap, ◌∙◌}
use Rattle.std.proofs.lemmas.Result.{err_from_is_err_and}
use Rattle.scope.specs.Refusals.{refused}
use Rattle.scope.specs.Distance.{distance_answer}
use Rattle.refusals.specs.Numbers.{number}
use Rattle.refusals.proofs.Exits.{answer-refused, answer-given}
use Rattle.geometry.proofs.point.distance.Goals as goal

pub returns-in_err-check_points : goal.returns-in_err-check_points
unfolding distance_answer
returns-in_err-check_points c =
    let p = err_from_is_err_and c.from_residual.result c.from_residual.ensures.1 in
    rw (p.1, p.2) (answer-refused c.check_points.result _ c.check_points.ensures _ _ c.in_err-check_points.was)

pub returns : goal.returns
unfolding distance_answer
returns c = rw c.raw_distance.ensures (answer-given c.check_points.result _ c.check_points.ensures _ _ c.in_ok-check_points.was)
