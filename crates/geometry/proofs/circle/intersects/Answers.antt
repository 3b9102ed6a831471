-- `intersects` meets its contract: the refusal, or the value where there is none.
use mathlib.Core.Path.{◌≡◌, ap, ◌∙◌}
use Rattle.std.proofs.lemmas.Result.{err_from_is_err_and}
use Rattle.scope.specs.Refusals.{refused}
use Rattle.scope.specs.Distance.{intersects_answer}
use Rattle.refusals.specs.Numbers.{number}
use Rattle.refusals.proofs.Exits.{answer-refused, answer-given}
use Rattle.geometry.proofs.circle.intersects.Goals as goal

pub returns-in_err-check_pair : goal.returns-in_err-check_pair
unfolding intersects_answer
returns-in_err-check_pair c =
    let p = err_from_is_err_and c.from_residual.result c.from_residual.ensures.1 in
    rw (p.1, p.2) (answer-refused c.check_pair.result _ c.check_pair.ensures _ _ c.in_err-check_pair.was)

pub returns : goal.returns
unfolding intersects_answer
returns c = rw c.raw_intersects.ensures (answer-given c.check_pair.result _ c.check_pair.ensures _ _ c.in_ok-check_pair.was)
