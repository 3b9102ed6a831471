-- `check_points` meets its contract: document 01's checks, in their order.
use mathlib.Core.Path.{sym, ◌∙◌}
use Rattle.scope.specs.Refusals.{points_refusal}
use Rattle.intake.proofs.Checked.{points_in_order}
use Rattle.intake.proofs.checks.check_points.Goals as goal

pub returns : goal.returns
unfolding points_refusal
returns c = c.refuse_first.ensures ∙ rw (c.bad_point.ensures, c.bad_point-2.ensures) (sym (points_in_order _ _))
