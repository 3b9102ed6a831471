-- `check_circle_and_point` meets its contract: document 01's checks, in their order.
use mathlib.Core.Path.{sym, ◌∙◌}
use Rattle.scope.specs.Refusals.{circle_point_refusal}
use Rattle.intake.proofs.Checked.{circle_point_in_order}
use Rattle.intake.proofs.checks.check_circle_and_point.Goals as goal

pub returns : goal.returns
unfolding circle_point_refusal
returns c = c.refuse_first.ensures ∙ rw (c.bad_centre.ensures, c.bad_point.ensures, c.bad_radius.ensures) (sym (circle_point_in_order _ _ _))
