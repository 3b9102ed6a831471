-- `check_pair` meets its contract: document 01's checks, in their order.
use mathlib.Core.Path.{sym, ◌∙◌}
use Rattle.scope.specs.Refusals.{pair_refusal}
use Rattle.intake.proofs.Checked.{pair_in_order}
use Rattle.intake.proofs.checks.check_pair.Goals as goal

pub returns : goal.returns
unfolding pair_refusal
returns c = c.refuse_first.ensures ∙ rw (c.bad_centre.ensures, c.bad_centre-2.ensures, c.bad_radius.ensures, c.bad_radius-2.ensures) (sym (pair_in_order _ _ _ _))
