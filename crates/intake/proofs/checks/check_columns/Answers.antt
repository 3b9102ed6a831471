-- `check_columns` meets its contract: document 01's checks, in their order.
use mathlib.Core.Path.{sym, ◌∙◌}
use Rattle.scope.specs.Refusals.{columns_refusal}
use Rattle.intake.proofs.Checked.{columns_in_order}
use Rattle.intake.proofs.checks.check_columns.Goals as goal

pub returns : goal.returns
unfolding columns_refusal
returns c = c.refuse_first.ensures ∙ rw (c.too_many.ensures, c.bad_proportion.ensures) (sym (columns_in_order _ _))
