-- `check_regions` meets its contract: document 01's checks, in their order.
use mathlib.Core.Path.{sym, ◌∙◌}
use Rattle.scope.specs.Refusals.{regions_refusal, unequal}
use Rattle.intake.proofs.Checked.{regions_in_order}
use Rattle.intake.proofs.checks.check_regions.Goals as goal

pub returns : goal.returns
unfolding regions_refusal unequal
returns c =
    c.refuse_first.ensures ∙ rw (c.too_many.ensures, c.too_many_regions.ensures, c.is_rising.ensures) (sym (regions_in_order _ _ _ _))
