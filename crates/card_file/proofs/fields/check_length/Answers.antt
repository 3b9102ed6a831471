-- `check_length` meets its contract: the checks in their order.
use mathlib.Core.Path.{◌∙◌}
use Rattle.scope.specs.Refusals.{front_to_back}
use Rattle.card_file.proofs.fields.check_length.Goals as goal

pub returns-then-is_wrong_length : goal.returns-then-is_wrong_length
unfolding front_to_back
returns-then-is_wrong_length c = rw (← c.is_wrong_length.ensures, c.if-is_wrong_length.true)

pub returns : goal.returns
unfolding front_to_back
returns c = c.refuse_if.ensures ∙ rw (← c.is_wrong_length.ensures, c.if-is_wrong_length.false, c.is_body_cut.ensures)
