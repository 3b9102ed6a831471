-- `check_card` meets its contract: document 01's checks, in their order.
use mathlib.Core.Path.{◌∙◌}
use Rattle.intake.proofs.Checked.{card_seen}
use Rattle.intake.proofs.checks.check_card.Goals as goal

pub any_ink_twice-requires : goal.any_ink_twice-requires
any_ink_twice-requires c = c.looked_at-seen.ensures.few

pub returns : goal.returns
returns c list long =
    c.refuse_first.ensures
    ∙ rw (← long, c.too_many.ensures, c.too_many_regions.ensures, c.any_centre.ensures, c.any_radius.ensures, c.is_rising-rising.ensures, c.bad_factor.ensures, c.any_ink_twice.ensures, c.looked_at-seen.ensures.all) (card_seen _ _ _ list)
