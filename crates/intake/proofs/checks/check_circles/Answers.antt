-- `check_circles` meets its contract: document 01's checks, in their order.
use mathlib.Core.Path.{◌∙◌}
use Rattle.intake.proofs.Checked.{circles_seen}
use Rattle.intake.proofs.checks.check_circles.Goals as goal

pub any_ink_twice-requires : goal.any_ink_twice-requires
any_ink_twice-requires c = c.looked_at-seen.ensures.few

pub returns : goal.returns
returns c =
    c.refuse_first.ensures
    ∙ rw (c.too_many.ensures, c.any_centre.ensures, c.any_radius.ensures, c.any_ink_twice.ensures, c.looked_at-seen.ensures.all) (circles_seen _)
