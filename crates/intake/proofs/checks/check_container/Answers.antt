-- `check_container` meets its contract: document 01's checks, in their order.
use mathlib.Core.Path.{◌∙◌}
use Rattle.intake.proofs.Checked.{container_seen}
use Rattle.intake.proofs.checks.check_container.Goals as goal

pub any_ink_twice-requires : goal.any_ink_twice-requires
any_ink_twice-requires c = c.looked_at-seen.ensures.few

pub returns : goal.returns
returns c =
    c.refuse_first.ensures
    ∙ rw (c.too_many.ensures, c.any_centre.ensures, c.bad_point.ensures, c.any_radius.ensures, c.bad_side.ensures, c.any_ink_twice.ensures, c.looked_at-seen.ensures.all) (container_seen _ _)
