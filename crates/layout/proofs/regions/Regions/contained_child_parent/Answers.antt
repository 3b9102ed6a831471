-- `contained_child_parent` meets its contract: no partner, a region of its own, or the one partner.
use native.Mathlib.Omega.{arith}
use Rattle.layout.proofs.ChildParents.{no_partner, own_region, partner_is_parent}
use Rattle.layout.proofs.regions.Regions.contained_child_parent.Goals as goal

pub returns-in_err-p-clause-is : goal.returns-in_err-p-clause-is
returns-in_err-p-clause-is c = rw c.from_residual.ensures (no_partner _ _ _ _ _ c.in_err-p.ensures.is (omega arith))

pub returns-then-tol-area_with_mask-clause-is : goal.returns-then-tol-area_with_mask-clause-is
returns-then-tol-area_with_mask-clause-is c =
    own_region _ _ _ _ _ c.in_ok-p.ensures.is (rw (c.area_with_mask.ensures, c.only.ensures) at c.if-tol-area_with_mask.true)

pub returns-clause-is : goal.returns-clause-is
returns-clause-is c =
    partner_is_parent _ _ _ _ _ c.in_ok-p.ensures.is c.in_ok-p.ensures.below
    (rw (c.area_with_mask.ensures, c.only.ensures) at c.if-tol-area_with_mask.false)
