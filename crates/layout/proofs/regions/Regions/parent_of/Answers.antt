-- `parent_of` meets its contract: each way out knows what was found, and whether the child is smaller.
use lib.Ieee.{of_bits}
use Rattle.scope.specs.Numbers.{e_6}
use Rattle.scope.specs.Offset.{smaller}
use Rattle.layout.proofs.ChildParents.{child_not_smaller, child-smaller, none-smaller}
use Rattle.layout.proofs.regions.Regions.parent_of.Goals as goal

pub returns-in_err-p-clause-is : goal.returns-in_err-p-clause-is
returns-in_err-p-clause-is c = rw c.from_residual.ensures (none-smaller _ _ _ c.in_err-p.ensures.is)

pub returns-then-total-clause-is : goal.returns-then-total-clause-is
unfolding smaller e_6 of_bits
returns-then-total-clause-is c =
    child-smaller _ _ _ _ c.in_ok-p.ensures.is (rw (c.total.ensures, c.total-2.ensures) at c.if-total.true)

pub returns-else-total-clause-is : goal.returns-else-total-clause-is
unfolding smaller e_6 of_bits
returns-else-total-clause-is c =
    child_not_smaller _ _ _ _ c.in_ok-p.ensures.is (rw (c.total.ensures, c.total-2.ensures) at c.if-total.false)
