-- `bad_factor` meets its contract: 0 and 1 are the ends.
use lib.Ieee.{of_bits}
use Rattle.scope.specs.Limits.{factor_ok, within}
use Rattle.scope.specs.Refusals.{bad_factor}
use Rattle.intake.proofs.limits.bad_factor.Goals as goal
use Rattle.intake.proofs.limits.bad_factor.Goals.{then-x, else-x}

pub returns : goal.returns
unfolding bad_factor factor_ok within of_bits
returns c = elim c.if-x.branch [ then-x w ↦ rw (w.result-is, w.if-x.true) | else-x w ↦ rw (w.result-is, w.if-x.false) ]
