-- `bad_proportion` meets its contract: the constants' patterns are 1/4 and 4.
use lib.Ieee.{of_bits}
use Rattle.scope.specs.Limits.{proportion_ok, within}
use Rattle.scope.specs.Refusals.{bad_proportion}
use Rattle.intake.proofs.limits.bad_proportion.Goals as goal
use Rattle.intake.proofs.limits.bad_proportion.Goals.{then-x, else-x}

pub returns : goal.returns
unfolding bad_proportion proportion_ok within of_bits
returns c = elim c.if-x.branch [ then-x w ↦ rw (w.result-is, w.if-x.true) | else-x w ↦ rw (w.result-is, w.if-x.false) ]
