-- `bad_padding` meets its contract: the constant's pattern is 2^26.
use lib.Ieee.{of_bits}
use Rattle.scope.specs.Limits.{padding_ok, within}
use Rattle.scope.specs.Refusals.{bad_padding}
use Rattle.intake.proofs.limits.bad_padding.Goals as goal
use Rattle.intake.proofs.limits.bad_padding.Goals.{then-x, else-x}

pub returns : goal.returns
unfolding bad_padding padding_ok within of_bits
returns c = elim c.if-x.branch [ then-x w ↦ rw (w.result-is, w.if-x.true) | else-x w ↦ rw (w.result-is, w.if-x.false) ]
