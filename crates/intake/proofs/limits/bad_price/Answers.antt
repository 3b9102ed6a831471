-- `bad_price` meets its contract.
use borrow.Author.Tests.{le-leb, lt-leb}
use Rattle.scope.specs.Limits.{price_ok}
use Rattle.scope.specs.Refusals.{bad_price}
use Rattle.intake.proofs.limits.bad_price.Goals as goal
use Rattle.intake.proofs.limits.bad_price.Goals.{then-cents-ge1, else-cents-ge1}

pub returns : goal.returns
unfolding bad_price price_ok
returns c = elim c.if-cents-ge1.branch [ then-cents-ge1 w ↦ rw (w.result-is, le-leb 1 _ w.if-cents-ge1.true) | else-cents-ge1 w ↦ rw (w.result-is, lt-leb 1 _ w.if-cents-ge1.false) ]
