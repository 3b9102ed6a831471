-- `refuse_first` meets its contract: no cause before the place holds.
use mathlib.Core.Path.{sym, ◌∙◌}
use Rattle.refusals.proofs.InOrder.{from_one_that_holds, from_one_that_does_not, from_end}
use Rattle.refusals.proofs.refuse_first.Goals as goal

pub returns-then-holds : goal.returns-then-holds
returns-then-holds c = sym (c.loop-holds.invariant ∙ from_one_that_holds _ _ _ c.loop-holds-test.true c.if-holds.true)

pub loop-holds-preserved : goal.loop-holds-preserved
loop-holds-preserved c = c.loop-holds.invariant ∙ from_one_that_does_not _ _ _ c.loop-holds-test.true c.if-holds.false

pub returns : goal.returns
returns c = sym (c.loop-holds.invariant ∙ from_end _ _ c.loop-holds-test.false)
