-- `refuse_first` meets its contract: no cause before the place holds.
use mathlib.Core.Path.{◌≡◌}
use Rattle.refusals.proofs.InOrder.{from}
use Rattle.refusals.proofs.refuse_first.Given as goal

abbrev pub invariant-loop-holds : goal.invariant-loop-holds
invariant-loop-holds l = from l.causes 0 ≡ from l.causes l.holds-index
