-- `place` meets its contract: the boxes before j that go before box i are counted.
use Rattle.std.proofs.Common.{◌≡◌, ◌≤◌}
use Rattle.scope.specs.Runs.{many}
use Rattle.scope.specs.Packing.{before}
use Rattle.intake.specs.Columns.{at}
use Rattle.packing.proofs.place.Given as goal

abbrev pub invariant-loop-j : goal.invariant-loop-j
invariant-loop-j l = (l.count ≤ l.j) × (l.count ≡ many l.j (before (at l.areas) l.i))
