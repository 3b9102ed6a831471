-- `centres_range` meets its contract: after some circles the range is that of those.
use mathlib.Core.Path.{◌≡◌}
use lib.ListN.{length}
use Rattle.scope.specs.Gauge.{in_cluster}
use Rattle.intake.specs.Columns.{at}
use Rattle.layout.specs.Ranges.{range_over}
use Rattle.layout.proofs.gauge.centres_range.Given as goal

abbrev pub invariant-loop-x : goal.invariant-loop-x
invariant-loop-x l = l.r ≡ range_over (in_cluster l.numbers l.a) (length l.yielded) (at l.coords) (at l.coords)
