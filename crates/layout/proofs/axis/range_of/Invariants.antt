-- `range_of` meets its contract: after some circles the range is that of those.
use mathlib.Core.Path.{◌≡◌}
use lib.ListN.{length}
use Rattle.scope.specs.Runs.{always}
use Rattle.layout.specs.Ranges.{low_end, high_end, range_over}
use Rattle.layout.proofs.axis.range_of.Given as goal

abbrev pub invariant-loop-x : goal.invariant-loop-x
invariant-loop-x l = l.r ≡ range_over always (length l.yielded) (low_end l.coords l.radii) (high_end l.coords l.radii)
