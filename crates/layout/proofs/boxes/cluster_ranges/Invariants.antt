-- `cluster_ranges` meets its contract: after i circles each cluster has the range of those of the first i that are its own.
use mathlib.Core.Path.{◌≡◌}
use mathlib.Core.Bool.{true, false}
use lib.ListN.{length}
use lib.Ieee.{inf}
use Rattle.rounding.specs.Extremes.{minimum, maximum}
use Rattle.layout.specs.Ranges.{low_end, high_end}
use Rattle.layout.proofs.ClusterBoxes.{ends_after}
use Rattle.layout.proofs.boxes.cluster_ranges.Given as goal

abbrev pub invariant-loop-i : goal.invariant-loop-i
invariant-loop-i l =
    (l.lows ≡ ends_after minimum (inf false) l.numbers (length l.fn.lows) (low_end l.coords l.radii) l.i)
    × (l.highs ≡ ends_after maximum (inf true) l.numbers (length l.fn.lows) (high_end l.coords l.radii) l.i)
