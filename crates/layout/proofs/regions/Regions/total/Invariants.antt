-- `total` meets its contract: the sum over the regions passed is known.
use mathlib.Core.Path.{◌≡◌}
use Rattle.scope.specs.Numbers.{nought}
use Rattle.layout.proofs.RegionFolds.{add_area, gathered}
use Rattle.layout.proofs.regions.Regions.total.Given as goal

abbrev pub invariant-loop-k : goal.invariant-loop-k
invariant-loop-k l = l.sum ≡ gathered add_area nought l.i nought l.self.masks.now l.self.areas.now l.k
