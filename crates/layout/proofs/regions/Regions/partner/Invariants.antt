-- `partner` meets its contract: the partners in the regions passed are known, and two of them are never one again.
use mathlib.Core.Path.{◌≡◌}
use Rattle.layout.proofs.RegionFolds.{gathered, join_others}
use Rattle.layout.proofs.regions.Regions.partner.Given as goal

abbrev pub invariant-loop-k : goal.invariant-loop-k
invariant-loop-k l = l.others ≡ gathered (join_others l.i) 0 l.i l.tol l.self.masks.now l.self.areas.now l.k
