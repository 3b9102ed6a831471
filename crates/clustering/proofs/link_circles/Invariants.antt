-- `link_circles` meets its contract. Whether two circles overlap does not depend on their order, so row i may be copied from the rows before it.
use lib.ListN.{length}
use lib.Dec.{eqb}
use Rattle.laws.proofs.Clusters.{meet}
use Rattle.clustering.specs.Table.{Shows}
use Rattle.clustering.proofs.Table.{along, down}
use Rattle.clustering.proofs.link_circles.Given as goal

abbrev pub invariant-loop-j : goal.invariant-loop-j
invariant-loop-j l = Shows (length l.circles) l.m (along (down eqb (meet l.circles) l.i) (meet l.circles l.i) l.i l.j)

abbrev pub invariant-loop-i : goal.invariant-loop-i
invariant-loop-i l = Shows (length l.circles) l.m (down eqb (meet l.circles) l.i)
