-- `hold_regions` meets its contract: the rows hold the links of the first k regions.
use Rattle.clustering.specs.Table.{Holds}
use Rattle.clustering.proofs.Linking.{first_links}
use Rattle.clustering.proofs.hold_regions.Given as goal

abbrev pub invariant-loop-k : goal.invariant-loop-k
invariant-loop-k l = Holds l.n l.rows (first_links l.tolerance l.masks l.areas l.k)
