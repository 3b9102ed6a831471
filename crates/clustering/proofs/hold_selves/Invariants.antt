-- `hold_selves` meets its contract, circle by circle.
use Rattle.clustering.specs.Table.{Holds}
use Rattle.clustering.proofs.Linking.{diagonal}
use Rattle.clustering.proofs.hold_selves.Given as goal

abbrev pub invariant-loop-i : goal.invariant-loop-i
invariant-loop-i l = Holds l.n l.rows (diagonal l.i)
