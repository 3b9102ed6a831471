-- `link_selves` meets its contract, circle by circle.
use Rattle.clustering.specs.Table.{Shows}
use Rattle.clustering.proofs.Linking.{diagonal}
use Rattle.clustering.proofs.link_selves.Given as goal

abbrev pub invariant-loop-i : goal.invariant-loop-i
invariant-loop-i l = Shows l.n l.m (diagonal l.i)
