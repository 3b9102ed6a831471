-- `close_rows` meets its contract: the rows before i are closed.
use Rattle.scope.specs.Closure.{Marks, at}
use Rattle.clustering.specs.Table.{Holds, closed_to}
use Rattle.clustering.proofs.close_rows.Given as goal

abbrev pub invariant-loop-i : goal.invariant-loop-i
invariant-loop-i l = (t : Marks) → Holds l.n l.initial.rows (at t) → Holds l.n l.rows (closed_to l.i l.n t)
