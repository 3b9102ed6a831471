-- `bad_point` meets its contract.
use Rattle.scope.specs.Refusals.{bad_point}
use Rattle.intake.proofs.limits.bad_point.Goals as goal
use Rattle.intake.proofs.limits.bad_point.Goals.{then-coordinate_in_range, else-coordinate_in_range}

pub returns : goal.returns
unfolding bad_point
returns c =
    rw (← c.coordinate_in_range.ensures)
    (elim c.if-coordinate_in_range.branch [ then-coordinate_in_range w ↦ rw (w.result-is, w.if-coordinate_in_range.true, ← w.coordinate_in_range-then-coordinate_in_range.ensures) | else-coordinate_in_range w ↦ rw (w.result-is, w.if-coordinate_in_range.false) ])
