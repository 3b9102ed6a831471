-- `bad_side` meets its contract.
use Rattle.scope.specs.Refusals.{bad_side}
use Rattle.intake.proofs.limits.bad_side.Goals as goal
use Rattle.intake.proofs.limits.bad_side.Goals.{then-side_in_range, else-side_in_range}

pub returns : goal.returns
unfolding bad_side
returns c =
    rw (← c.side_in_range.ensures)
    (elim c.if-side_in_range.branch [ then-side_in_range w ↦ rw (w.result-is, w.if-side_in_range.true, ← w.side_in_range-then-side_in_range.ensures) | else-side_in_range w ↦ rw (w.result-is, w.if-side_in_range.false) ])
