-- `boxes_at` meets its contract: the first i boxes stand over as many empty ones.
use Rattle.std.proofs.Common.{◌≡◌, replicate}
use Rattle.scope.specs.Runs.{tab}
use Rattle.scope.specs.Packing.{no_rectangle}
use Rattle.intake.specs.Limits.{max_circles}
use Rattle.intake.proofs.Overwriting.{over}
use Rattle.packing.specs.Sides.{box_at}
use Rattle.packing.proofs.boxes_at.Given as goal

abbrev pub invariant-loop-i : goal.invariant-loop-i
invariant-loop-i l = l.boxes ≡ over l.i (tab l.n (box_at l.xs l.ys l.widths l.heights)) (replicate max_circles no_rectangle)
