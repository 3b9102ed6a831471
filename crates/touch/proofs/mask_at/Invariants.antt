-- `mask_at` meets its contract: after j turns the mask has the circles before place j that the point lies in.
use mathlib.Core.Path.{◌≡◌}
use Rattle.shapes.specs.Records.{point_at}
use Rattle.touch.proofs.Touching.{mask_to}
use Rattle.touch.proofs.mask_at.Given as goal

abbrev pub invariant-loop-j : goal.invariant-loop-j
invariant-loop-j l = l.mask ≡ mask_to l.xs l.ys l.radii (point_at l.x l.y) l.j
