-- `put_masks` meets its contract: after i turns the first i answers stand there, and after them what stood there before.
use mathlib.Core.Path.{◌≡◌}
use mathlib.Core.List.{map}
use lib.ListN.{length}
use Rattle.scope.specs.Touch.{touch_mask}
use Rattle.intake.specs.Columns.{circles_of}
use Rattle.intake.proofs.Overwriting.{over}
use Rattle.touch.proofs.put_masks.Given as goal

abbrev pub invariant-loop-i : goal.invariant-loop-i
invariant-loop-i l =
    (length l.answers ≡ length l.initial.answers) × (l.answers ≡ over l.i (map (touch_mask (circles_of l.xs l.ys l.radii)) l.points) l.initial.answers)
