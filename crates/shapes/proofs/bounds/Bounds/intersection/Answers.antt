-- `Bounds::intersection` meets its contract: the four ends that it works out are the shared box's, and each way out knows whether that box is proper.
use mathlib.Core.Path.{◌≡◌}
use mathlib.Core.Bool.{Bool, true, false, cond}
use Rattle.shapes.specs.declared.bounds.Bounds.{Bounds}
use Rattle.std.specs.Prelude.{Some, None}
use Rattle.shapes.specs.Records.{box_of}
use Rattle.shapes.specs.Boxes.{shared_box, proper, overlap_of}
use Rattle.shapes.proofs.bounds.Bounds.intersection.Goals as goal
use Rattle.shapes.proofs.bounds.Bounds.intersection.Goals.{else-x_min-x_max-via-then-x_min-x_max+else-y_min-y_max, else-x_min-x_max-via-else-x_min-x_max}

decided : (a b s : Bounds) (t : Bool) → s ≡ shared_box a b → proper s ≡ t → cond t (Some s) None ≡ overlap_of a b
unfolding overlap_of
decided a b s t same test = cc

pub returns-then-y_min-y_max : goal.returns-then-y_min-y_max
unfolding shared_box proper
returns-then-y_min-y_max c = decided _ _ _ true (cc) (rw (c.if-x_min-x_max.true, c.if-y_min-y_max.true))

pub returns-else-x_min-x_max : goal.returns-else-x_min-x_max
unfolding shared_box proper
returns-else-x_min-x_max c =
    let found = box_of c.maximum-x_min.result c.minimum-x_max.result c.maximum-y_min.result c.minimum-y_max.result in
    decided _ _ found false (cc)
    (elim c.else-x_min-x_max.branch [
      | else-x_min-x_max-via-then-x_min-x_max+else-y_min-y_max w ↦ rw (w.if-x_min-x_max.true, w.if-y_min-y_max.false)
      | else-x_min-x_max-via-else-x_min-x_max w ↦ rw w.if-x_min-x_max.false
    ])
