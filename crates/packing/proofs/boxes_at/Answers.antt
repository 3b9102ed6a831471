-- `boxes_at` meets its contract: the first i boxes stand over as many empty ones.
use Rattle.std.proofs.Common.{◌≡◌, ◌∙◌, arith}
use Rattle.scope.specs.Limits.{circle_cap}
use Rattle.scope.specs.Packing.{no_rectangle}
use Rattle.intake.specs.Limits.{max_circles}
use Rattle.packing.specs.Sides.{box_at}
use Rattle.packing.proofs.Arrays.{over_tab_next, over_tab_all}
use Rattle.packing.proofs.boxes_at.Goals as goal

pub loop-i-preserved : goal.loop-i-preserved
loop-i-preserved c =
    let l = c.loop-i in
    let a = c.args in
    rw l.invariant (over_tab_next a.n l.i max_circles
    (box_at a.xs.now a.ys.now a.widths.now a.heights.now) no_rectangle (omega arith) (omega arith))

pub returns : goal.returns
unfolding circle_cap
returns c =
    let l = c.loop-i in
    let all : l.i ≡ c.args.n = omega arith in
    rw all at l.invariant ∙ over_tab_all _ max_circles _ no_rectangle c.requires
