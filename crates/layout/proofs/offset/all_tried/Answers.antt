-- `all_tried` meets its contract: the circles before i have been tried in turn, and the mask has no bit from i on.
use Prim.Native.Nat.{◌<◌}
use native.Mathlib.Omega.{arith}
use mathlib.Core.Path.{refl, ◌∙◌, ◌≡◌}
use lib.ListN.{length}
use Rattle.scope.specs.Runs.{in_turn}
use Rattle.laws.proofs.MaskBits.{put_grows, put_fits}
use Rattle.intake.specs.Columns.{circles_of}
use Rattle.intake.proofs.Columns.{length_shown}
use Rattle.layout.proofs.OffsetMoves.{offset_all, tried_next}
use Rattle.layout.proofs.offset.all_tried.Goals as goal
use Rattle.layout.proofs.offset.all_tried.Goals.{then-tried, else-tried}

pub loop-i-init : goal.loop-i-init
unfolding in_turn
loop-i-init c = (omega arith, λ rs shows. refl)

pub overflow_add-mask : goal.overflow_add-mask
overflow_add-mask c = let l = c.loop-i in omega (arith, put_fits 64 l.mask l.i (omega arith) l.invariant.0, c.only-mask.ensures)

pub loop-i-preserved : goal.loop-i-preserved
loop-i-preserved c =
    let l = c.loop-i in
    let a = c.args in
    let below : l.i < length a.xs.now = omega arith in
    let tries = rw l.auto.xs at c.tried.ensures in
    elim c.if-tried.branch [
      | then-tried w ↦ rw (w.mask-is, w.only-mask.ensures) (
        put_grows l.mask l.i l.invariant.0,
        λ rs shows.
            tried_next _ _ a.parents.now shows _ _ _ l.i below (l.invariant.1 rs shows) (rw w.if-tried.true at (tries rs l.mask shows)),
      )
      | else-tried w ↦ rw w.mask-is (
        omega (arith, put_grows l.mask l.i l.invariant.0),
        λ rs shows.
            tried_next _ _ a.parents.now shows _ _ _ l.i below (l.invariant.1 rs shows) (rw w.if-tried.false at (tries rs l.mask shows)),
      )
    ]

pub returns : goal.returns
returns c =
    let l = c.loop-i in
    let a = c.args in
    let all : l.i ≡ length a.xs.now = omega arith in
    let shown = length_shown a.xs.now a.ys.now a.radii.now in
    λ rs shows.
    rw all at (l.invariant.1 rs shows)
    ∙ rw shown at (offset_all (circles_of a.xs.now a.ys.now a.radii.now) rs (rw shown c.requires.3))
