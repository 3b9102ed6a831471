-- `mask_at` meets its contract: after j turns the mask has the circles before place j that the point lies in.
use mathlib.Core.Logic.{inl, inr}
use native.Mathlib.Omega.{arith}
use Rattle.shapes.specs.Records.{point_at}
use Rattle.laws.proofs.PackedRows.{single_shifted}
use Rattle.touch.proofs.Touching.{mask-none, mask_fits, mask_next, mask_all}
use Rattle.touch.proofs.mask_at.Goals as goal
use Rattle.touch.proofs.mask_at.Goals.{then-covers, else-covers}

pub loop-j-init : goal.loop-j-init
loop-j-init c = let a = c.args in mask-none a.xs.now a.ys.now a.radii.now (point_at a.x a.y)

pub overflow_add-mask : goal.overflow_add-mask
overflow_add-mask c =
    let l = c.loop-j in
    let a = c.args in
    record { fits = rw (single_shifted 64 l.j (omega arith)) (mask_fits a.xs.now a.ys.now a.radii.now (point_at a.x a.y) l.j (omega arith) l.invariant) }

pub loop-j-preserved : goal.loop-j-preserved
loop-j-preserved c =
    let l = c.loop-j in
    let a = c.args in
    mask_next a.xs.now a.ys.now a.radii.now (point_at a.x a.y) l.j c.covers.result (omega arith) (omega arith) l.invariant c.covers.ensures
    (elim c.if-covers.branch [ then-covers w ↦ inl ((w.if-covers.true, w.mask-is)) | else-covers w ↦ inr ((w.if-covers.false, w.mask-is)) ])

pub returns : goal.returns
returns c =
    let l = c.loop-j in
    let a = c.args in
    mask_all a.xs.now a.ys.now a.radii.now (point_at a.x a.y) l.j (omega arith) (omega arith) l.invariant
