-- `Sides::of` meets its contract: after i turns each array has the first i numbers of its column.
use native.Mathlib.Omega.{arith}
use lib.Ieee.{of_bits}
use lib.ListN.{length-set, length-take}
use mathlib.Core.Path.{refl}
use Rattle.intake.proofs.Filling.{the_width, the_height, front_next_filled, front_filled, behind}
use Rattle.intake.proofs.arrays.Sides.of.Goals as goal

pub loop-i-preserved : goal.loop-i-preserved
loop-i-preserved c =
    let v = c.loop-i.invariant in (
      v.0,
      v.1,
      (simp length-set v.2.0, simp length-set v.2.1),
      (front_next_filled the_width c.args.rectangles.now _ v.0 _ v.1.0 c.loop-i.i _ (omega (arith, length-take c.room-n.result c.args.rectangles.now)) v.3.0, front_next_filled the_height c.args.rectangles.now _ v.0 _ v.1.1 c.loop-i.i _ (omega (arith, length-take c.room-n.result c.args.rectangles.now)) v.3.1),
    )

pub returns-clause-n : goal.returns-clause-n
returns-clause-n c = rw length-take (omega arith)

pub returns-clause-width : goal.returns-clause-width
returns-clause-width c =
    let v = c.loop-i.invariant in
    front_filled the_width c.args.rectangles.now _ v.0 _ v.1.0 c.loop-i.i (omega (arith, length-take c.room-n.result c.args.rectangles.now)) (omega (arith, length-take c.room-n.result c.args.rectangles.now)) v.3.0

pub returns-clause-height : goal.returns-clause-height
returns-clause-height c =
    let v = c.loop-i.invariant in
    front_filled the_height c.args.rectangles.now _ v.0 _ v.1.1 c.loop-i.i (omega (arith, length-take c.room-n.result c.args.rectangles.now)) (omega (arith, length-take c.room-n.result c.args.rectangles.now)) v.3.1

pub returns-clause-behind : goal.returns-clause-behind
unfolding of_bits
returns-clause-behind c =
    let v = c.loop-i.invariant in (
      behind the_width c.args.rectangles.now _ v.0 _ v.1.0 c.loop-i.i _ refl (omega (arith, length-take c.room-n.result c.args.rectangles.now)) (omega (arith, length-take c.room-n.result c.args.rectangles.now)) v.3.0,
      behind the_height c.args.rectangles.now _ v.0 _ v.1.1 c.loop-i.i _ refl (omega (arith, length-take c.room-n.result c.args.rectangles.now)) (omega (arith, length-take c.room-n.result c.args.rectangles.now)) v.3.1,
    )
