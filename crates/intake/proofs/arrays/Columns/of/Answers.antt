-- `Columns::of` meets its contract: after i turns each array has the first i numbers of its column.
use native.Mathlib.Omega.{arith}
use lib.Ieee.{of_bits}
use lib.ListN.{length-set, length-take}
use mathlib.Core.Path.{refl}
use Rattle.intake.proofs.Filling.{the_x, the_y, the_radius, front_next_filled, front_filled, behind}
use Rattle.intake.proofs.arrays.Columns.of.Goals as goal

pub loop-i-preserved : goal.loop-i-preserved
loop-i-preserved c =
    let v = c.loop-i.invariant in (
      v.0,
      v.1,
      (simp length-set v.2.0, simp length-set v.2.1, simp length-set v.2.2),
      (front_next_filled the_x c.args.circles.now _ v.0.0 _ v.1.0 c.loop-i.i _ (omega (arith, length-take c.room-n.result c.args.circles.now)) v.3.0, front_next_filled the_y c.args.circles.now _ v.0.0 _ v.1.1 c.loop-i.i _ (omega (arith, length-take c.room-n.result c.args.circles.now)) v.3.1, front_next_filled the_radius c.args.circles.now _ v.0.0 _ v.1.2 c.loop-i.i _ (omega (arith, length-take c.room-n.result c.args.circles.now)) v.3.2),
    )

pub returns-clause-n : goal.returns-clause-n
returns-clause-n c = let v = c.loop-i.invariant in rw (v.0.1, length-take) (omega (arith, v.0.0))

pub returns-clause-x : goal.returns-clause-x
returns-clause-x c =
    let v = c.loop-i.invariant in
    rw v.0.1 (front_filled the_x c.args.circles.now _ v.0.0 _ v.1.0 c.loop-i.i (omega (arith, length-take c.room-n.result c.args.circles.now)) (omega (arith, length-take c.room-n.result c.args.circles.now)) v.3.0)

pub returns-clause-y : goal.returns-clause-y
returns-clause-y c =
    let v = c.loop-i.invariant in
    rw v.0.1 (front_filled the_y c.args.circles.now _ v.0.0 _ v.1.1 c.loop-i.i (omega (arith, length-take c.room-n.result c.args.circles.now)) (omega (arith, length-take c.room-n.result c.args.circles.now)) v.3.1)

pub returns-clause-radius : goal.returns-clause-radius
returns-clause-radius c =
    let v = c.loop-i.invariant in
    rw v.0.1 (front_filled the_radius c.args.circles.now _ v.0.0 _ v.1.2 c.loop-i.i (omega (arith, length-take c.room-n.result c.args.circles.now)) (omega (arith, length-take c.room-n.result c.args.circles.now)) v.3.2)

pub returns-clause-behind : goal.returns-clause-behind
unfolding of_bits
returns-clause-behind c =
    let v = c.loop-i.invariant in rw v.0.1 (
      behind the_x c.args.circles.now _ v.0.0 _ v.1.0 c.loop-i.i _ refl (omega (arith, length-take c.room-n.result c.args.circles.now)) (omega (arith, length-take c.room-n.result c.args.circles.now)) v.3.0,
      behind the_y c.args.circles.now _ v.0.0 _ v.1.1 c.loop-i.i _ refl (omega (arith, length-take c.room-n.result c.args.circles.now)) (omega (arith, length-take c.room-n.result c.args.circles.now)) v.3.1,
      behind the_radius c.args.circles.now _ v.0.0 _ v.1.2 c.loop-i.i _ refl (omega (arith, length-take c.room-n.result c.args.circles.now)) (omega (arith, length-take c.room-n.result c.args.circles.now)) v.3.2,
    )
