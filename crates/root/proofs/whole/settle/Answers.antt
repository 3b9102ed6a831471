-- `root::whole::settle` meets its contract: the first loop ends at or below the root, the second never passes it.
use Prim.Native.Nat.{◌*◌, ◌+◌, ◌≤◌}
use native.Mathlib.Omega.{arith}
use Rattle.root.proofs.WholeLaws.{square-fits, some_left, root_below, settled}
use Rattle.root.proofs.whole.settle.Goals as goal

pub overflow_mul-q : goal.overflow_mul-q
overflow_mul-q c = omega (arith, square-fits c.loop-q.q (omega arith))

pub overflow_sub-q : goal.overflow_sub-q
overflow_sub-q c = some_left c.args.m c.loop-q.q c.loop-q-test.true

pub loop-q-smaller : goal.loop-q-smaller
loop-q-smaller c = let h = some_left c.args.m c.loop-q.q c.loop-q-test.true in omega arith

pub loop-q-2-init : goal.loop-q-2-init
loop-q-2-init c = (c.loop-q-test.false, root_below c.args.m c.loop-q.q c.requires.0 c.loop-q-test.false)

pub overflow_mul-q-in-loop-q-2 : goal.overflow_mul-q-in-loop-q-2
overflow_mul-q-in-loop-q-2 c = omega (arith, square-fits (c.loop-q-2.q + 1) (omega arith))

pub loop-q-2-preserved : goal.loop-q-2-preserved
loop-q-2-preserved c =
    let q = c.loop-q-2.q + 1 in
    let h : q * q ≤ c.args.m = omega (arith, c.loop-q-2-test.true) in
    (h, root_below c.args.m q c.requires.0 h)

pub overflow_mul-result : goal.overflow_mul-result
overflow_mul-result c = omega (arith, square-fits c.loop-q-2.q (omega arith))

pub overflow_sub-result : goal.overflow_sub-result
overflow_sub-result c = c.loop-q-2.invariant.0

pub returns : goal.returns
returns c = settled c.args.m c.loop-q-2.q c.loop-q-2.invariant.0 (omega (arith, c.loop-q-2-test.false))
