-- `place` meets its contract: the boxes before j that go before box i are counted.
use Rattle.std.proofs.Common.{refl, arith, ◌≡◌, length}
use Rattle.scope.specs.Runs.{many}
use Rattle.scope.specs.Packing.{before, place}
use Rattle.packing.proofs.Arrays.{count-takes, count-leaves}
use Rattle.packing.proofs.place.Goals as goal
use Rattle.packing.proofs.place.Goals.{then-goes_before, else-goes_before}

pub loop-j-init : goal.loop-j-init
unfolding many
loop-j-init c = (omega arith, refl)

pub loop-j-preserved : goal.loop-j-preserved
unfolding before
loop-j-preserved c =
    let counted = c.loop-j.invariant.1 in
    let goes = c.goes_before.ensures in
    elim c.if-goes_before.branch [
      | then-goes_before w ↦ rw w.count-is (omega arith, count-takes _ _ _ counted goes w.if-goes_before.true)
      | else-goes_before w ↦ rw w.count-is (omega arith, count-leaves _ _ _ counted goes w.if-goes_before.false)
    ]

pub returns : goal.returns
unfolding place
returns c =
    let l = c.loop-j in
    let all : l.j ≡ length c.args.areas.now = omega arith in
    rw all at l.invariant.1
