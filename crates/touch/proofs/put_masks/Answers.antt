-- `put_masks` meets its contract: after i turns the first i answers stand there, and after them what stood there before.
use native.Mathlib.Omega.{arith}
use lib.ListN.{length-set}
use Rattle.touch.proofs.Touching.{answer_put, answers_all}
use Rattle.touch.proofs.put_masks.Goals as goal

pub loop-i-preserved : goal.loop-i-preserved
loop-i-preserved c =
    let v = c.loop-i.invariant in
    (simp length-set v.0, answer_put _ c.args.points.now c.args.answers.now c.requires.3 c.loop-i.i _ c.loop-i-test.true v.1 c.mask_at.ensures)

pub returns : goal.returns
returns c =
    let v = c.loop-i.invariant in
    answers_all _ c.args.points.now c.args.answers.now c.requires.3 c.loop-i.i (omega arith) c.loop-i-test.false v.1
