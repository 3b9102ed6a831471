-- `any_ink_twice` meets its contract: after i turns the first i inks are those of the circles.
use native.Mathlib.Omega.{arith}
use mathlib.Core.Path.{◌∙◌}
use lib.ListN.{length-set}
use Rattle.scope.specs.Refusals.{same_ink}
use Rattle.intake.proofs.Filling.{the_ink, one_filled, all_filled}
use Rattle.intake.proofs.checks.any_ink_twice.Goals as goal

pub loop-i-preserved : goal.loop-i-preserved
loop-i-preserved c =
    let v = c.loop-i.invariant in
    (v.0, v.1, simp length-set v.2, one_filled the_ink c.args.circles.now _ (omega arith) c.loop-i.i _ c.loop-i-test.true v.3)

pub returns : goal.returns
unfolding same_ink
returns c =
    let v = c.loop-i.invariant in
    c.any_repeated.ensures ∙ rw (all_filled the_ink c.args.circles.now _ (omega arith) c.loop-i.i (omega arith) c.loop-i-test.false v.3)
