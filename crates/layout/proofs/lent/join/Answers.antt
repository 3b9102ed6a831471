-- `join` meets its contract, circle by circle.
use native.Mathlib.Omega.{arith}
use mathlib.Core.Path.{refl, ◌∙◌}
use Rattle.scope.specs.Links.{nowhere}
use Rattle.intake.proofs.Columns.{whole_rewritten}
use Rattle.intake.proofs.InPlace.{none_rewritten, one_rewritten}
use Rattle.layout.proofs.Joined.{joined_shown}
use Rattle.layout.proofs.lent.join.Goals as goal

pub loop-i-init : goal.loop-i-init
loop-i-init c = none_rewritten _ _ _

pub loop-i-preserved : goal.loop-i-preserved
unfolding nowhere
loop-i-preserved c = one_rewritten _ _ _ _ (omega arith) c.loop-i.invariant refl

pub returns : goal.returns
returns c =
    whole_rewritten _ _ _ c.loop-i.i (omega arith) (omega arith) c.loop-i.invariant
    ∙ joined_shown c.args.xs.now c.args.ys.now c.args.circles.now c.requires.0
