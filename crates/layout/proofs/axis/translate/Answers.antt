-- `translate` meets its contract, number by number.
use native.Mathlib.Omega.{arith}
use mathlib.Core.Path.{refl}
use Rattle.intake.proofs.Columns.{whole_rewritten}
use Rattle.intake.proofs.InPlace.{none_rewritten, one_rewritten}
use Rattle.layout.proofs.axis.translate.Goals as goal

pub loop-x-init : goal.loop-x-init
loop-x-init c = none_rewritten _ _ _

pub loop-x-preserved : goal.loop-x-preserved
loop-x-preserved c = one_rewritten _ _ _ _ (omega arith) c.loop-x.invariant refl

pub returns : goal.returns
returns c = whole_rewritten _ _ _ c.loop-x.x-index (omega arith) (omega arith) c.loop-x.invariant
