-- `shift` meets its contract, circle by circle: every cluster number has its middles.
use native.Mathlib.Omega.{arith}
use Rattle.intake.proofs.Columns.{whole_rewritten}
use Rattle.intake.proofs.InPlace.{none_rewritten, one_rewritten}
use Rattle.layout.proofs.boxes.shift.Goals as goal

pub loop-i-init : goal.loop-i-init
loop-i-init c = none_rewritten _ _ _

pub loop-i-preserved : goal.loop-i-preserved
loop-i-preserved c = one_rewritten _ _ _ _ (omega arith) c.loop-i.invariant (rw c.from-a.ensures)

pub returns : goal.returns
returns c = whole_rewritten _ _ _ c.loop-i.i (omega arith) (omega arith) c.loop-i.invariant
