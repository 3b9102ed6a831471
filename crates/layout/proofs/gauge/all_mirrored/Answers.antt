-- `all_mirrored` meets its contract, number by number.
use native.Mathlib.Omega.{arith}
use mathlib.Core.Path.{◌∙◌}
use lib.Ieee.{of_bits}
use Rattle.intake.proofs.Columns.{whole_rewritten}
use Rattle.intake.proofs.InPlace.{none_rewritten, one_rewritten}
use Rattle.layout.proofs.Members.{is_member, is_other}
use Rattle.layout.proofs.gauge.all_mirrored.Goals as goal
use Rattle.layout.proofs.gauge.all_mirrored.Goals.{then-from-a, else-from-a}

pub loop-i-init : goal.loop-i-init
loop-i-init c = none_rewritten _ _ _

pub loop-i-preserved : goal.loop-i-preserved
unfolding of_bits
loop-i-preserved c =
    let l = c.loop-i in
    let number = c.from.ensures in
    elim c.if-from-a.branch [
      | then-from-a w ↦ w.coords-is ∙ one_rewritten _ _ _ l.i (omega arith) l.invariant (rw (is_member number w.if-from-a.true))
      | else-from-a w ↦ w.coords-is ∙ one_rewritten _ _ _ l.i (omega arith) l.invariant (rw (is_other number w.if-from-a.false))
    ]

pub returns : goal.returns
returns c = whole_rewritten _ _ _ c.loop-i.i (omega arith) (omega arith) c.loop-i.invariant
