-- `all_turned` meets its contract, circle by circle.
use native.Mathlib.Omega.{arith}
use mathlib.Core.Path.{◌∙◌}
use Rattle.intake.proofs.Columns.{whole_rewritten, untouched}
use Rattle.intake.proofs.InPlace.{none_rewritten, one_rewritten, one_left}
use Rattle.layout.proofs.Members.{is_member, is_other}
use Rattle.layout.proofs.gauge.all_turned.Goals as goal
use Rattle.layout.proofs.gauge.all_turned.Goals.{then-from-a, else-from-a}

pub loop-i-init : goal.loop-i-init
loop-i-init c = (none_rewritten _ _ _, none_rewritten _ _ _)

pub loop-i-preserved : goal.loop-i-preserved
loop-i-preserved c =
    let l = c.loop-i in
    let number = c.from.ensures in
    let at_x = untouched _ _ _ l.i (omega arith) l.invariant.0 in
    let at_y = untouched _ _ _ l.i (omega arith) l.invariant.1 in
    elim c.if-from-a.branch [
      | then-from-a w ↦ let taken = is_member number w.if-from-a.true in (
        w.xs-is ∙ one_rewritten _ _ _ l.i (omega arith) l.invariant.0 (rw (taken, at_y)),
        w.ys-is ∙ one_rewritten _ _ _ l.i (omega arith) l.invariant.1 (rw (taken, at_x)),
      )
      | else-from-a w ↦ let left = is_other number w.if-from-a.false in (
        w.xs-is ∙ one_left _ _ _ l.i (omega arith) l.invariant.0 (rw left),
        w.ys-is ∙ one_left _ _ _ l.i (omega arith) l.invariant.1 (rw left),
      )
    ]

pub returns : goal.returns
returns c =
    let l = c.loop-i in
    record {
      x = whole_rewritten _ _ _ l.i (omega arith) (omega arith) l.invariant.0;
      y = whole_rewritten _ _ _ l.i (omega arith) (omega arith) l.invariant.1;
    }
