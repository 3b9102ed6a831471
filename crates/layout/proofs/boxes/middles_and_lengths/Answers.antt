-- `middles_and_lengths` meets its contract, range by range.
use native.Mathlib.Omega.{arith}
use Rattle.intake.proofs.Columns.{whole_rewritten, untouched}
use Rattle.intake.proofs.InPlace.{none_rewritten, one_rewritten}
use Rattle.layout.proofs.boxes.middles_and_lengths.Goals as goal

pub loop-i-init : goal.loop-i-init
loop-i-init c = (none_rewritten _ _ _, none_rewritten _ _ _)

pub loop-i-preserved : goal.loop-i-preserved
loop-i-preserved c =
    let l = c.loop-i in
    let at_low = untouched _ _ _ l.i (omega arith) l.invariant.0 in
    let at_high = untouched _ _ _ l.i (omega arith) l.invariant.1 in (
      one_rewritten _ _ _ l.i (omega arith) l.invariant.0 (rw (c.middle.ensures, at_high)),
      one_rewritten _ _ _ l.i (omega arith) l.invariant.1 (rw at_low),
    )

pub returns : goal.returns
returns c =
    let l = c.loop-i in
    record {
      middles = whole_rewritten _ _ _ l.i (omega arith) (omega arith) l.invariant.0;
      lengths = whole_rewritten _ _ _ l.i (omega arith) (omega arith) l.invariant.1;
    }
