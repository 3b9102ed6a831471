-- `put_lines` meets its contract: after i turns the lines of the first i circles are put.
use native.Mathlib.Omega.{arith}
use native.Mathlib.Decide.{dec_lt}
use Rattle.card_output.proofs.Printing.{lines_none, lines_next}
use Rattle.card_output.proofs.lines.put_lines.Goals as goal

pub loop-i-init : goal.loop-i-init
loop-i-init c = (lines_none c.args.circles.now c.args.numbers.now _ _, omega arith)

pub loop-i-preserved : goal.loop-i-preserved
loop-i-preserved c =
    let l = c.loop-i in
    let args = c.args in
    let put = c.put_line-next.ensures in (
      lines_next args.circles.now args.numbers.now l.i _ c.loop-i-test.true l.invariant.0 put.0,
      elim (dec_lt l.i 10) [
        | yes h ↦ omega (arith, l.invariant.1, put.2 h)
        | no h ↦ omega (arith, l.invariant.1, put.1)
      ],
    )
