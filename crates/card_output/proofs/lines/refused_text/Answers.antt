-- `refused_text` meets its contract: the word, the number and the end of the line, put into an empty buffer.
use native.Mathlib.Omega.{arith}
use mathlib.Core.List.{append_assoc}
use Rattle.scope.specs.Text.{bytes}
use Rattle.scope.specs.Print.{refused_text}
use Rattle.card_output.proofs.Putting.{put_both, put_equal, put_first}
use Rattle.card_output.proofs.lines.refused_text.Goals as goal

pub returns : goal.returns
unfolding refused_text bytes
returns c =
    let number = c.put_count-end.ensures in
    let end = c.put_byte-length.ensures in
    let text = put_first {text = refused_text c.number.result} (put_equal (simp append_assoc) (put_both number.0 end)) in
    rw (← c.number.ensures) (text.0, text.1, omega (arith, number.1, end.place))
