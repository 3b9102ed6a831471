-- `printed` meets its contract: the head, then the lines, put into an empty buffer.
use native.Mathlib.Omega.{arith}
use Rattle.scope.specs.Text.{bytes}
use Rattle.card_output.proofs.Putting.{put_both, put_equal, put_first}
use Rattle.card_output.proofs.Printing.{printed_is}
use Rattle.card_output.proofs.lines.printed.Goals as goal

pub returns : goal.returns
unfolding bytes
returns c =
    let a = c.args in
    let pattern = c.bits_of in
    let circles = c.put_count-circles_end.ensures in
    let clusters = c.put_count-clusters_end.ensures in
    let moved = c.put_digits-moved_end.ensures in
    let padding = c.put_digits-padding_end.ensures in
    let end = c.put_byte-head.ensures in
    let rest = c.put_lines-length.ensures in
    let same = printed_is a.circles.now a.laid.now pattern.result pattern.ensures in
    let head = put_both (put_both (put_both (put_both circles.0 clusters.0) moved.0) padding.0) end in
    let text = put_first (put_equal same (put_both head rest.0)) in
    (text.0, text.1, omega (arith, circles.1, clusters.1, moved.1, padding.1, end.place, rest.1))
