-- `put_line` meets its contract.
use native.Mathlib.Omega.{arith}
use mathlib.Core.List.{append_assoc}
use Rattle.scope.specs.Text.{bytes}
use Rattle.scope.specs.Print.{line}
use Rattle.card_output.proofs.Putting.{put_both, put_equal}
use Rattle.card_output.proofs.lines.put_line.Goals as goal

pub returns : goal.returns
unfolding line bytes
returns c =
    let numbers = c.put_pair-numbers_end.ensures in
    let x = c.put_float-x_end.ensures in
    let y = c.put_float-y_end.ensures in
    let radius = c.put_float-radius_end.ensures in
    let ink = c.put_count-ink_end.ensures in
    let end = c.put_byte.ensures in (
      put_equal (simp append_assoc) (put_both (put_both (put_both (put_both (put_both numbers.0 x.0) y.0) radius.0) ink.0) end),
      omega (arith, numbers.1, x.1, y.1, radius.1, ink.1, end.place),
      λ h. omega (arith, numbers.2 h, x.1, y.1, radius.1, ink.1, end.place),
    )
