-- `put_lines` meets its contract: after i turns the lines of the first i circles are put.
use Prim.Native.Nat.{◌≤◌, ◌+◌}
use Rattle.card_output.specs.Puts.{Put}
use Rattle.card_output.specs.Texts.{lines_of, lines_room}
use Rattle.card_output.proofs.lines.put_lines.Given as goal

abbrev pub invariant-loop-i : goal.invariant-loop-i
invariant-loop-i l = Put (lines_of l.circles l.numbers l.i) l.at l.initial.out l.next l.out × (l.next ≤ l.at + lines_room l.i)
