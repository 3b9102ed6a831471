-- `put_sixteen` meets its contract: with k digits to come, those before them are put.
use Prim.Native.Nat.{◌-◌}
use Rattle.card_output.specs.Puts.{Put}
use Rattle.card_output.proofs.Digits.{first_digits}
use Rattle.card_output.proofs.lines.put_sixteen.Given as goal

abbrev pub invariant-loop-k : goal.invariant-loop-k
invariant-loop-k l = Put (first_digits l.n (16 - l.k)) l.at l.initial.out l.next l.out
