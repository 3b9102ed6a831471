-- `put_bytes` meets its contract: after i turns the first i bytes are put.
use lib.ListN.{take}
use Rattle.card_output.specs.Puts.{Put}
use Rattle.card_output.proofs.puts.put_bytes.Given as goal

abbrev pub invariant-loop-byte : goal.invariant-loop-byte
invariant-loop-byte l = Put (take l.byte-index l.bytes) l.at l.initial.out l.next l.out
