-- What was read lies in the room: each turn reads into what is left of it, which a read's count says.
use Rattle.std.proofs.Common.{length, ◌-◌, ◌≤◌}
use Rattle.card.proofs.read_input.Given as goal

abbrev pub invariant-loop-n : goal.invariant-loop-n
invariant-loop-n g l = l.n ≤ length l.room

abbrev pub decreases-loop-n : goal.decreases-loop-n
decreases-loop-n g l = length l.initial.room - l.n
