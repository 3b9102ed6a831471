-- `later_fields` meets its contract. The invariant: the arrays hold what stands before the place, and reading on gives what reading from the start gives.
use Prim.Native.Nat.{◌-◌}
use lib.ListN.{length}
use Rattle.card_file.proofs.Reading.{SoFar}
use Rattle.card_file.proofs.cards.later_fields.Given as goal

abbrev pub invariant-loop-at : goal.invariant-loop-at
invariant-loop-at l = SoFar l.file l.start l.factor l.n l.circles l.m l.masks l.patterns l.areas l.at

abbrev pub decreases-loop-at : goal.decreases-loop-at
decreases-loop-at l = length l.file - l.at
