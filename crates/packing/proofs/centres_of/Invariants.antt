-- `centres_of` meets its contract, box by box.
use Rattle.std.proofs.Common.{get_or}
use lib.Ieee.{nan}
use Rattle.scope.specs.Packing.{centred}
use Rattle.intake.specs.Columns.{at}
use Rattle.packing.specs.Lists.{At}
use Rattle.packing.proofs.centres_of.Given as goal

abbrev pub invariant-loop-i : goal.invariant-loop-i
invariant-loop-i l =
    At l.i l.centres nan (λ b. centred (at l.cells (get_or l.lines b 0)) (at l.breadths (get_or l.lines b 0)) (at l.sides b))
