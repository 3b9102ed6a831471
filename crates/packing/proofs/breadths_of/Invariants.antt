-- `breadths_of` meets its contract: after i boxes each line has the breadth of the first i.
use Rattle.std.proofs.Common.{length, get_or}
use lib.Ieee.{nan}
use Rattle.scope.specs.Packing.{breadth}
use Rattle.intake.specs.Columns.{at}
use Rattle.packing.specs.Lists.{At}
use Rattle.packing.proofs.breadths_of.Given as goal

abbrev pub invariant-loop-line : goal.invariant-loop-line
invariant-loop-line l =
    At (length l.fn.sides) l.breadths nan (breadth (length l.yielded) (λ b. get_or l.fn.lines b 0) (at l.fn.sides) l.padding)
