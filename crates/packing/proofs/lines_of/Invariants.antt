-- `lines_of` meets its contract, box by box.
use Rattle.std.proofs.Common.{◌/◌, ◌%◌, length}
use Rattle.scope.specs.Packing.{place}
use Rattle.intake.specs.Columns.{at}
use Rattle.packing.specs.Lists.{At}
use Rattle.packing.proofs.lines_of.Given as goal

abbrev pub invariant-loop-i : goal.invariant-loop-i
invariant-loop-i l =
    At l.i l.columns 0 (λ b. place (length l.areas) (at l.areas) b % l.count)
    × At l.i l.rows 0 (λ b. place (length l.areas) (at l.areas) b / l.count)
