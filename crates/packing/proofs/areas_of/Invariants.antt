-- `areas_of` meets its contract, box by box.
use lib.Ieee.{nan}
use Rattle.scope.specs.Numbers.{◌*ᶠ◌}
use Rattle.intake.specs.Columns.{at}
use Rattle.packing.specs.Lists.{At}
use Rattle.packing.proofs.areas_of.Given as goal

abbrev pub invariant-loop-i : goal.invariant-loop-i
invariant-loop-i l = At l.i l.areas nan (λ b. at l.widths b *ᶠ at l.heights b)
