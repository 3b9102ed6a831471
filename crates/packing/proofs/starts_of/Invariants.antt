-- `starts_of` meets its contract: the sum is where line j starts.
use Rattle.std.proofs.Common.{◌≡◌}
use lib.Ieee.{nan}
use Rattle.scope.specs.Packing.{start}
use Rattle.intake.specs.Columns.{at}
use Rattle.packing.specs.Lists.{At}
use Rattle.packing.proofs.starts_of.Given as goal

abbrev pub invariant-loop-j : goal.invariant-loop-j
invariant-loop-j l = (l.sum ≡ start (at l.breadths) l.j) × At l.j l.cells nan (start (at l.breadths))
