-- `from` gives the record of packed boxes: after a refusal every number is 0.
use lib.Ieee.{of_bits}
use Rattle.scope.specs.Limits.{circle_cap}
use Rattle.scope.specs.Runs.{filled}
use Rattle.scope.specs.Packing.{no_rectangle}
use Rattle.rundhefja.proofs.answers.PackedFromResultArrayRectangleMAXCIRCLESRefusal.from.Goals as goal

pub returns-in-Err : goal.returns-in-Err
unfolding no_rectangle filled circle_cap of_bits
returns-in-Err c = rw (c.in-Err.is, c.number.ensures)
