-- `no_rectangle` meets its contract.
use Rattle.std.proofs.Common.{refl}
use lib.Ieee.{of_bits}
use Rattle.scope.specs.Packing.{no_rectangle}
use Rattle.packing.proofs.no_rectangle.Goals as goal

pub returns : goal.returns
unfolding no_rectangle of_bits
returns c = refl
