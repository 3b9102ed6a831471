-- `middle` meets its contract.
use mathlib.Core.Path.{refl}
use lib.Ieee.{add, div, of_bits}
use Rattle.layout.proofs.axis.middle.Goals as goal

pub returns : goal.returns
unfolding div add of_bits
returns c = refl
