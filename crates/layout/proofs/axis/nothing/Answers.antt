-- `nothing` meets its contract.
use mathlib.Core.Path.{refl}
use lib.Ieee.{neg, div, of_bits}
use Rattle.layout.proofs.axis.nothing.Goals as goal

pub returns : goal.returns
unfolding div neg of_bits
returns c = refl
