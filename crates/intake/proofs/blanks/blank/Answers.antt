-- `blank` meets its contract.
use mathlib.Core.Path.{refl}
use lib.Ieee.{of_bits}
use Rattle.intake.proofs.blanks.blank.Goals as goal

pub returns : goal.returns
unfolding of_bits
returns c = refl
