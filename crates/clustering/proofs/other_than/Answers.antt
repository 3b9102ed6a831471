-- `other_than` meets its contract.
use Rattle.laws.proofs.MaskBits.{bit_other}
use Rattle.clustering.proofs.other_than.Goals as goal

pub returns : goal.returns
returns c = λ j. bit_other _ _ j
