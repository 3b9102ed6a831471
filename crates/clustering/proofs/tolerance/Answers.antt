-- `tolerance` meets its contract.
use Rattle.std.proofs.Common.{◌≡◌, rules}
use lib.Ieee.{of_bits}
use Rattle.std.specs.List.{fold}
use Rattle.std.proofs.lemmas.Iterator.{YieldsList-from_slice}
use Rattle.std.proofs.lemmas.Iterator.Consumers.{fold_from_yields_List}
use Rattle.rounding.specs.Extremes.{maximum}
use Rattle.scope.specs.Numbers.{e_10, nought, abs}
use Rattle.clustering.proofs.Tolerances.{tolerance_folded}
use Rattle.clustering.proofs.tolerance.Goals as goal

pub returns : goal.returns
unfolding of_bits e_10
returns c =
    let folded : c.fold-largest.result ≡ fold (λ so_far x. maximum so_far (abs x)) nought c.args.areas.now =
    fold_from_yields_List _ (λ so_far x. maximum so_far (abs x)) nought _
    c.fold-largest.ensures.ran (YieldsList-from_slice c.args.areas.now cc) (λ a x b q k. search rules) in
    λ ms e. rw c.maximum.ensures (tolerance_folded ms c.args.areas.now e folded)
