-- `rundhefja_area_clusters` meets its contract: the numbers are those that the clustering gave.
use mathlib.Core.List.{List}
use Prim.Native.Nat.{ℕ}
use Rattle.scope.specs.Links.{regions}
use Rattle.clustering.specs.Answers.{NumbersByChains}
use Rattle.rundhefja.proofs.Given.{numbers-given}
use Rattle.rundhefja.proofs.runs.rundhefja_area_clusters.Goals as goal

pub returns-clause-chains : goal.returns-clause-chains
returns-clause-chains c =
    let a = c.args in
    numbers-given (λ (l : List ℕ). NumbersByChains a.n a.tolerance (regions a.masks.now a.areas.now) l) _ _ c.into.ensures
    c.find_clusters_from_exclusive_regions.ensures.chains
