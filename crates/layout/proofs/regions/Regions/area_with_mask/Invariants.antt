-- `area_with_mask` meets its contract: no region passed has the mask.
use mathlib.Core.Path.{◌≡◌}
use lib.ListN.{drop}
use Rattle.scope.specs.Links.{regions}
use Rattle.scope.specs.Offset.{area_with_mask}
use Rattle.layout.proofs.regions.Regions.area_with_mask.Given as goal

abbrev pub invariant-loop-k : goal.invariant-loop-k
invariant-loop-k l =
    let all = regions l.self.masks.now l.self.areas.now in
    area_with_mask l.mask all ≡ area_with_mask l.mask (drop l.k all)
