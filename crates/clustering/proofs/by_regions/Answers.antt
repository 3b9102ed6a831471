-- `by_regions` meets its contract: links, closure and numbers in turn.
use native.Mathlib.Omega.{arith}
use mathlib.Core.Bool.{false}
use Rattle.scope.specs.Links.{regions, linked_by_regions}
use Rattle.scope.specs.Closure.{marked, at, closure}
use Rattle.scope.specs.Groups.{clusters}
use Rattle.laws.proofs.Chains.{regions_equivalence}
use Rattle.intake.specs.Limits.{max_circles}
use Rattle.clustering.proofs.Table.{shows-none}
use Rattle.clustering.proofs.Rows.{holds-none, holds-marked}
use Rattle.clustering.proofs.by_regions.Goals as goal

pub hold_selves-requires : goal.hold_selves-requires
hold_selves-requires c = (omega arith, holds-none _ max_circles (omega arith))

pub returns : goal.returns
unfolding clusters
returns c =
    let a = c.args in
    let few = c.requires.0 in
    let links = linked_by_regions a.tolerance (regions a.masks.now a.areas.now) in
    let t = closure a.n (marked a.n links) in
    c.numbered.ensures t
    (c.unpack.ensures (at t) (λ i j. false) (c.close_rows.ensures (marked a.n links) (holds-marked links c.hold_regions.ensures)) (shows-none _ max_circles max_circles few few))
    (regions_equivalence _ _ _)
