-- `by_circles` meets its contract: links, closure and numbers in turn.
use native.Mathlib.Omega.{arith}
use lib.ListN.{length}
use Rattle.scope.specs.Links.{linked_by_circles}
use Rattle.scope.specs.Closure.{marked, closure}
use Rattle.scope.specs.Groups.{plain_clusters}
use Rattle.laws.proofs.Clusters.{circles_equivalence}
use Rattle.intake.specs.Limits.{max_circles}
use Rattle.clustering.proofs.Table.{shows-none, shows-marked}
use Rattle.clustering.proofs.by_circles.Goals as goal

pub link_selves-requires : goal.link_selves-requires
link_selves-requires c = (omega arith, shows-none _ max_circles max_circles (omega arith) (omega arith))

pub returns : goal.returns
unfolding plain_clusters
returns c =
    let cs = c.args.circles.now in
    let n = length cs in
    let links = linked_by_circles cs in
    let closed = c.close.ensures (marked n links) (shows-marked links c.link_circles.ensures) in
    c.numbered.ensures (closure n (marked n links)) closed (circles_equivalence cs)
