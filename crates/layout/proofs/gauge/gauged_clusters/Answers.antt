-- `gauged_clusters` meets its contract, cluster by cluster.
use native.Mathlib.Omega.{arith}
use native.Mathlib.Numerals.{add-one}
use mathlib.Core.Path.{◌≡◌, refl}
use Rattle.scope.specs.Runs.{in_turn}
use Rattle.scope.specs.Gauge.{gauged}
use Rattle.layout.proofs.gauge.gauged_clusters.Goals as goal

pub loop-a-init : goal.loop-a-init
unfolding in_turn
loop-a-init c = λ rs lifted. refl

pub loop-a-preserved : goal.loop-a-preserved
unfolding in_turn
loop-a-preserved c = λ rs lifted. rw (add-one, ← c.loop-a.invariant rs lifted) (c.rotate_cluster.ensures rs lifted)

pub returns : goal.returns
unfolding gauged
returns c =
    let l = c.loop-a in
    let all : l.a ≡ c.args.count = omega arith in
    λ rs lifted. rw all at (l.invariant rs lifted)
