-- `gauged_clusters` meets its contract, cluster by cluster.
use mathlib.Core.Path.{◌≡◌}
use mathlib.Core.List.{List}
use lib.Ieee.{Float}
use Rattle.scope.specs.Runs.{in_turn}
use Rattle.scope.specs.Gauge.{in_cluster, rotate_cluster}
use Rattle.intake.specs.Columns.{circles_of, Lifted}
use Rattle.layout.proofs.gauge.gauged_clusters.Given as goal

abbrev pub invariant-loop-a : goal.invariant-loop-a
invariant-loop-a l =
    (rs : List Float) → Lifted rs
    → circles_of l.xs l.ys rs ≡ in_turn l.a (λ b. rotate_cluster (in_cluster l.numbers b)) (circles_of l.initial.xs l.initial.ys rs)
