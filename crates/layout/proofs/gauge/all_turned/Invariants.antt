-- `all_turned` meets its contract, circle by circle.
use mathlib.Core.Path.{◌≡◌}
use mathlib.Core.Bool.{cond}
use lib.Ieee.{nan}
use Rattle.scope.specs.Gauge.{in_cluster}
use Rattle.intake.specs.Columns.{at}
use Rattle.intake.proofs.InPlace.{so_far}
use Rattle.layout.specs.Turns.{as_turn, turned_x, turned_y}
use Rattle.layout.proofs.gauge.all_turned.Given as goal

abbrev pub invariant-loop-i : goal.invariant-loop-i
invariant-loop-i l =
    (l.xs ≡ so_far (λ k x. cond (in_cluster l.numbers l.a k) (turned_x (as_turn l.t) l.p l.q x (at l.initial.ys k)) x) nan l.i l.initial.xs)
    × (l.ys
    ≡ so_far (λ k y. cond (in_cluster l.numbers l.a k) (turned_y (as_turn l.t) l.p l.q (at l.initial.xs k) y) y) nan l.i l.initial.ys)
