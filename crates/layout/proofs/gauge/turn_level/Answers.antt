-- `turn_level` meets its contract: no turn, or that of both coordinates.
use mathlib.Core.Path.{sym, ◌∙◌}
use Rattle.scope.specs.Gauge.{in_cluster}
use Rattle.layout.specs.Turns.{turned_xs, turned_ys}
use Rattle.layout.proofs.Gauged.{x-turned, y-turned}
use Rattle.layout.proofs.gauge.turn_level.Goals as goal

pub returns-then-is_level : goal.returns-then-is_level
unfolding turned_xs turned_ys
returns-then-is_level c =
    let h = sym c.is_level.ensures ∙ c.if-is_level.true in
    record { x = rw h; y = rw h }

pub returns : goal.returns
returns c =
    let a = c.args in
    let member = in_cluster a.numbers.now a.a in
    let t = c.turn_of.ensures in
    let uneven = sym c.is_level.ensures ∙ c.if-is_level.false in
    let r = c.all_turned.ensures in record { x = rw r.x (x-turned member a.xs.now a.ys.now a.first a.second _ t uneven); y = rw r.y (y-turned member a.xs.now a.ys.now a.first a.second _ t uneven) }
