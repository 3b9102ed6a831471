-- `sheet` meets its contract, circle by circle.
use native.Mathlib.Omega.{arith}
use mathlib.Core.Path.{◌≡◌, ◌∙◌}
use lib.Ieee.{div, neg, of_bits}
use lib.ListN.{length}
use Rattle.scope.specs.Links.{nowhere}
use Rattle.scope.specs.Gauge.{nothing}
use Rattle.scope.specs.Runs.{gather}
use Rattle.card_stock.proofs.Sheets.{first_box_next, first-box_all}
use Rattle.card_stock.proofs.sheet.Goals as goal

pub loop-c-init : goal.loop-c-init
unfolding gather nothing div neg of_bits
loop-c-init c = c.new-b.ensures

pub loop-c-preserved : goal.loop-c-preserved
unfolding nowhere
loop-c-preserved c =
    let l = c.loop-c in
    c.union-b.ensures ∙ rw (l.invariant, c.bounds.ensures) (first_box_next c.args.circles.now l.c-index)

pub returns : goal.returns
returns c =
    let l = c.loop-c in
    let all : l.c-index ≡ length c.args.circles.now = omega arith in
    rw all at l.invariant ∙ first-box_all _
