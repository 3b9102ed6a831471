-- `center_shapes_in_container` meets its contract: the circles stay, or move on both axes.
use mathlib.Core.Path.{sym, ◌∙◌}
use Rattle.layout.proofs.Settled.{circles_stay, circles-centred}
use Rattle.layout.proofs.settling.center_shapes_in_container.Goals as goal

pub returns-then-stays : goal.returns-then-stays
returns-then-stays c =
    let a = c.args in
    circles_stay a.xs.now a.ys.now a.radii.now c.requires.0 c.requires.2 a.width a.height _ _ c.range_of-across.ensures c.range_of-up.ensures (sym c.stays.ensures ∙ c.if-stays.true)

pub returns : goal.returns
returns c =
    let a = c.args in
    rw (c.to_origin.ensures, c.to_origin-2.ensures)
    (circles-centred a.xs.now a.ys.now a.radii.now c.requires.0 c.requires.2 a.width a.height _ _ c.range_of-across.ensures c.range_of-up.ensures (sym c.stays.ensures ∙ c.if-stays.false))
