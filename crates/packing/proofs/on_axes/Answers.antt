-- `on_axes` meets its contract: areas, lines, and both axes in turn.
use Rattle.std.proofs.Common.{length, arith, rules}
use Rattle.packing.proofs.Packings.{column_inside, row_inside, found_xs, found_ys}
use Rattle.packing.proofs.on_axes.Goals as goal

pub axis-requires : goal.axis-requires
axis-requires c =
    let p = c.requires in
    (search rules, search rules, search rules, search rules, λ i h. column_inside _ _ _ _ _ (rw p.4.1 at c.lines_of.ensures) i h)

pub axis-requires-2 : goal.axis-requires-2
axis-requires-2 c =
    let p = c.requires in
    (omega (arith, p.1, p.4.2, c.lines_of.auto), search rules, omega (arith, p.1, p.4.3, c.axis.auto), omega (arith, p.1, p.4.4, c.axis.auto), rw p.1 (λ i h. row_inside _ _ _ _ _ (rw p.4.1 at c.lines_of.ensures) i h))

pub returns : goal.returns
returns c =
    let p = c.requires in
    let ws = c.args.widths.now in
    let hs = c.args.heights.now in
    let lined = rw p.4.1 at c.lines_of.ensures in
    record { x = found_xs (length ws) ws hs _ _ _ c.areas_of.ensures _ _ lined _ (omega (arith, p.2, c.axis.auto)) c.axis.ensures; y = found_ys (length ws) ws hs _ _ _ c.areas_of.ensures _ _ lined _ (omega (arith, p.3, c.axis-2.auto)) (rw p.1 at c.axis-2.ensures) }
