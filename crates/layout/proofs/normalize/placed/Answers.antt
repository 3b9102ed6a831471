-- `placed` meets its contract: gauge, packing and centring in turn.
use native.Mathlib.Omega.{arith}
use mathlib.Core.Path.{ap, ◌∙◌}
use Rattle.scope.specs.Centring.{centred_layout}
use Rattle.layout.proofs.normalize.placed.Goals as goal

pub pack_clusters-padding-requires : goal.pack_clusters-padding-requires
pack_clusters-padding-requires c =
    let p = c.requires in
    let g = c.gauged_clusters in
    (omega (arith, p.0, g.auto), omega (arith, p.1, g.auto), omega (arith, p.2, g.auto), p.3, p.4, p.5, rw (g.ensures _ p.3) p.6)

pub center_layout-requires : goal.center_layout-requires
center_layout-requires c =
    let p = c.requires in
    let g = c.gauged_clusters in
    let k = c.pack_clusters-padding in
    (omega (arith, p.0, g.auto, k.auto), omega (arith, p.1, g.auto, k.auto), p.3)

pub returns : goal.returns
returns c =
    let same = c.gauged_clusters.ensures c.args.radii.now c.requires.3 in
    let packed = c.pack_clusters-padding.ensures in
    record { padding = rw same at packed.padding; circles = c.center_layout.ensures ∙ ap centred_layout (rw same at packed.circles) }
