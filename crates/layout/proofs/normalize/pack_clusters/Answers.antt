-- `pack_clusters` meets its contract: one cluster stays, several are packed, and the circles go with their boxes.
use native.Mathlib.Omega.{arith}
use mathlib.Core.Path.{◌≡◌, sym, ◌∙◌}
use mathlib.Core.List.{[]}
use borrow.Author.Rules.{rules}
use lib.ListN.{length}
use lib.Ieee.{of_bits}
use Rattle.promises.proofs.packing.PackedCircles.{boxes-length}
use Rattle.layout.proofs.PackedClusters.{boxes_in_front, padding_in_front, few_clusters_stay, packing_takes, packed_by}
use Rattle.layout.proofs.WholeSteps.{not_refused}
use Rattle.layout.proofs.normalize.pack_clusters.Goals as goal

pub returns-then-count-lt2 : goal.returns-then-count-lt2
unfolding of_bits
returns-then-count-lt2 c = let stay = few_clusters_stay _ _ _ _ _ c.if-count-lt2.true in record { padding = stay.0; circles = stay.1 }

pub unwrap-requires : goal.unwrap-requires
unwrap-requires c =
    let p = c.requires in
    let a = c.args in
    let b = c.cluster_boxes in
    let all : length b.new.across ≡ a.count = search rules in
    let e = sym b.auto.across ∙ all in
    let long = boxes-length a.count a.numbers.now _ in
    let pad = c.padding_of-padding.ensures ∙ padding_in_front a.count _ a.numbers.now _ _ _ _ _ _ _ a.factor e b.ensures in
    not_refused _ (c.pack_sides.ensures.number
    ∙ packing_takes a.count a.numbers.now a.factor a.proportion a.xs.now a.ys.now a.radii.now p.0 p.2 p.3 p.4 p.5 (omega arith) long _ _ _ _
    (boxes_in_front a.count _ a.numbers.now _ _ _ _ _ [] _ [] _ e b.ensures) p.6 _ pad)

pub returns : goal.returns
returns c =
    let p = c.requires in
    let a = c.args in
    let b = c.cluster_boxes in
    let all : length b.new.across ≡ a.count = search rules in
    let e = sym b.auto.across ∙ all in
    let long = boxes-length a.count a.numbers.now _ in
    let pad = c.padding_of-padding.ensures ∙ padding_in_front a.count _ a.numbers.now _ _ _ _ _ _ _ a.factor e b.ensures in
    let packing = c.pack_sides.ensures in record {
      padding = pad;
      circles = packed_by a.count a.numbers.now a.factor a.proportion a.xs.now a.ys.now a.radii.now p.0 p.2 p.3 p.4 p.5
          (omega arith) long _ _ _ _
          (boxes_in_front a.count _ a.numbers.now _ _ _ _ _ _ _ _ _ e b.ensures) p.6 _ _ _ _ _ _ _ _ pad packing.number
          packing.x packing.y c.shift.ensures c.shift-2.ensures;
    }
