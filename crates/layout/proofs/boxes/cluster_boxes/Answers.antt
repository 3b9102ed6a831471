-- `cluster_boxes` meets its contract: the ends of each axis become its middles and lengths, which are those of the boxes.
use mathlib.Core.Path.{sym, ◌∙◌}
use lib.ListN.{length}
use Rattle.layout.proofs.ClusterBoxes.{middles_across, middles_up, lengths_across, lengths_up}
use Rattle.layout.proofs.boxes.cluster_boxes.Goals as goal

pub cluster_ranges-requires-2 : goal.cluster_ranges-requires-2
cluster_ranges-requires-2 c =
    let p = c.requires in
    (p.1 ∙ sym p.0, p.2 ∙ sym p.0, p.5 ∙ sym p.4, rw p.4 p.6)

pub returns : goal.returns
returns c =
    let a = c.args in
    let x = c.cluster_ranges.ensures in
    let y = c.cluster_ranges-2.ensures in
    let by-x = c.middles_and_lengths.ensures in
    let by-y = c.middles_and_lengths-2.ensures in
    let n = length a.across.now in
    record {
      across = rw (by-x.middles, x.low, x.high) (middles_across n a.numbers.now a.xs.now a.ys.now a.radii.now c.requires.0);
      wide = rw (by-x.lengths, x.low, x.high) (lengths_across n a.numbers.now a.xs.now a.ys.now a.radii.now c.requires.0);
      up = rw (by-y.middles, y.low, y.high, c.requires.4) (middles_up n a.numbers.now a.xs.now a.ys.now a.radii.now c.requires.0);
      high = rw (by-y.lengths, y.low, y.high, c.requires.4) (lengths_up n a.numbers.now a.xs.now a.ys.now a.radii.now c.requires.0);
    }
