-- `cluster_ranges` meets its contract: after i circles each cluster has the range of those of the first i that are its own.
use native.Mathlib.Omega.{arith}
use mathlib.Core.Path.{◌≡◌, ◌∙◌}
use mathlib.Core.Bool.{true, false}
use Prim.Native.Nat.{◌<◌}
use lib.ListN.{length, get_or, replicate}
use lib.Ieee.{inf, neg, div, of_bits}
use Rattle.rounding.specs.Extremes.{minimum, maximum}
use Rattle.layout.specs.Ranges.{low_end, high_end}
use Rattle.layout.proofs.ClusterBoxes.{ends-at_first, ends_next}
use Rattle.layout.proofs.boxes.cluster_ranges.Goals as goal

pub loop-i-init : goal.loop-i-init
unfolding div neg of_bits
loop-i-init c =
    let a = c.args in
    let lows : c.fill.new.self ≡ replicate (length a.lows.now) (inf false) = c.fill.ensures.after (λ y e. e) in
    let highs : c.fill-2.new.self ≡ replicate (length a.highs.now) (inf true) = c.fill-2.ensures.after (λ y e. e) in (
      lows ∙ ends-at_first minimum _ a.numbers.now _ (low_end a.coords.now a.radii.now),
      rw c.requires.2 at highs ∙ ends-at_first maximum _ a.numbers.now _ (high_end a.coords.now a.radii.now),
    )

pub loop-i-preserved : goal.loop-i-preserved
loop-i-preserved c =
    let l = c.loop-i in
    let a = c.args in
    let low = low_end a.coords.now a.radii.now in
    let high = high_end a.coords.now a.radii.now in
    let own : get_or a.numbers.now l.i 0 < length a.lows.now = c.requires.3 l.i (omega arith) in (
      rw (c.minimum.ensures, c.from-a.ensures) (ends_next minimum _ a.numbers.now _ low l.i own l.invariant.0),
      rw (c.maximum.ensures, c.from-a.ensures) (ends_next maximum _ a.numbers.now _ high l.i own l.invariant.1),
    )
