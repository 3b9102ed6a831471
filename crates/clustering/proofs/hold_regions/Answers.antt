-- `hold_regions` meets its contract: the rows hold the links of the first k regions.
use native.Mathlib.Omega.{arith}
use mathlib.Core.Path.{sym, ◌∙◌}
use lib.ListN.{get_or}
use Rattle.clustering.proofs.Linking.{first_links, no_links, links_taken, links_left, all_links, cut_mask}
use Rattle.clustering.proofs.hold_regions.Goals as goal
use Rattle.clustering.proofs.hold_regions.Goals.{then-exceeds, else-exceeds}

pub loop-k-init : goal.loop-k-init
loop-k-init c = no_links _ _ c.args.masks.now c.args.areas.now c.requires.2

pub loop-k-preserved : goal.loop-k-preserved
loop-k-preserved c =
    let l = c.loop-k in
    let a = c.args in
    let p = c.requires in
    let circles = c.below-circles.ensures in
    let e = sym c.exceeds.ensures in
    elim c.if-exceeds.branch [
      | then-exceeds w ↦ rw w.rows-is (links_taken _ _ _ p.1 _ (omega arith) _ _ circles (e ∙ w.if-exceeds.true)
          (w.hold.ensures a.n (first_links _ a.masks.now a.areas.now l.k) p.0 l.invariant
          (λ j out. cut_mask _ _ (get_or a.masks.now l.k 0) j circles out)))
      | else-exceeds w ↦ rw w.rows-is (links_left _ _ _ p.1 _ (omega arith) _ (e ∙ w.if-exceeds.false) l.invariant)
    ]

pub returns : goal.returns
returns c = all_links _ _ _ _ _ c.requires.1 (omega arith) c.loop-k.invariant
