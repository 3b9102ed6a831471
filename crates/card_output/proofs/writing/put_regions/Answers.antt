-- `put_regions` meets its contract: with the fields of the regions that are left, all are put.
use Rattle.std.proofs.Common.{rules, arith, sym, ◌∙◌, inl, inr}
use Rattle.card_output.proofs.PutFields.{regions_begin, region_next, regions_end}
use Rattle.card_output.proofs.writing.put_regions.Goals as goal

pub loop-mask-init : goal.loop-mask-init
loop-mask-init c = regions_begin _ _ _ _ (search rules) (search rules) c.requires.0 c.requires.1

pub put_region-next-requires : goal.put_region-next-requires
put_region-next-requires c =
    let h = rw c.in-Some.ensures.steps.0 at c.loop-mask.invariant.room in
    omega (arith, h)

pub loop-mask-preserved : goal.loop-mask-preserved
loop-mask-preserved c =
    let h = c.in-Some.ensures.steps in
    region_next c.loop-mask.invariant h.0 h.1 c.put_region-next.ensures c.put_region-next.auto.out

pub returns : goal.returns
returns c =
    let left = c.loop-mask.invariant in
    regions_end left (elim c.in-None.ensures.steps [ inl h ↦ h.1.0 | inr h ↦ sym left.even ∙ h.1.0 ])
