-- `area_with_mask` meets its contract: no region passed has the mask.
use native.Mathlib.Omega.{arith}
use mathlib.Core.Path.{sym, ◌∙◌}
use lib.Ieee.{of_bits}
use borrow.Author.Tests.{eq-eqb, ne_eqb}
use Rattle.layout.proofs.RegionFolds.{area_next, area-none}
use Rattle.layout.proofs.regions.Regions.area_with_mask.Goals as goal

pub returns-then-m-mask : goal.returns-then-m-mask
returns-then-m-mask c =
    let l = c.loop-k in
    let a = c.args in
    let r = a.self.now in
    rw (l.invariant, area_next r.masks.now r.areas.now r.paired a.mask l.k (omega arith), eq-eqb _ _ c.if-m-mask.true)

pub loop-k-preserved : goal.loop-k-preserved
loop-k-preserved c =
    let l = c.loop-k in
    let a = c.args in
    let r = a.self.now in
    rw (l.invariant, area_next r.masks.now r.areas.now r.paired a.mask l.k (omega arith), ne_eqb _ _ c.if-m-mask.false)

pub returns : goal.returns
unfolding of_bits
returns c =
    let l = c.loop-k in
    let a = c.args in
    let r = a.self.now in
    sym (l.invariant ∙ area-none r.masks.now r.areas.now r.paired _ l.k (omega arith))
