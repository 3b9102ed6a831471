-- `pack` meets its contract, row by row.
use Rattle.clustering.proofs.Packing.{held_more, held_end}
use Rattle.clustering.proofs.pack.Goals as goal

pub loop-i-preserved : goal.loop-i-preserved
loop-i-preserved c =
    let l = c.loop-i in
    λ f s. held_more _ f l.i _ c.loop-i-test.true (c.packed.ensures f c.loop-i-test.true s) (l.invariant f s)

pub returns : goal.returns
returns c = λ f s. held_end _ f _ c.loop-i-test.false (c.loop-i.invariant f s)
