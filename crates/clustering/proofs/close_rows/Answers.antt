-- `close_rows` meets its contract: the rows before i are closed.
use Rattle.clustering.proofs.Growing.{row_closed, all_closed}
use Rattle.clustering.proofs.close_rows.Goals as goal

pub loop-i-preserved : goal.loop-i-preserved
loop-i-preserved c =
    let hi = c.loop-i-test.true in
    let l = c.loop-i.invariant in
    λ t s. row_closed _ t _ _ (c.grown.ensures _ t c.requires hi (l t s)) (l t s)

pub returns : goal.returns
returns c = λ t s. all_closed _ t _ c.loop-i-test.false (c.loop-i.invariant t s)
