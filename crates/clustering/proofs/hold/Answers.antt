-- `hold` meets its contract: the mask has been joined to the rows of its circles but those of `rest`.
use Rattle.clustering.proofs.Places.{still_places}
use Rattle.clustering.proofs.Rows.{mask_step, mask_end}
use Rattle.clustering.proofs.hold.Goals as goal

pub loop-rest-preserved : goal.loop-rest-preserved
loop-rest-preserved c =
    let l = c.loop-rest in
    let q = c.first_of-i.ensures in
    let there = q.0.found (q.1 c.loop-rest-test.true) in
    let after = c.without_first-rest.ensures.1 _ q.0 in (
      still_places _ l.rest _ _ l.invariant.0 after,
      λ n f hn s out. mask_step n _ l.rest _ _ f (l.invariant.0 _ there) there after out (l.invariant.1 n f hn s out),
    )

pub returns : goal.returns
returns c = λ n f hn s out. mask_end n _ f (rw c.loop-rest-test.false at (c.loop-rest.invariant.1 n f hn s out))
