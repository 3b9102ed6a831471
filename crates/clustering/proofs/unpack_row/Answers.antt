-- `unpack_row` meets its contract: row i is cleared, and shows the places of the word that are not left.
use Rattle.intake.specs.Limits.{max_circles}
use Rattle.clustering.proofs.Places.{still_places}
use Rattle.clustering.proofs.Packing.{places-start, places_more, places_end}
use Rattle.clustering.proofs.unpack_row.Goals as goal

pub loop-rest-preserved : goal.loop-rest-preserved
loop-rest-preserved c =
    let l = c.loop-rest in
    let a = c.args in
    let first = c.first_of-j.ensures in
    let there = l.invariant.0 _ (first.0.found (first.1 c.loop-rest-test.true)) in
    let taken = c.without_first-rest.ensures.1 _ first.0 in
    (still_places a.row l.rest _ _ l.invariant.0 taken, λ n f s. places_more n f a.i a.row _ l.rest _ there taken (l.invariant.1 n f s))

pub returns : goal.returns
returns c =
    let a = c.args in
    λ n f h s. places_end n f a.i a.row _ c.loop-rest-test.false (c.loop-rest.invariant.1 n f (places-start n f a.i a.row max_circles h s))
