-- `link_circles` meets its contract. Whether two circles overlap does not depend on their order, so row i may be copied from the rows before it.
use native.Mathlib.Omega.{arith}
use mathlib.Core.Path.{◌≡◌, sym, ◌∙◌}
use lib.Dec.{eqb}
use Rattle.scope.specs.Links.{nowhere, linked_by_circles}
use Rattle.laws.proofs.Clusters.{meet}
use Rattle.clustering.proofs.Table.{down, along_taken, along_left, down_taken, down_end}
use Rattle.clustering.proofs.Linking.{met_before}
use Rattle.clustering.proofs.link_circles.Goals as goal
use Rattle.clustering.proofs.link_circles.Goals.{then-j-i, else-j-i, then-linked, else-linked}

pub loop-j-preserved : goal.loop-j-preserved
unfolding nowhere
loop-j-preserved c =
    let l = c.loop-j in
    let a = c.args in
    let cs = a.circles.now in
    let i = c.loop-i.i in
    let f = down eqb (meet cs) i in
    let hi = c.loop-i-test.true in
    let linked : c.if-j-i.linked ≡ meet cs i l.j =
    elim c.if-j-i.branch [
      | then-j-i w ↦ w.linked-is ∙ met_before _ i _ cs hi w.if-j-i.true l.invariant
      | else-j-i w ↦ w.linked-is ∙ w.overlap-linked.ensures
    ]
    in
    elim c.if-linked.branch [
      | then-linked w ↦ rw w.m-is (along_taken _ f (meet cs i) i _ hi (sym linked ∙ w.if-linked.true) l.invariant)
      | else-linked w ↦ rw w.m-is (along_left _ f (meet cs i) i _ (sym linked ∙ w.if-linked.false) l.invariant)
    ]

pub loop-i-preserved : goal.loop-i-preserved
loop-i-preserved c = down_taken _ eqb (meet c.args.circles.now) c.loop-i.i c.loop-j.j (omega arith) c.loop-j.invariant

pub returns : goal.returns
unfolding linked_by_circles
returns c =
    let a = c.args in
    down_end _ eqb (meet a.circles.now) _ c.loop-i-test.false c.loop-i.invariant
