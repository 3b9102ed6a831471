-- `Numbers::give` meets its contract: the places before j have been written.
use native.Mathlib.Omega.{arith}
use mathlib.Core.Path.{◌≡◌}
use Rattle.std.proofs.Common.{eq-eqb, ne_eqb}
use mathlib.Core.Bool.{not, cond}
use lib.Dec.{eqb}
use lib.ListN.{get_or}
use Rattle.clustering.proofs.Numbering.{given_next, given_all, row_test}
use Rattle.clustering.proofs.Numbers.give.Goals as goal
use Rattle.clustering.proofs.Numbers.give.Goals.{then-marked, else-marked, then-marked-2, else-marked-2}

pub loop-j-preserved : goal.loop-j-preserved
loop-j-preserved c =
    let x = c.if-marked in
    let l = c.loop-j in
    let a = c.args in
    let hj = c.loop-j-test.true in
    let marked = not (eqb (get_or a.row.now l.j 0) 0) in
    let number : x.self ≡ cond marked a.number (get_or l.self.numbers l.j 0) =
    elim x.branch [
      | then-marked w ↦ rw (ne_eqb _ _ w.if-marked.true) w.self-is
      | else-marked w ↦ rw (eq-eqb _ _ w.if-marked.false) w.self-is
    ] in
    let seen : c.if-marked-2.self ≡ cond marked 1 (get_or l.self.seen l.j 0) =
    elim c.if-marked-2.branch [
      | then-marked-2 w ↦ rw (ne_eqb _ _ w.if-marked-2.true) w.self-is
      | else-marked-2 w ↦ rw (eq-eqb _ _ w.if-marked-2.false) w.self-is
    ] in
    λ p r.
    let g = l.invariant p r in
    let test = row_test a.n a.row.now p l.j hj r in
    (given_next l.j x.self marked test number g.0, given_next l.j c.if-marked-2.self marked test seen g.1)

pub returns : goal.returns
returns c =
    let l = c.loop-j in
    λ p r.
    let g = l.invariant p r in
    (given_all _ _ (omega arith) c.loop-j-test.false g.0, given_all _ _ (omega arith) c.loop-j-test.false g.1)
