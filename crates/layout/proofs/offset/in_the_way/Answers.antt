-- `in_the_way` meets its contract.
use borrow.Author.Tests.{eq-eqb, ne_eqb}
use Rattle.layout.proofs.offset.in_the_way.Goals as goal
use Rattle.layout.proofs.offset.in_the_way.Goals.{then-k-i-via-then-k-i, then-k-i-via-else-k-i+then-k-p}

pub returns-then-k-i : goal.returns-then-k-i
returns-then-k-i c =
    elim c.then-k-i.branch [
      | then-k-i-via-then-k-i w ↦ rw (eq-eqb _ _ w.if-k-i.true)
      | then-k-i-via-else-k-i+then-k-p w ↦ rw (ne_eqb _ _ w.if-k-i.false, eq-eqb _ _ w.if-k-p.true)
    ]

pub returns : goal.returns
returns c =
    rw (ne_eqb _ _ c.if-k-i.false, ne_eqb _ _ c.if-k-p.false) c.overlap.ensures
