-- `grown` meets its contract: all that the row holds is reached from i, and it holds the links of each place that has been joined to it.
use Rattle.laws.proofs.PackedRows.{single_shifted}
use Rattle.clustering.proofs.Growing.{left_all, left_new, fewer_left, fewer_left_still, grown-start, grown-row, grown_closed, grown_end}
use Rattle.clustering.proofs.grown.Goals as goal
use Rattle.clustering.proofs.grown.Goals.{then-k-i, else-k-i}

pub loop-rest-init : goal.loop-rest-init
loop-rest-init c = let hi = c.requires in (c.other_than-rest.ensures, λ n t hn h s. rw (single_shifted 64 _ hi) (grown-start n t _ _ h s))

pub loop-rest-smaller : goal.loop-rest-smaller
loop-rest-smaller c =
    let l = c.loop-rest in
    let hk = c.first_of-k.ensures.1 c.loop-rest-test.true in
    let new = left_new l.all l.joined _ l.invariant.0 _ (c.first_of-k.ensures.0.found hk) in
    elim c.if-k-i.branch [ then-k-i w ↦ rw (w.joined-is, single_shifted 64 _ hk) (fewer_left_still _ _ _ hk new _) | else-k-i w ↦ rw (w.joined-is, single_shifted 64 _ hk) (fewer_left _ _ _ hk new) ]

pub loop-rest-preserved : goal.loop-rest-preserved
loop-rest-preserved c =
    let l = c.loop-rest in
    let hk = c.first_of-k.ensures.1 c.loop-rest-test.true in
    let held = left_all l.all l.joined _ l.invariant.0 _ (c.first_of-k.ensures.0.found hk) in (
      c.other_than-rest-in-loop-rest.ensures,
      λ n t hn hi s.
          elim c.if-k-i.branch [ then-k-i w ↦ rw (w.joined-is, single_shifted 64 _ hk) (grown_closed n t _ _ hi s _ _ _ held (l.invariant.1 n t hn hi s) w.if-k-i.true) | else-k-i w ↦ rw (w.joined-is, single_shifted 64 _ hk) (grown-row n t _ _ hi s _ _ _ held (l.invariant.1 n t hn hi s)) ],
    )

pub returns : goal.returns
returns c = let l = c.loop-rest in λ n t hn hi s. grown_end n t _ _ _ _ hi l.invariant.0 c.loop-rest-test.false (l.invariant.1 n t hn hi s)
