-- `partner` meets its contract: the partners in the regions passed are known, and two of them are never one again.
use Prim.Native.Nat.{◌+◌}
use native.Mathlib.Omega.{arith}
use mathlib.Core.Path.{sym, ap, ◌∙◌}
use Rattle.scope.specs.Offset.{other_bits}
use Rattle.layout.proofs.ChildParents.{alone, several_partners}
use Rattle.layout.proofs.RegionFolds.{gathered_all, gathered_left, gathered_none, gathered_taken, join_others}
use Rattle.layout.proofs.regions.Regions.partner.Goals as goal
use Rattle.layout.proofs.regions.Regions.partner.Goals.{then-holds_above+else-is_several, else-holds_above}

pub loop-k-init : goal.loop-k-init
loop-k-init c = let a = c.args in let r = a.self.now in gathered_none (join_others a.i) 0 a.i a.tol r.masks.now r.areas.now

pub returns-then-is_several : goal.returns-then-is_several
returns-then-is_several c =
    let l = c.loop-k in
    let a = c.args in
    let r = a.self.now in
    let taken = sym c.holds_above.ensures ∙ c.if-holds_above.true in
    let more =
    gathered_taken r.masks.now r.areas.now r.paired (join_others a.i) 0 a.i a.tol l.k l.others (omega arith) taken l.invariant in
    record {
      is = several_partners a.n a.i a.tol r.masks.now r.areas.now (l.k + 1) _ r.paired (omega arith)
          (rw c.without-others.ensures more) (c.is_several.ensures c.if-is_several.true);
      below = tt;
    }

pub loop-k-preserved : goal.loop-k-preserved
loop-k-preserved c =
    let l = c.loop-k in
    let a = c.args in
    let r = a.self.now in
    elim c.if-holds_above.branch [
      | then-holds_above+else-is_several w ↦
          let taken = sym c.holds_above.ensures ∙ w.if-holds_above.true in
          rw (w.others-is, w.without-others.ensures)
          (gathered_taken r.masks.now r.areas.now r.paired (join_others a.i) 0 a.i a.tol l.k l.others (omega arith) taken l.invariant)
      | else-holds_above w ↦
          let left = sym c.holds_above.ensures ∙ w.if-holds_above.false in
          rw w.others-is
          (gathered_left r.masks.now r.areas.now r.paired (join_others a.i) 0 a.i a.tol l.k l.others (omega arith) left l.invariant)
    ]

pub returns : goal.returns
unfolding other_bits
returns c =
    let l = c.loop-k in
    let a = c.args in
    let r = a.self.now in
    let all =
    l.invariant
    ∙ gathered_all r.masks.now r.areas.now r.paired (join_others a.i) 0 a.i a.tol l.k (omega arith) (omega arith) in
    record { is = c.single.ensures.is ∙ ap (alone a.n) all; below = c.single.ensures.below }
