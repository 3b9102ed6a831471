-- `total` meets its contract: the sum over the regions passed is known.
use native.Mathlib.Omega.{arith}
use mathlib.Core.Path.{sym, ◌∙◌}
use lib.Ieee.{of_bits}
use Rattle.scope.specs.Numbers.{nought}
use Rattle.scope.specs.Offset.{total}
use Rattle.layout.proofs.RegionFolds.{add_area, gathered_all, gathered_left, gathered_none, gathered_taken}
use Rattle.layout.proofs.regions.Regions.total.Goals as goal
use Rattle.layout.proofs.regions.Regions.total.Goals.{then-holds_above, else-holds_above}

pub loop-k-init : goal.loop-k-init
unfolding of_bits
loop-k-init c = let a = c.args in let r = a.self.now in gathered_none add_area nought a.i nought r.masks.now r.areas.now

pub loop-k-preserved : goal.loop-k-preserved
unfolding of_bits
loop-k-preserved c =
    let l = c.loop-k in
    let a = c.args in
    let r = a.self.now in
    elim c.if-holds_above.branch [
      | then-holds_above w ↦
          let taken = sym c.holds_above.ensures ∙ w.if-holds_above.true in
          rw w.sum-is
          (gathered_taken r.masks.now r.areas.now r.paired add_area nought a.i nought l.k l.sum (omega arith) taken l.invariant)
      | else-holds_above w ↦
          let left = sym c.holds_above.ensures ∙ w.if-holds_above.false in
          rw w.sum-is
          (gathered_left r.masks.now r.areas.now r.paired add_area nought a.i nought l.k l.sum (omega arith) left l.invariant)
    ]

pub returns : goal.returns
unfolding total
returns c =
    let l = c.loop-k in
    let a = c.args in
    let r = a.self.now in
    l.invariant ∙ gathered_all r.masks.now r.areas.now r.paired add_area nought a.i nought l.k (omega arith) (omega arith)
