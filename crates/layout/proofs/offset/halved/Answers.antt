-- `halved` meets its contract: the answer is that of the halvings that are left, from lo to hi.
use Prim.Native.Nat.{suc, ◌+◌, ◌-◌}
use native.Mathlib.Omega.{arith}
use mathlib.Core.Path.{◌≡◌, refl, sym, ◌∙◌}
use lib.Ieee.{of_bits}
use Rattle.scope.specs.Offset.{halvings}
use Rattle.layout.proofs.OffsetSearch.{halved-done, halved-down, halved-up}
use Rattle.layout.proofs.offset.halved.Goals as goal
use Rattle.layout.proofs.offset.halved.Goals.{then-contains_at, else-contains_at}

pub loop-init : goal.loop-init
unfolding halvings of_bits
loop-init c = refl

pub loop-preserved : goal.loop-preserved
unfolding of_bits
loop-preserved c =
    let inside = sym c.contains_at.ensures in
    let one_less : 48 - c.loop.counter ≡ suc (48 - (c.loop.counter + 1)) = omega arith in
    elim c.if-contains_at.branch [
      | then-contains_at w ↦ rw (w.lo-is, w.hi-is) (c.loop.invariant ∙ rw one_less (halved-up _ _ _ _ (inside ∙ w.if-contains_at.true)))
      | else-contains_at w ↦ rw (w.lo-is, w.hi-is) (c.loop.invariant ∙ rw one_less (halved-down _ _ _ _ (inside ∙ w.if-contains_at.false)))
    ]

pub returns : goal.returns
returns c = sym (c.loop.invariant ∙ halved-done _ _ _ _ (omega arith))
