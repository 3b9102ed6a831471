-- `doubled` meets its contract: the answer is that of the doublings that are left, from hi.
use Prim.Native.Nat.{suc, ◌+◌, ◌-◌}
use native.Mathlib.Omega.{arith}
use mathlib.Core.Path.{◌≡◌, refl, sym, ◌∙◌}
use lib.Ieee.{of_bits}
use Rattle.scope.specs.Offset.{doublings}
use Rattle.layout.proofs.OffsetSearch.{doubled-done, doubled_further, doubled_stops}
use Rattle.layout.proofs.offset.doubled.Goals as goal

pub loop-init : goal.loop-init
unfolding doublings
loop-init c = refl

pub returns-then-not-contains_at : goal.returns-then-not-contains_at
returns-then-not-contains_at c =
    sym (c.loop.invariant ∙ doubled_stops _ _ _ (sym c.contains_at.ensures ∙ c.if-not-contains_at.true))

pub loop-preserved : goal.loop-preserved
unfolding of_bits
loop-preserved c =
    let one_less : 8 - c.loop.counter ≡ suc (8 - (c.loop.counter + 1)) = omega arith in
    c.loop.invariant ∙ rw one_less (doubled_further _ _ _ (sym c.contains_at.ensures ∙ c.if-not-contains_at.false))

pub returns : goal.returns
returns c = sym (c.loop.invariant ∙ doubled-done _ _ _ (omega arith))
