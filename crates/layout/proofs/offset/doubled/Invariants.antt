-- `doubled` meets its contract: the answer is that of the doublings that are left, from hi.
use Prim.Native.Nat.{◌-◌}
use mathlib.Core.Path.{◌≡◌}
use Rattle.scope.specs.Offset.{contains_at, doubled, doublings}
use Rattle.layout.proofs.offset.doubled.Given as goal

abbrev pub invariant-loop : goal.invariant-loop
invariant-loop l =
    doubled (contains_at l.parent l.child l.u) doublings l.start ≡ doubled (contains_at l.parent l.child l.u) (8 - l.counter) l.hi
