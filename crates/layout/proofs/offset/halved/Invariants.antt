-- `halved` meets its contract: the answer is that of the halvings that are left, from lo to hi.
use Prim.Native.Nat.{◌-◌}
use mathlib.Core.Path.{◌≡◌}
use Rattle.scope.specs.Numbers.{nought}
use Rattle.scope.specs.Offset.{contains_at, halved, halvings}
use Rattle.layout.proofs.offset.halved.Given as goal

abbrev pub invariant-loop : goal.invariant-loop
invariant-loop l =
    halved (contains_at l.parent l.child l.u) halvings nought l.end ≡ halved (contains_at l.parent l.child l.u) (48 - l.counter) l.lo l.hi
