-- `is_short` meets its contract: what is left behind the circles holds 19 bytes fewer than m times.
use Prim.Native.Nat.{◌+◌, ◌*◌}
use native.Mathlib.Decide.{dec_lt}
use native.Mathlib.Omega.{arith}
use borrow.Author.Tests.{lt-ltb, le-ltb}
use Rattle.scope.specs.Refusals.{too_short}
use Rattle.card_output.proofs.writing.is_short.Goals as goal

pub returns-then-room-before : goal.returns-then-room-before
unfolding too_short
returns-then-room-before c =
    let a = c.args in
    rw (lt-ltb a.room (11 + 29 * a.n + 19 * a.m) (omega arith)) (lt-ltb _ _ c.if-room-before.true)

pub returns-else-room-before : goal.returns-else-room-before
unfolding too_short
returns-else-room-before c =
    let a = c.args in
    let size = 11 + 29 * a.n + 19 * a.m in
    elim (dec_lt a.room size) [
      | yes h ↦ rw (lt-ltb a.room size h) (omega (arith, lt-ltb))
      | no h ↦ rw (le-ltb a.room size (omega arith)) (omega (arith, le-ltb))
    ]
