-- `root::whole::widen` meets its contract, by the laws of the quotient and the remainder.
use Prim.Native.Nat.{◌+◌, ◌*◌, ◌/◌, ◌%◌, ◌^◌}
use native.Mathlib.Omega.{arith}
use Rattle.root.proofs.WholeLaws.{quotient, enough_left, digits_right, digits_one_less, halves-joined}
use Rattle.root.proofs.whole.widen.Goals as goal

pub overflow_mul-u-2 : goal.overflow_mul-u-2
overflow_mul-u-2 c = let a = c.args in let v = quotient a.s a.left (a.lo / 2 ^ 27) c.requires.0 c.requires.3.rest (omega arith) in omega arith

pub overflow_add-u : goal.overflow_add-u
overflow_add-u c = let a = c.args in let v = quotient a.s a.left (a.lo / 2 ^ 27) c.requires.0 c.requires.3.rest (omega arith) in omega arith

pub overflow_add-t : goal.overflow_add-t
overflow_add-t c = let a = c.args in let v = quotient a.s a.left (a.lo / 2 ^ 27) c.requires.0 c.requires.3.rest (omega arith) in omega arith

pub overflow_mul-v : goal.overflow_mul-v
overflow_mul-v c = let a = c.args in let v = quotient a.s a.left (a.lo / 2 ^ 27) c.requires.0 c.requires.3.rest (omega arith) in omega arith

pub overflow_mul-result : goal.overflow_mul-result
overflow_mul-result c = let a = c.args in let p = c.requires in let v = quotient a.s a.left (a.lo / 2 ^ 27) p.0 p.3.rest (omega arith) in omega arith

pub overflow_add-result : goal.overflow_add-result
overflow_add-result c = let a = c.args in let p = c.requires in let v = quotient a.s a.left (a.lo / 2 ^ 27) p.0 p.3.rest (omega arith) in omega arith

pub overflow_sub-result-else-v-u-3 : goal.overflow_sub-result-else-v-u-3
overflow_sub-result-else-v-u-3 c =
    let a = c.args in
    let p = c.requires in
    let n = a.left * 2 ^ 27 + a.lo / 2 ^ 27 in
    enough_left a.m a.s a.left (a.lo / 2 ^ 27) (a.lo % 2 ^ 27) (n / (a.s * 2)) (n % (a.s * 2)) p.0 (omega arith) p.3 (quotient a.s a.left (a.lo / 2 ^ 27) p.0 p.3.rest (omega arith)) c.if-v-u.false

pub returns-then-v-u : goal.returns-then-v-u
returns-then-v-u c =
    let a = c.args in
    let p = c.requires in
    let n = a.left * 2 ^ 27 + a.lo / 2 ^ 27 in
    let w = digits_right a.m a.s a.left (a.lo / 2 ^ 27) (a.lo % 2 ^ 27) (n / (a.s * 2)) (n % (a.s * 2)) p.0 (omega arith) p.3 (quotient a.s a.left (a.lo / 2 ^ 27) p.0 p.3.rest (omega arith)) c.if-v-u.true in
    omega (arith, halves-joined a.lo)

pub returns-else-v-u : goal.returns-else-v-u
returns-else-v-u c =
    let a = c.args in
    let p = c.requires in
    let n = a.left * 2 ^ 27 + a.lo / 2 ^ 27 in
    let w = digits_one_less a.m a.s a.left (a.lo / 2 ^ 27) (a.lo % 2 ^ 27) (n / (a.s * 2)) (n % (a.s * 2)) p.0 (omega arith) p.3 (quotient a.s a.left (a.lo / 2 ^ 27) p.0 p.3.rest (omega arith)) c.if-v-u.false in
    omega (arith, halves-joined a.lo)
