-- `root::squares::square` meets its contract.
use mathlib.Core.Path.{refl}
use Prim.Native.Nat.{◌*◌, ◌/◌, ◌%◌, ◌^◌}
use native.Mathlib.Omega.{arith}
use Rattle.root.proofs.SquareLaws.{products, square_is}
use Rattle.root.proofs.squares.square.Goals as goal

pub overflow_mul-m : goal.overflow_mul-m
overflow_mul-m c = let p = products c.args.a c.requires in omega arith

pub overflow_mul-m-2 : goal.overflow_mul-m-2
overflow_mul-m-2 c = let p = products c.args.a c.requires in omega arith

pub overflow_mul-result : goal.overflow_mul-result
overflow_mul-result c = let p = products c.args.a c.requires in omega arith

pub overflow_add-result : goal.overflow_add-result
overflow_add-result c = let p = products c.args.a c.requires in omega arith

pub overflow_mul-result-2 : goal.overflow_mul-result-2
overflow_mul-result-2 c = let p = products c.args.a c.requires in omega arith

pub overflow_add-result-2 : goal.overflow_add-result-2
overflow_add-result-2 c = let p = products c.args.a c.requires in omega arith

pub returns : goal.returns
returns c =
    let a = c.args.a in
    let p = products a c.requires in
    (square_is a (a / 2 ^ 27) (a % 2 ^ 27) (2 * (a / 2 ^ 27 * (a % 2 ^ 27))) (omega arith) refl, omega arith)
