-- `root::hypot::beside_nan` meets its contract, by the kind of the number.
use lib.Ieee.{of_bits, div, neg}
use Rattle.root.proofs.OperandLaws.{plus_infinity_beside, minus_infinity_beside, others_beside}
use Rattle.root.proofs.hypot.beside_nan.Goals as goal

pub returns-then-x : goal.returns-then-x
unfolding of_bits div
returns-then-x c = plus_infinity_beside c.args.x c.if-x.true

pub returns-then-x-2 : goal.returns-then-x-2
unfolding of_bits div neg
returns-then-x-2 c = minus_infinity_beside c.args.x c.if-x-2.true

pub returns : goal.returns
unfolding of_bits div neg
returns c = others_beside c.args.x c.if-x.false c.if-x-2.false
