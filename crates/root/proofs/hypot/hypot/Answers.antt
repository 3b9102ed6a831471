-- `root::hypot::hypot` meets its contract: a NaN first, then numbers.
use Rattle.root.proofs.AnswerLaws.{number_of_test}
use Rattle.root.proofs.OperandLaws.{nan-first, nan_second}
use Rattle.root.proofs.hypot.hypot.Goals as goal

pub returns-then-x : goal.returns-then-x
returns-then-x c = nan-first c.args.x c.args.y c.beside_nan.result c.if-x.true c.beside_nan.ensures.0

pub returns-then-y : goal.returns-then-y
returns-then-y c = nan_second c.args.x c.args.y c.beside_nan-then-y.result c.if-y.true c.beside_nan-then-y.ensures.1

pub numbers-requires : goal.numbers-requires
numbers-requires c = (number_of_test c.args.x c.if-x.false, number_of_test c.args.y c.if-y.false)
