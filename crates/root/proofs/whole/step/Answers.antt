-- `root::whole::step` meets its contract.
use native.Mathlib.Omega.{arith}
use Rattle.root.proofs.WholeLaws.{quotient_lt}
use Rattle.root.proofs.whole.step.Goals as goal

pub overflow_add-result : goal.overflow_add-result
overflow_add-result c = let a = c.args in let h = quotient_lt a.m a.s c.requires.0 c.requires.1 in omega arith

pub returns : goal.returns
returns c = let a = c.args in let h = quotient_lt a.m a.s c.requires.0 c.requires.1 in omega arith
