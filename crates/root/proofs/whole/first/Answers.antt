-- `root::whole::first` meets its contract.
use native.Mathlib.Omega.{arith}
use Rattle.root.proofs.WholeLaws.{parabola_bound}
use Rattle.root.proofs.whole.first.Goals as goal

pub overflow_mul-result-2 : goal.overflow_mul-result-2
overflow_mul-result-2 c = let h = parabola_bound c.args.m c.requires.1 in omega arith

pub overflow_mul-result-3 : goal.overflow_mul-result-3
overflow_mul-result-3 c = let h = parabola_bound c.args.m c.requires.1 in omega arith

pub overflow_sub-result : goal.overflow_sub-result
overflow_sub-result c = let h = parabola_bound c.args.m c.requires.1 in omega arith

pub returns : goal.returns
returns c = let h = parabola_bound c.args.m c.requires.1 in omega arith
