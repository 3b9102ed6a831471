-- `root::pattern::subnormal` meets its contract: each turn doubles the digits and takes one from the exponent.
use native.Mathlib.Omega.{arith}
use Rattle.root.proofs.ScaleLaws.{exponent_left, shift, shifted_is_normal}
use Rattle.root.proofs.pattern.subnormal.Goals as goal

pub overflow_sub-exponent : goal.overflow_sub-exponent
overflow_sub-exponent c = let s = c.loop-digits in exponent_left c.args.b s.digits s.exponent c.requires.0 s.invariant c.loop-digits-test.true

pub loop-digits-smaller : goal.loop-digits-smaller
loop-digits-smaller c = let s = c.loop-digits in let h = exponent_left c.args.b s.digits s.exponent c.requires.0 s.invariant c.loop-digits-test.true in omega arith

pub loop-digits-preserved : goal.loop-digits-preserved
loop-digits-preserved c = let s = c.loop-digits in shift c.args.b s.digits s.exponent c.requires.0 s.invariant c.loop-digits-test.true

pub returns : goal.returns
returns c = let s = c.loop-digits in shifted_is_normal c.args.b s.digits s.exponent c.requires.1 s.invariant c.loop-digits-test.false
