-- `root::pattern::subnormal` meets its contract: each turn doubles the digits and takes one from the exponent.
use Rattle.root.proofs.ScaleLaws.{Doubled}
use Rattle.root.proofs.pattern.subnormal.Given as goal

abbrev pub invariant-loop-digits : goal.invariant-loop-digits
invariant-loop-digits l = Doubled l.b l.digits l.exponent

abbrev pub decreases-loop-digits : goal.decreases-loop-digits
decreases-loop-digits l = l.exponent
