-- `root::pattern::split` meets its contract: an odd exponent leaves one digit more.
use native.Mathlib.Omega.{arith}
use Rattle.root.proofs.ScaleLaws.{even-split, odd-split}
use Rattle.root.proofs.pattern.split.Goals as goal

pub returns-then-n-eq0 : goal.returns-then-n-eq0
returns-then-n-eq0 c = let n = c.normal-n in even-split c.args.b n.result.digits n.result.exponent n.ensures c.if-n-eq0.true

pub returns-else-n-eq0 : goal.returns-else-n-eq0
returns-else-n-eq0 c =
    let n = c.normal-n in
    let s = odd-split c.args.b n.result.digits n.result.exponent n.ensures c.if-n-eq0.false in
    omega arith
