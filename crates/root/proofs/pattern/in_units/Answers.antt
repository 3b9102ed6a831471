-- `root::pattern::in_units` meets its contract.
use Rattle.root.proofs.ScaleLaws.{subnormal_is_units, normal_is_units}
use Rattle.root.proofs.pattern.in_units.Goals as goal

pub returns-then-b-lt-LEADING : goal.returns-then-b-lt-LEADING
returns-then-b-lt-LEADING c = subnormal_is_units c.args.b c.if-b-lt-LEADING.true

pub returns : goal.returns
returns c = normal_is_units c.args.b c.if-b-lt-LEADING.false
