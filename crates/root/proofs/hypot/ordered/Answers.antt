-- `root::hypot::ordered` meets its contract: both subnormal, the smaller idle, or both in the sum.
use Rattle.root.proofs.PairLaws.{small-patterns, far_patterns, near-patterns}
use Rattle.root.proofs.hypot.ordered.Goals as goal

pub returns-then-a-lt-LEADING : goal.returns-then-a-lt-LEADING
returns-then-a-lt-LEADING c = small-patterns c.args.a c.args.b c.requires.0 c.if-a-lt-LEADING.true c.subnormal.result c.subnormal.ensures

pub returns-then-d-ge-APART : goal.returns-then-d-ge-APART
returns-then-d-ge-APART c =
    let y = c.in_units-y in
    let x = c.in_units-x in
    far_patterns c.args.a c.args.b x.result.digits x.result.exponent y.result.digits y.result.exponent x.ensures y.ensures c.requires.0 c.if-a-lt-LEADING.false c.requires.1 c.if-d-ge-APART.true

pub returns : goal.returns
returns c =
    let y = c.in_units-y in
    let x = c.in_units-x in
    near-patterns c.args.a c.args.b x.result.digits x.result.exponent y.result.digits y.result.exponent x.ensures y.ensures c.requires.0 c.joined.result c.joined.ensures
