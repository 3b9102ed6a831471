-- `root::root` meets its contract: each test by what it says of the pattern.
use native.Mathlib.Omega.{arith}
use Rattle.root.proofs.AnswerLaws.{when_below, when_zero, when_above}
use Rattle.root.proofs.root.Goals as goal

pub returns-then-b-gt-SIGN : goal.returns-then-b-gt-SIGN
returns-then-b-gt-SIGN c = when_below c.args.x c.well_formed.0.1 (omega (arith, c.if-b-gt-SIGN.true))

pub returns-then-b-eq0 : goal.returns-then-b-eq0
returns-then-b-eq0 c = when_zero c.args.x c.well_formed.0.1 c.if-b-eq0.true

pub returns : goal.returns
returns c =
    when_above c.args.x c.well_formed.0.1 c.positive.result (omega arith) c.if-b-ge-INFINITY.false c.positive.ensures
