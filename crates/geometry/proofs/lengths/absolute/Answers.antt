-- `absolute` meets its contract, for every f64.
use Rattle.geometry.proofs.Numbers.{size-below_zero, size_of_zero, size_above_zero}
use Rattle.geometry.proofs.lengths.absolute.Goals as goal

pub returns-then-x : goal.returns-then-x
returns-then-x c = size-below_zero _ c.if-x.true

pub returns-then-x-2 : goal.returns-then-x-2
returns-then-x-2 c = size_of_zero _ c.well_formed.0.1 c.if-x-2.true

pub returns : goal.returns
returns c = size_above_zero _ c.if-x.false c.if-x-2.false
