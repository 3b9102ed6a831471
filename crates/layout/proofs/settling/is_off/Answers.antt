-- `is_off` meets its contract.
use Rattle.scope.specs.Numbers.{e_12}
use Rattle.layout.proofs.settling.is_off.Goals as goal

pub returns-then-absolute : goal.returns-then-absolute
unfolding e_12
returns-then-absolute c = rw (← c.absolute.ensures, c.if-absolute.true)

pub returns-else-absolute : goal.returns-else-absolute
unfolding e_12
returns-else-absolute c = rw (← c.absolute.ensures, c.if-absolute.false, ← c.absolute-else-absolute.ensures)
