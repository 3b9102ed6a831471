-- `is_level` meets its contract.
use Rattle.scope.specs.Gauge.{level}
use Rattle.layout.proofs.gauge.is_level.Goals as goal

pub returns-then-is_still : goal.returns-then-is_still
unfolding level
returns-then-is_still c = rw (← c.is_still.ensures, c.if-is_still.true)

pub returns-else-is_still : goal.returns-else-is_still
unfolding level
returns-else-is_still c = rw (← c.is_still.ensures, c.if-is_still.false, ← c.is_flat.ensures)
