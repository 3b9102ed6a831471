-- `turn_of` meets its contract.
use Rattle.scope.specs.Gauge.{turn}
use Rattle.layout.proofs.gauge.turn_of.Goals as goal

pub returns : goal.returns
unfolding turn
returns c =
    rw (c.root_or_nan-h.ensures, c.maximum-m.ensures, c.absolute-2.ensures, c.absolute.ensures)
