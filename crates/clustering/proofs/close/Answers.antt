-- `close` meets its contract: the table is packed, closed in words and unpacked.
use Rattle.scope.specs.Closure.{at, closure}
use Rattle.clustering.proofs.close.Goals as goal

pub returns : goal.returns
returns c =
    λ t s. c.unpack.ensures (at (closure _ t)) (at t) (c.close_rows.ensures t (c.pack.ensures (at t) s)) s
