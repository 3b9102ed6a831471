-- `starts_of` meets its contract: the sum is where line j starts.
use Rattle.std.proofs.Common.{refl, arith}
use lib.Ieee.{nan, of_bits}
use Rattle.scope.specs.Packing.{start}
use Rattle.packing.proofs.Arrays.{at_none, at_more}
use Rattle.packing.proofs.Grid.{start_next}
use Rattle.packing.proofs.starts_of.Goals as goal

pub loop-j-init : goal.loop-j-init
unfolding start of_bits
loop-j-init c = (refl, at_none nan _ _)

pub loop-j-preserved : goal.loop-j-preserved
loop-j-preserved c = let l = c.loop-j in (start_next _ l.j l.invariant.0, at_more nan _ _ _ _ (omega arith) l.invariant.1 l.invariant.0)
