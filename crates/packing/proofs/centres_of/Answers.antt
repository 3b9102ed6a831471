-- `centres_of` meets its contract, box by box.
use Rattle.std.proofs.Common.{refl, arith}
use lib.Ieee.{nan, of_bits}
use Rattle.scope.specs.Packing.{centred}
use Rattle.packing.proofs.Arrays.{at_more}
use Rattle.packing.proofs.centres_of.Goals as goal

pub loop-i-preserved : goal.loop-i-preserved
unfolding centred of_bits
loop-i-preserved c = at_more nan _ _ _ _ (omega arith) c.loop-i.invariant refl
