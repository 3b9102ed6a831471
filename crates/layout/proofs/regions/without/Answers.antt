-- `without` meets its contract: a mask with bit i is at least 2^i.
use native.Mathlib.Omega.{arith}
use Rattle.layout.proofs.MaskShifts.{held_at_least}
use Rattle.layout.proofs.regions.without.Goals as goal

pub overflow_sub-result : goal.overflow_sub-result
overflow_sub-result c = omega (arith, held_at_least _ _ c.requires.1, c.only.ensures)
