-- `bits_of` meets its contract.
use mathlib.Core.Path.{◌∙◌}
use lib.Ieee.{of_bits}
use Rattle.scope.specs.Print.{bits_of}
use Rattle.bits.proofs.bits_of.Goals as goal

pub returns-then-x : goal.returns-then-x
unfolding bits_of of_bits
returns-then-x c = rw c.if-x.true

pub returns-else-x : goal.returns-else-x
unfolding bits_of of_bits
returns-else-x c = c.pattern_of.ensures ∙ rw c.if-x.false
