-- `root_or_nan` meets its contract: an accepted number has its root, and a refused one none.
use lib.Ieee.{of_bits, div}
use Rattle.root.proofs.Callers.{root-given, root-refused}
use Rattle.refusals.specs.Numbers.{number}
use Rattle.geometry.proofs.lengths.root_or_nan.Goals as goal

pub returns-in-Ok : goal.returns-in-Ok
returns-in-Ok c = root-given _ _ c.in-Ok.ensures

pub returns-in-Err : goal.returns-in-Err
unfolding of_bits div
returns-in-Err c = root-refused _ (number c.in-Err.field-0) c.in-Err.ensures
