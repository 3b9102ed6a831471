-- `body_length` meets its contract.
use mathlib.Core.Path.{ap}
use lib.ListN.{length}
use Rattle.rundhefja.proofs.files.body_length.Goals as goal

pub returns : goal.returns
returns c = ap length c.field_body-body.ensures.body
