-- `is_head_cut` meets its contract.
use Rattle.scope.specs.CardFile.{head_cut}
use Rattle.card_file.proofs.fields.is_head_cut.Goals as goal

pub returns : goal.returns
unfolding head_cut
returns c = rw c.bytes_left.ensures
