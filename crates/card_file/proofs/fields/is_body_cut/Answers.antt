-- `is_body_cut` meets its contract.
use Rattle.scope.specs.CardFile.{body_cut}
use Rattle.card_file.proofs.fields.is_body_cut.Goals as goal

pub returns : goal.returns
unfolding body_cut
returns c = rw (c.bytes_left.ensures, c.body_length.ensures.0, c.requires)
