-- `is_wrong_length` meets its contract.
use Rattle.scope.specs.CardFile.{wrong_length}
use Rattle.card_file.proofs.fields.is_wrong_length.Goals as goal

pub returns : goal.returns
unfolding wrong_length
returns c = rw (c.stated_length.ensures, c.body_length.ensures.0, c.requires)
