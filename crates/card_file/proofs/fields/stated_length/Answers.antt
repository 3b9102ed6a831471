-- `stated_length` meets its contract.
use Rattle.scope.specs.CardFile.{stated_length}
use Rattle.card_file.proofs.fields.stated_length.Goals as goal

pub returns : goal.returns
unfolding stated_length
returns c = c.short_at.ensures
