-- `circle_of` meets its contract.
use Rattle.scope.specs.CardFile.{circle_from}
use Rattle.card_file.proofs.fields.circle_of.Goals as goal

pub returns : goal.returns
unfolding circle_from
returns c =
    rw (
      c.float_of-x.ensures,
      c.word_at.ensures,
      c.float_of-y.ensures,
      c.word_at-2.ensures,
      c.float_of-radius.ensures,
      c.word_at-3.ensures,
      c.short_at-ink.ensures,
    )
