-- `short_at` meets its contract.
use native.Mathlib.Omega.{arith}
use lib.ListN.{drop}
use Rattle.card_file.proofs.FromBytes.{short_word_is}
use Rattle.card_file.proofs.words.short_at.Goals as goal

pub returns : goal.returns
returns c =
    let a = c.args in
    omega (arith, c.byte_at.ensures.0, c.byte_at-2.ensures.0, short_word_is (drop a.at a.bytes.now) a.k)
