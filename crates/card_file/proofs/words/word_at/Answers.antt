-- `word_at` meets its contract.
use native.Mathlib.Omega.{arith}
use Rattle.card_file.proofs.FromBytes.{word_is}
use Rattle.card_file.proofs.words.word_at.Goals as goal

pub returns : goal.returns
returns c =
    let a = c.args in
    omega (arith, c.half_at.ensures.0, c.half_at-2.ensures.0, word_is a.bytes.now a.at)
