-- `of` meets its contract.
use native.Mathlib.Omega.{arith}
use Rattle.scope.specs.CardFile.{unknown}
use borrow.Author.Tests.{ne_eqb}
use Rattle.card_file.proofs.tags.Tag.of.Goals as goal

pub returns-in_default : goal.returns-in_default
unfolding unknown
returns-in_default c =
    let n = c.args.number in
    rw (ne_eqb n 1 (omega arith), ne_eqb n 2 (omega arith), ne_eqb n 3 (omega arith))
