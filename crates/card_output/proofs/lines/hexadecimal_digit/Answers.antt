-- `hexadecimal_digit` meets its contract.
use borrow.Author.Tests.{lt-ltb, le-ltb}
use Rattle.scope.specs.Print.{hex_digit}
use Rattle.card_output.proofs.lines.hexadecimal_digit.Goals as goal

pub returns-then-d-lt10 : goal.returns-then-d-lt10
unfolding hex_digit
returns-then-d-lt10 c = rw (lt-ltb _ 10 c.if-d-lt10.true)

pub returns-else-d-lt10 : goal.returns-else-d-lt10
unfolding hex_digit
returns-else-d-lt10 c = rw (le-ltb _ 10 c.if-d-lt10.false)
