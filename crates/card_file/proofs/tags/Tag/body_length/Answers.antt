-- `body_length` meets its contract.
use native.Mathlib.Omega.{arith}
use Rattle.scope.specs.CardFile.{length_of_body}
use Rattle.card_file.proofs.tags.Tag.body_length.Goals as goal

pub returns-in-Factor : goal.returns-in-Factor
unfolding length_of_body
returns-in-Factor c = (rw c.in-Factor.is, omega arith)

pub returns-in-Circle : goal.returns-in-Circle
unfolding length_of_body
returns-in-Circle c = (rw c.in-Circle.is, omega arith)

pub returns-in-Region : goal.returns-in-Region
unfolding length_of_body
returns-in-Region c = (rw c.in-Region.is, omega arith)
