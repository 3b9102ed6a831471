-- `is_misplaced` meets its contract.
use mathlib.Core.Path.{sym, ap}
use mathlib.Core.Bool.{not, or-false}
use Rattle.scope.specs.CardFile.{misplaced}
use lib.Dec.{eqb}
use Rattle.card_file.proofs.cards.is_misplaced.Goals as goal

pub returns-in-Factor : goal.returns-in-Factor
unfolding misplaced
returns-in-Factor c = λ card e. rw c.in-Factor.is

pub returns-in-Circle : goal.returns-in-Circle
unfolding misplaced
returns-in-Circle c = λ card e. rw (c.in-Circle.is, e) (sym (ap not (or-false (eqb c.args.m 0))))

pub returns-in-Region : goal.returns-in-Region
unfolding misplaced
returns-in-Region c = λ card e. rw c.in-Region.is
