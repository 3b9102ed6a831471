-- `is_rising` meets its contract: each neighbour is looked at.
use borrow.Author.Rules.{rules}
use lib.Dec.{ltb}
use Rattle.std.proofs.Common.{tests}
use Rattle.std.proofs.lemmas.List.Sorted.{answers_always}
use Rattle.intake.proofs.Listed.{rising_answered}
use Rattle.intake.proofs.checks.is_rising.Goals as goal

pub returns : goal.returns
returns c = rising_answered _ _ (c.is_sorted_by.ensures.cases ltb (answers_always _ _ _ (λ f a r g k. search (rules, tests))))
