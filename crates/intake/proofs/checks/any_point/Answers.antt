-- `any_point` meets its contract: the chain answers as the definition does.
use borrow.Author.Rules.{rules}
use mathlib.Core.Path.{◌∙◌}
use Rattle.std.proofs.Common.{tests}
use Rattle.std.proofs.lemmas.Iterator.{YieldsList-from_slice}
use Rattle.std.proofs.lemmas.Iterator.Search.{any_from_yields_List}
use Rattle.scope.specs.Refusals.{bad_point}
use Rattle.intake.proofs.Listed.{any_listed}
use Rattle.intake.proofs.checks.any_point.Goals as goal

pub returns : goal.returns
returns c =
    any_from_yields_List bad_point _ _ _ c.any.ensures.ran (YieldsList-from_slice c.args.points.now cc) (λ x b q k. search (rules, tests))
    ∙ any_listed bad_point c.args.points.now
