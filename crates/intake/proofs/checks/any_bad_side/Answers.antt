-- `any_bad_side` meets its contract: the chain answers as the definition does.
use borrow.Author.Rules.{rules}
use mathlib.Core.Path.{◌∙◌}
use mathlib.Core.Bool.{Bool, not}
use lib.Ieee.{Float}
use Rattle.std.proofs.Common.{tests}
use Rattle.std.proofs.lemmas.Iterator.{YieldsList-from_slice}
use Rattle.std.proofs.lemmas.Iterator.Search.{any_from_yields_List}
use Rattle.scope.specs.Limits.{side_ok}
use Rattle.intake.proofs.Listed.{any_listed}
use Rattle.intake.proofs.checks.any_bad_side.Goals as goal

pub returns : goal.returns
returns c =
    let bad : Float → Bool = λ x. not (side_ok x) in
    any_from_yields_List bad _ _ _ c.any.ensures.ran (YieldsList-from_slice c.args.sides.now cc) (λ x b q k. search (rules, tests))
    ∙ any_listed bad c.args.sides.now
