-- `any_repeated` meets its contract: no ink before the rest stands again.
use mathlib.Core.Path.{sym, ◌∙◌}
use Rattle.intake.proofs.Listed.{repeated_next, none_repeated}
use Rattle.intake.proofs.checks.any_repeated.Goals as goal

pub returns-then-contains : goal.returns-then-contains
returns-then-contains c = sym (c.loop-ink.invariant ∙ repeated_next _ c.in-Some.ink.now _ _ c.in-Some.ensures.cases.0 c.contains.ensures.value ∙ rw c.if-contains.true)

pub loop-ink-preserved : goal.loop-ink-preserved
loop-ink-preserved c = c.loop-ink.invariant ∙ repeated_next _ c.in-Some.ink.now _ _ c.in-Some.ensures.cases.0 c.contains.ensures.value ∙ rw c.if-contains.false

pub returns : goal.returns
returns c = sym (c.loop-ink.invariant ∙ none_repeated _ c.in_default.ensures.cases)
