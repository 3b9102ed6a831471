-- `any_repeated` meets its contract: no ink before the rest stands again.
use mathlib.Core.Path.{◌≡◌}
use lib.ListN.{length}
use Rattle.scope.specs.Refusals.{repeated}
use Rattle.intake.proofs.checks.any_repeated.Given as goal

abbrev pub invariant-loop-ink : goal.invariant-loop-ink
invariant-loop-ink l = repeated l.inks ≡ repeated l.rest

abbrev pub decreases-loop-ink : goal.decreases-loop-ink
decreases-loop-ink l = length l.rest
