-- `padding_of` meets its contract: after some boxes the sum is that of their areas.
use mathlib.Core.Path.{◌≡◌}
use lib.ListN.{length}
use Rattle.scope.specs.Numbers.{◌+ᶠ◌, ◌*ᶠ◌, nought}
use Rattle.scope.specs.Runs.{gather, always}
use Rattle.intake.specs.Columns.{at}
use Rattle.layout.proofs.boxes.padding_of.Given as goal

abbrev pub invariant-loop-width : goal.invariant-loop-width
invariant-loop-width l = l.sum ≡ gather ◌+ᶠ◌ nought always (length l.yielded) (λ a. at l.widths a *ᶠ at l.heights a)
