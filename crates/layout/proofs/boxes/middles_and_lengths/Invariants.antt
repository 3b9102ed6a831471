-- `middles_and_lengths` meets its contract, range by range.
use mathlib.Core.Path.{◌≡◌}
use lib.Ieee.{nan}
use Rattle.scope.specs.Numbers.{◌-ᶠ◌}
use Rattle.scope.specs.Gauge.{middle}
use Rattle.intake.specs.Columns.{at}
use Rattle.intake.proofs.InPlace.{so_far}
use Rattle.layout.proofs.boxes.middles_and_lengths.Given as goal

abbrev pub invariant-loop-i : goal.invariant-loop-i
invariant-loop-i l =
    (l.lows ≡ so_far (λ k low. middle low (at l.initial.highs k)) nan l.i l.initial.lows)
    × (l.highs ≡ so_far (λ k high. high -ᶠ at l.initial.lows k) nan l.i l.initial.highs)
