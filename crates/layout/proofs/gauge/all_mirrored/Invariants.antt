-- `all_mirrored` meets its contract, number by number.
use mathlib.Core.Path.{◌≡◌}
use mathlib.Core.Bool.{cond}
use lib.Ieee.{nan}
use Rattle.scope.specs.Numbers.{◌-ᶠ◌, ◌*ᶠ◌, two}
use Rattle.scope.specs.Gauge.{in_cluster}
use Rattle.intake.proofs.InPlace.{so_far}
use Rattle.layout.proofs.gauge.all_mirrored.Given as goal

abbrev pub invariant-loop-i : goal.invariant-loop-i
invariant-loop-i l = l.coords ≡ so_far (λ k x. cond (in_cluster l.numbers l.a k) (two *ᶠ l.m -ᶠ x) x) nan l.i l.initial.coords
