-- `any_ink_twice` meets its contract: after i turns the first i inks are those of the circles.
use Prim.Native.Nat.{◌≤◌}
use mathlib.Core.Path.{◌≡◌}
use lib.ListN.{length}
use Rattle.scope.specs.Refusals.{inks}
use Rattle.intake.specs.Limits.{max_circles}
use Rattle.intake.proofs.Overwriting.{over}
use Rattle.intake.proofs.checks.any_ink_twice.Given as goal

abbrev pub invariant-loop-i : goal.invariant-loop-i
invariant-loop-i l =
    (length l.initial.inks ≡ max_circles) × (length l.circles ≤ max_circles) × (length l.inks ≡ max_circles) × (l.inks ≡ over l.i (inks l.circles) l.initial.inks)
