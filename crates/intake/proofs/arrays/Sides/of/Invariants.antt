-- `Sides::of` meets its contract: after i turns each array has the first i numbers of its column.
use Prim.Native.Nat.{min}
use mathlib.Core.Path.{◌≡◌}
use lib.ListN.{length, take}
use Rattle.intake.specs.Limits.{max_circles}
use Rattle.intake.specs.Columns.{widths_of, heights_of}
use Rattle.intake.proofs.Overwriting.{over}
use Rattle.intake.proofs.arrays.Sides.of.Given as goal

abbrev pub invariant-loop-i : goal.invariant-loop-i
invariant-loop-i l =
    (l.n ≡ min (length l.rectangles) max_circles)
    × ((length l.initial.widths ≡ max_circles) × (length l.initial.heights ≡ max_circles))
    × ((length l.widths ≡ max_circles) × (length l.heights ≡ max_circles))
    × ((l.widths ≡ over l.i (widths_of (take l.n l.rectangles)) l.initial.widths) × (l.heights ≡ over l.i (heights_of (take l.n l.rectangles)) l.initial.heights))
