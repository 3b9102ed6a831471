-- `Columns::of` meets its contract: after i turns each array has the first i numbers of its column.
use Prim.Native.Nat.{min}
use mathlib.Core.Path.{◌≡◌}
use lib.ListN.{length, take}
use Rattle.intake.specs.Limits.{max_circles}
use Rattle.intake.specs.Columns.{xs_of, ys_of, radii_of}
use Rattle.intake.proofs.Overwriting.{over}
use Rattle.intake.proofs.arrays.Columns.of.Given as goal

abbrev pub invariant-loop-i : goal.invariant-loop-i
invariant-loop-i l =
    ((l.n ≡ min (length l.circles) max_circles) × (l.columns.n ≡ l.n))
    × ((length l.initial.columns.xs ≡ max_circles) × (length l.initial.columns.ys ≡ max_circles) × (length l.initial.columns.radii ≡ max_circles))
    × ((length l.columns.xs ≡ max_circles) × (length l.columns.ys ≡ max_circles) × (length l.columns.radii ≡ max_circles))
    × ((l.columns.xs ≡ over l.i (xs_of (take l.n l.circles)) l.initial.columns.xs) × (l.columns.ys ≡ over l.i (ys_of (take l.n l.circles)) l.initial.columns.ys) × (l.columns.radii ≡ over l.i (radii_of (take l.n l.circles)) l.initial.columns.radii))
