-- `all_tried` meets its contract: the circles before i have been tried in turn, and the mask has no bit from i on.
use Prim.Native.Nat.{◌^◌, ◌<◌}
use mathlib.Core.List.{List}
use mathlib.Core.Path.{◌≡◌}
use lib.ListN.{length}
use Rattle.scope.specs.Links.{Region}
use Rattle.intake.specs.Columns.{circles_of}
use Rattle.layout.specs.Offsets.{ParentsOf, moment}
use Rattle.layout.proofs.OffsetMoves.{tried_first}
use Rattle.layout.proofs.offset.all_tried.Given as goal

abbrev pub invariant-loop-i : goal.invariant-loop-i
invariant-loop-i l =
    (l.mask < 2 ^ l.i)
    × ((rs : List Region) → ParentsOf (length l.initial.xs) rs l.parents
    → moment (circles_of l.xs l.ys l.radii) l.mask
    ≡ tried_first (length l.initial.xs) rs l.i (moment (circles_of l.initial.xs l.initial.ys l.radii) 0))
