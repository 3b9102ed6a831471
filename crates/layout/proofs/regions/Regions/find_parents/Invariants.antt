-- `find_parents` meets its contract: the parents of the first i circles stand in the list, and while `any` is false none of them has one.
use Prim.Native.Nat.{◌<◌, ℕ}
use mathlib.Core.Bool.{false}
use mathlib.Core.Option.{none}
use mathlib.Core.Path.{◌≡◌}
use Rattle.scope.specs.Links.{regions}
use Rattle.scope.specs.Offset.{parent_of}
use Rattle.layout.specs.Offsets.{parent_at}
use Rattle.layout.proofs.regions.Regions.find_parents.Given as goal

abbrev pub invariant-loop-i : goal.invariant-loop-i
invariant-loop-i l =
    ((j : ℕ) → j < l.i → parent_at l.n l.parents j ≡ parent_of l.n (regions l.self.masks.now l.self.areas.now) j)
    × (l.any ≡ false → (j : ℕ) → j < l.i → parent_at l.n l.parents j ≡ none)
