-- Lists that show circles, the circles that they come to show, and the boxes of their clusters: the words of the steps' contracts.
use Rattle.std.specs.Prelude.{ℕ, ◌≤◌, ◌≡◌, List, length, Float}
use Rattle.shapes.specs.declared.circle.Circle.{Circle}
use Rattle.shapes.specs.declared.rectangle.Rectangle.{Rectangle}
use Rattle.scope.specs.Links.{regions}
use Rattle.scope.specs.Offset.{Moved, offset}
use Rattle.scope.specs.Gauge.{gauged}
use Rattle.scope.specs.Padding.{boxes}
use Rattle.scope.specs.Layout.{Layout, arranged}
use Rattle.intake.specs.Limits.{max_circles}
use Rattle.intake.specs.Columns.{circles_of, Lifted}
use Rattle.layout.specs.ClusterBoxes.{InClusters}
use Rattle.layout.specs.Laid.{WithinPacking}

-- three lists of one length, the third of radii that the lift leaves as they are
abbrev pub CircleLists : List Float → List Float → List Float → Type 0
CircleLists xs ys rs = (length ys ≡ length xs) × (length rs ≡ length xs) × Lifted rs

-- the circles that the lists show come to be what f makes of them; and so with any radii
abbrev pub Become : (List Circle → List Circle) → List Float → List Float → List Float → List Float → List Float → Type 0
Become f xs ys rs xs' ys' = circles_of xs' ys' rs ≡ f (circles_of xs ys rs)

abbrev pub AllBecome : (List Circle → List Circle) → List Float → List Float → List Float → List Float → Type 0
AllBecome f xs ys xs' ys' = (rs : List Float) → Lifted rs → Become f xs ys rs xs' ys'

-- the circles that the lists show after each step: children moved off, clusters turned, the whole laid out
abbrev pub parted_of : List Float → List Float → List Float → List ℕ → List Float → Moved
parted_of xs ys rs masks areas = offset (circles_of xs ys rs) (regions masks areas)

abbrev pub gauged_of : ℕ → List ℕ → List Float → List Float → List Float → List Circle
gauged_of count numbers xs ys rs = gauged count numbers (circles_of xs ys rs)

abbrev pub arranged_of : List Float → List Float → List Float → Float → List ℕ → List Float → Float → Layout
arranged_of xs ys rs factor masks areas proportion = arranged proportion (circles_of xs ys rs) factor (regions masks areas)

-- the boxes of the clusters of the circles that the lists show
abbrev pub boxes_of : ℕ → List ℕ → List Float → List Float → List Float → List Rectangle
boxes_of count numbers xs ys rs = boxes count numbers (circles_of xs ys rs)

-- lists with an entry for each circle, lists with one for each cluster, and every circle's cluster has one
abbrev pub BoxRoom : List Float → List Float → List Float → List ℕ → List Float → List Float → List Float → List Float → Type 0
BoxRoom xs ys rs numbers across widths up heights =
    (length ys ≡ length xs)
    × (length rs ≡ length xs)
    × (length numbers ≡ length xs)
    × (length widths ≡ length across)
    × (length up ≡ length across)
    × (length heights ≡ length across)
    × InClusters (length across) numbers

-- circles in count clusters which, as they stand in cs, are within the packing's ranges
abbrev pub ToPack : ℕ → List ℕ → Float → Float → List Float → List Float → List Float → List Circle → Type 0
ToPack count numbers factor proportion xs ys rs cs =
    (length ys ≡ length xs)
    × (length rs ≡ length xs)
    × (length numbers ≡ length xs)
    × Lifted rs
    × (count ≤ max_circles)
    × InClusters count numbers
    × WithinPacking count numbers cs factor proportion
