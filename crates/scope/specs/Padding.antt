-- Document 01, "Packing and centring": the boxes of the clusters, the reported padding, and `pack_clusters`.
use Rattle.std.specs.Prelude.{ℕ, Bool, cond, List, ltb, get_or, length, Float}
use Rattle.std.specs.Float.{binary64}
use Rattle.rounding.specs.Root.{root}
use Rattle.shapes.specs.declared.bounds.Bounds.{Bounds}
use Rattle.shapes.specs.declared.circle.Circle.{Circle}
use Rattle.shapes.specs.declared.rectangle.Rectangle.{Rectangle}
use Rattle.scope.specs.Numbers.{◌+ᶠ◌, ◌-ᶠ◌, ◌*ᶠ◌, nought}
use Rattle.scope.specs.Runs.{tab, gather, always}
use Rattle.shapes.specs.Records.{point_at, rectangle_of}
use Rattle.shapes.specs.Boxes.{circle_box, union_of, width_of, height_of}
use Rattle.scope.specs.Links.{circle}
use Rattle.scope.specs.Offset.{translated}
use Rattle.scope.specs.Gauge.{nothing, middle_x, middle_y, in_cluster}
use Rattle.scope.specs.Packing.{packed, rectangle, rectangle_area}

-- the box of the circles that `member` takes, by rising index
unfoldable pub box_all : (ℕ → Bool) → List Circle → Bounds
box_all member cs = gather union_of nothing member (length cs) (λ i. circle_box (circle cs i))

unfoldable pub as_rectangle : Bounds → Rectangle
as_rectangle b = rectangle_of (point_at (middle_x b) (middle_y b)) (width_of b) (height_of b)

-- a box for each cluster, in cluster order
unfoldable pub boxes : ℕ → List ℕ → List Circle → List Rectangle
boxes count numbers cs = tab count (λ a. as_rectangle (box_all (in_cluster numbers a) cs))

-- "root(sum of box areas, in cluster order from 0) * factor, or 0 with fewer than two clusters"
unfoldable pub padding : List Rectangle → Float → Float
padding rects factor =
    let p = root binary64 (gather ◌+ᶠ◌ nought always (length rects) (λ a. rectangle_area (rectangle rects a))) *ᶠ factor in
    cond (ltb (length rects) 2) nought p

-- a circle moves as the centre of its cluster's box does
unfoldable pub shift : Rectangle → Rectangle → Circle → Circle
shift old new c = translated c (new.center.x -ᶠ old.center.x) (new.center.y -ᶠ old.center.y)

unfoldable pub shifted : List ℕ → List Rectangle → List Rectangle → List Circle → List Circle
shifted numbers old new cs = tab (length cs) (λ i. shift (rectangle old (get_or numbers i 0)) (rectangle new (get_or numbers i 0)) (circle cs i))

-- `pack_clusters`, for two clusters or more
unfoldable pub pack_clusters : Float → List ℕ → List Rectangle → Float → List Circle → List Circle
pack_clusters proportion numbers rects pad cs =
    let result = shifted numbers rects (packed proportion rects pad) cs in
    cond (ltb (length rects) 2) cs result
