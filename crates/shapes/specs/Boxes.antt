-- Document 01, "Container and bounds.rs": the functions of bounds.rs, and the boxes of a circle and of a rectangle. Each operation is that of binary64.
use Rattle.std.specs.Prelude.{Bool, false, ◌&&◌, cond, pos, Float, Option, Some, None}
use Rattle.std.specs.Float.{fin, binary64}
use Rattle.std.specs.Float.Ieee.{add, sub, mul, div, lt}
use Rattle.rounding.specs.Extremes.{minimum, maximum}
use Rattle.shapes.specs.declared.bounds.Bounds.{Bounds}
use Rattle.shapes.specs.declared.bounds.Corners.{Corners}
use Rattle.shapes.specs.declared.point.Point.{Point}
use Rattle.shapes.specs.declared.circle.Circle.{Circle}
use Rattle.shapes.specs.declared.rectangle.Rectangle.{Rectangle}
use Rattle.shapes.specs.Records.{point_at, box_of}

abbrev pub width_of : Bounds → Float
width_of b = sub binary64 b.x_max b.x_min

abbrev pub height_of : Bounds → Float
height_of b = sub binary64 b.y_max b.y_min

abbrev pub area_of : Bounds → Float
area_of b = mul binary64 (width_of b) (height_of b)

abbrev pub corners_of : Bounds → Corners
corners_of b = record { bottom_left = point_at b.x_min b.y_min; top_right = point_at b.x_max b.y_max }

-- two boxes put together: their lower ends by `low`, their upper ends by `high`
abbrev pub ends_by : (Float → Float → Float) → (Float → Float → Float) → Bounds → Bounds → Bounds
ends_by low high a b =
    box_of (low a.x_min b.x_min) (high a.x_max b.x_max) (low a.y_min b.y_min) (high a.y_max b.y_max)

-- the smallest box that holds both
abbrev pub union_of : Bounds → Bounds → Bounds
union_of a b = ends_by minimum maximum a b

-- the larger lower end and the smaller upper end on each axis
unfoldable pub shared_box : Bounds → Bounds → Bounds
shared_box a b = ends_by maximum minimum a b

-- each lower end lies strictly below the upper one
unfoldable pub proper : Bounds → Bool
proper b = lt b.x_min b.x_max && lt b.y_min b.y_max

-- the intersection: the shared box if it is proper, and else none
unfoldable pub overlap_of : Bounds → Bounds → Option Bounds
overlap_of a b = cond (proper (shared_box a b)) (Some (shared_box a b)) None

-- the point less and plus w across, less and plus h up
abbrev pub box_around : Point → Float → Float → Bounds
box_around p w h = box_of (sub binary64 p.x w) (add binary64 p.x w) (sub binary64 p.y h) (add binary64 p.y h)

-- a circle's centre less and plus its radius
abbrev pub circle_box : Circle → Bounds
circle_box c = box_around c.center c.radius c.radius

unfoldable pub half_of : Float → Float
half_of x = div binary64 x (fin false 1 (pos 1))

-- a rectangle's centre less and plus half of each side
abbrev pub rectangle_box : Rectangle → Bounds
rectangle_box r = box_around r.center (half_of r.width) (half_of r.height)
