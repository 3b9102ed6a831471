-- Document 01, "Records": a point, a box and a rectangle are records of floats, and so is a circle, with the number of its ink (document 02, 1/14).
-- Here they are by their fields.
use Rattle.std.specs.Prelude.{ℕ, Float}
use Rattle.shapes.specs.declared.point.Point.{Point}
use Rattle.shapes.specs.declared.bounds.Bounds.{Bounds}
use Rattle.shapes.specs.declared.rectangle.Rectangle.{Rectangle}
use Rattle.shapes.specs.declared.circle.Circle.{Circle}

abbrev pub point_at : Float → Float → Point
point_at x y = record { x = x; y = y }

abbrev pub box_of : Float → Float → Float → Float → Bounds
box_of x X y Y = record { x_min = x; x_max = X; y_min = y; y_max = Y }

abbrev pub rectangle_of : Point → Float → Float → Rectangle
rectangle_of center width height = record { center = center; width = width; height = height }

-- the circle (x, y, radius), its radius as it is, of ink k
abbrev pub circle_of : Float → Float → Float → ℕ → Circle
circle_of x y r k = record { center = point_at x y; radius = r; ink = k }
