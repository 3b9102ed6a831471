-- Document 01, "Records": the lift raises a radius below the smallest normal number to it. "Container and bounds.rs": NaN stays NaN.
use Rattle.std.specs.Prelude.{ℕ, Float}
use Rattle.rounding.specs.Extremes.{maximum}
use Rattle.shapes.specs.declared.circle.Circle.{Circle}
use Rattle.shapes.specs.Limits.{smallest_normal}
use Rattle.shapes.specs.Records.{circle_of}

unfoldable pub lift : Float → Float
unfolding maximum smallest_normal
lift r = maximum r smallest_normal

-- the circle of these parameters
abbrev pub lifted_circle : Float → Float → Float → ℕ → Circle
lifted_circle x y r k = circle_of x y (lift r) k

-- the same circle, its radius lifted, at another centre; document 02, 1/14: "Every move, turn and mirror carries it through", the ink
abbrev pub moved_to : Circle → Float → Float → Circle
moved_to c x y = circle_of x y (lift c.radius) c.ink
