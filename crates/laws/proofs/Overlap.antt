-- Whether two circles overlap does not depend on their order, for every f64.
use mathlib.Core.Path.{◌≡◌, ap, ap₂, ◌∙◌}
use mathlib.Core.Bool.{Bool, ◌&&◌, ◌||◌, or_comm}
use lib.Ieee.{Float, binary64, add, sub, lt}
use Rattle.shapes.specs.declared.point.Point.{Point}
use Rattle.shapes.specs.declared.circle.Circle.{Circle}
use Rattle.scope.specs.Numbers.{abs}
use Rattle.scope.specs.Distance.{distance, contains, intersects}
use Rattle.scope.specs.Links.{overlap}
use Rattle.laws.proofs.Swapped.{add_swapped, difference_swapped, hypot_of_same_sizes}

pub distance_swapped : (p q : Point) → distance p q ≡ distance q p
unfolding distance
distance_swapped p q = hypot_of_same_sizes binary64 _ _ _ _ (difference_swapped binary64 p.x q.x) (difference_swapped binary64 p.y q.y)

pub intersects_swapped : (a b : Circle) → intersects a b ≡ intersects b a
unfolding intersects
intersects_swapped a b =
    ap₂ (λ (d s : Float). lt d s && lt (abs (sub binary64 a.radius b.radius)) d) (distance_swapped a.center b.center) (add_swapped binary64 a.radius b.radius)
    ∙ ap (λ (w : Float). lt (distance b.center a.center) (add binary64 b.radius a.radius) && lt w (distance b.center a.center)) (difference_swapped binary64 a.radius b.radius)

pub overlap_swapped : (a b : Circle) → overlap a b ≡ overlap b a
unfolding overlap
overlap_swapped a b = ap₂ (λ (u v : Bool). u || v) (intersects_swapped a b) (or_comm (contains a b) (contains b a))
