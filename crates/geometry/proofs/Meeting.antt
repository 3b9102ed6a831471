-- Two circles by one distance of their centres, which is the same from either: tests of plain numbers are document 01's tests of the circles.
use mathlib.Core.Path.{◌≡◌, refl, ◌∙◌}
use mathlib.Core.Bool.{Bool, ◌&&◌, ◌||◌}
use lib.Ieee.{Float, binary64}
use Rattle.rounding.specs.Root.{hypot}
use Rattle.shapes.specs.declared.point.Point.{Point}
use Rattle.shapes.specs.declared.circle.Circle.{Circle}
use Rattle.scope.specs.Numbers.{◌+ᶠ◌, ◌-ᶠ◌, ◌<ᶠ◌, ◌≤ᶠ◌, abs}
use Rattle.scope.specs.Distance.{distance, intersects, contains, contains_point}
use Rattle.scope.specs.Links.{overlap}
use Rattle.laws.proofs.Overlap.{distance_swapped}
use Rattle.geometry.specs.Lengths.{HoldsBy}

pub hypot_is_distance : (p q : Point) → hypot binary64 (p.x -ᶠ q.x) (p.y -ᶠ q.y) ≡ distance p q
unfolding distance
hypot_is_distance p q = refl

-- what the hypot of the offsets says of a radius is what the circle holds
pub holds_by : (x y r : Float) (q : Bool) → q ≡ (hypot binary64 x y ≤ᶠ r) → HoldsBy x y r q
unfolding distance contains_point
holds_by x y r q h = λ c p ex ey er. h ∙ rw (ex, ey, er)

-- what `meets` says of the distance and the radii
abbrev pub meeting : Float → Float → Float → Bool
meeting d a b = ((d <ᶠ a +ᶠ b) && (abs (a -ᶠ b) <ᶠ d)) || ((d +ᶠ b ≤ᶠ a) || (d +ᶠ a ≤ᶠ b))

pub meeting_is_overlap : (a b : Circle) → meeting (distance a.center b.center) a.radius b.radius ≡ overlap a b
unfolding overlap intersects contains
meeting_is_overlap a b = rw (distance_swapped b.center a.center)
