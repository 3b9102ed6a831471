-- Lengths by differences of coordinates.
use Rattle.std.specs.Prelude.{◌≡◌, Bool, Float}
use Rattle.shapes.specs.declared.point.Point.{Point}
use Rattle.shapes.specs.declared.circle.Circle.{Circle}
use Rattle.scope.specs.Numbers.{◌-ᶠ◌}
use Rattle.scope.specs.Distance.{distance, contains_point}

-- d is the distance of any two points whose coordinates differ by x and y
abbrev pub DistanceBy : Float → Float → Float → Type 0
DistanceBy x y d = (p q : Point) → p.x -ᶠ q.x ≡ x → p.y -ᶠ q.y ≡ y → d ≡ distance p q

-- q says whether a circle of radius r holds a point, of any two whose coordinates differ by x and y
abbrev pub HoldsBy : Float → Float → Float → Bool → Type 0
HoldsBy x y r q = (c : Circle) (p : Point) → c.center.x -ᶠ p.x ≡ x → c.center.y -ᶠ p.y ≡ y → c.radius ≡ r → q ≡ contains_point c p
