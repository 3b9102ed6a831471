-- Document 01, "Root and distance", and of "clustering.rs" the tests of circle.rs.
use Rattle.std.specs.Prelude.{ℕ, Bool, ◌&&◌, ◌||◌, cond, [], ◌∷◌, Float}
use Rattle.std.specs.Float.{binary64}
use Rattle.std.specs.Float.Ieee.{is_nan}
use Rattle.rounding.specs.Root.{root, hypot}
use Rattle.shapes.specs.declared.point.Point.{Point}
use Rattle.shapes.specs.declared.circle.Circle.{Circle}
use Rattle.scope.specs.Numbers.{◌+ᶠ◌, ◌-ᶠ◌, ◌<ᶠ◌, ◌≤ᶠ◌, nought, abs}
use Rattle.scope.specs.Refusals.{Answer, answer, refusal, points_refusal, pair_refusal, circle_point_refusal}

-- 12, "root of NaN or of a number below 0"
unfoldable pub no_root : Float → Bool
no_root x = is_nan x || (x <ᶠ nought)

unfoldable pub root_refusal : Float → ℕ
root_refusal x = refusal ((12, no_root x) ∷ [])

-- "The root is the f64 nearest the exact root; -0 gives -0, infinity itself"
unfoldable pub root_answer : Float → Answer Float
root_answer x = answer (root_refusal x) (root binary64 x)

-- document 02, 6/14: "the f64 nearest the exact root of the exact sum of the two squares, the differences being rounded first as now, ties to even"
unfoldable pub distance : Point → Point → Float
distance p q = hypot binary64 (p.x -ᶠ q.x) (p.y -ᶠ q.y)

-- "contains is distance + other radius <= radius"
unfoldable pub contains : Circle → Circle → Bool
contains a b = distance a.center b.center +ᶠ b.radius ≤ᶠ a.radius

-- "`contains_point` is distance <= radius"
unfoldable pub contains_point : Circle → Point → Bool
contains_point c p = distance c.center p ≤ᶠ c.radius

-- "intersects is strict at both ends": below the sum of the radii and above their difference
unfoldable pub intersects : Circle → Circle → Bool
intersects a b =
    let d = distance a.center b.center in
    (d <ᶠ a.radius +ᶠ b.radius) && (abs (a.radius -ᶠ b.radius) <ᶠ d)

-- "The distance of two circles is that of the centres less the sum of the radii, or 0 if the first is not the larger."
unfoldable pub circle_distance : Circle → Circle → Float
circle_distance a b =
    let d = distance a.center b.center in
    let s = a.radius +ᶠ b.radius in
    cond (s <ᶠ d) (d -ᶠ s) nought

-- ---- "Distance, contains and intersects give 3 and 4 like any call."
unfoldable pub distance_answer : Point → Point → Answer Float
distance_answer p q = answer (points_refusal p q) (distance p q)

unfoldable pub circle_distance_answer : Circle → Circle → Answer Float
circle_distance_answer a b = answer (pair_refusal a b) (circle_distance a b)

unfoldable pub contains_answer : Circle → Circle → Answer Bool
contains_answer a b = answer (pair_refusal a b) (contains a b)

unfoldable pub contains_point_answer : Circle → Point → Answer Bool
contains_point_answer c p = answer (circle_point_refusal c p) (contains_point c p)

unfoldable pub intersects_answer : Circle → Circle → Answer Bool
intersects_answer a b = answer (pair_refusal a b) (intersects a b)
