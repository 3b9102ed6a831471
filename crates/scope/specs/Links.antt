-- Document 01, "clustering.rs": which circles are linked. Each circle is linked to itself.
use Rattle.std.specs.Prelude.{ℕ, Bool, false, not, ◌&&◌, ◌||◌, List, [], ◌∷◌, eqb, get_or, Float}
use Rattle.std.specs.Float.{nan}
use Rattle.std.specs.Float.Ieee.Scale.{finite}
use Rattle.shapes.specs.declared.circle.Circle.{Circle}
use Rattle.scope.specs.Numbers.{◌≤ᶠ◌}
use Rattle.scope.specs.Runs.{bit}
use Rattle.shapes.specs.Records.{circle_of}
use Rattle.scope.specs.Distance.{contains, intersects}

-- "pairs of a 64-bit mask and an area", in the order given
pub record Region : Type 0 where
  pub mask : ℕ
  pub area : Float

unfoldable pub regions : List ℕ → List Float → List Region
regions [] areas = []
regions (m ∷ masks) [] = []
regions (m ∷ masks) (a ∷ areas) = record { mask = m; area = a } ∷ regions masks areas

-- "Bit i of a mask is circle i."
abbrev pub holds : Region → ℕ → Bool
holds r i = bit r.mask i

-- "its area is finite and not at most the tolerance"; the tolerance may be any f64
unfoldable pub counts : Float → Region → Bool
counts tol r = finite r.area && not (r.area ≤ᶠ tol)

-- a region that counts holds both circles
unfoldable pub share : Float → List Region → ℕ → ℕ → Bool
share tol [] i j = false
share tol (r ∷ rs) i j = (counts tol r && (holds r i && holds r j)) || share tol rs i j

-- `find_clusters_from_exclusive_regions`: "A region links its circles below n"; the links are looked at below n alone
unfoldable pub linked_by_regions : Float → List Region → ℕ → ℕ → Bool
linked_by_regions tol rs i j = eqb i j || share tol rs i j

-- the circle at a place of the layout; past the end, one that is nowhere
unfoldable pub nowhere : Circle
nowhere = circle_of nan nan nan 0

abbrev pub circle : List Circle → ℕ → Circle
circle cs i = get_or cs i nowhere

-- "circles intersect or one contains the other"
unfoldable pub overlap : Circle → Circle → Bool
overlap a b = intersects a b || (contains a b || contains b a)

-- `find_clusters`
unfoldable pub linked_by_circles : List Circle → ℕ → ℕ → Bool
linked_by_circles cs i j = eqb i j || overlap (circle cs i) (circle cs j)
