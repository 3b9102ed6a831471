-- An accepted card's values, one by one: they keep every limit and range of document 01, and no two circles have the same ink.
use Rattle.std.specs.Prelude.{ℕ, ◌≤◌, ◌<◌, ◌≡◌, List, T, length, Float}
use Rattle.shapes.specs.declared.circle.Circle.{Circle}
use Rattle.scope.specs.Limits.{circle_cap, region_cap, coordinate_ok, radius_ok, factor_ok}
use Rattle.scope.specs.Refusals.{rising}
use Rattle.scope.specs.Links.{circle}

pub record WithinLimits (cs : List Circle) (factor : Float) (masks : List ℕ) (areas : List Float) : Type 0 where
  pub few_circles : length cs ≤ circle_cap
  pub paired : length masks ≡ length areas
  pub few_regions : length masks ≤ region_cap
  pub centres : (i : ℕ) → i < length cs → T (coordinate_ok (circle cs i).center.x) × T (coordinate_ok (circle cs i).center.y)
  pub radii : (i : ℕ) → i < length cs → T (radius_ok (circle cs i).radius)
  pub masks_rise : T (rising masks)
  pub factor-inside : T (factor_ok factor)

-- two circles have the same ink
abbrev pub SameInk : List Circle → Type 0
SameInk cs = (i : ℕ) × (j : ℕ) × (i < j) × (j < length cs) × ((circle cs i).ink ≡ (circle cs j).ink)
