-- The boxes of the clusters as lists of numbers: lower and upper ends, middles and lengths on one axis; the padding; the circles moved as the boxes are.
use Rattle.std.specs.Prelude.{ℕ, ◌<◌, ◌≡◌, cond, List, ltb, length, get_or, Float}
use Rattle.std.specs.Float.{binary64}
use Rattle.rounding.specs.Root.{root}
use Rattle.shapes.specs.declared.rectangle.Rectangle.{Rectangle}
use Rattle.scope.specs.Numbers.{◌+ᶠ◌, ◌-ᶠ◌, ◌*ᶠ◌, nought}
use Rattle.scope.specs.Runs.{tab, gather, always}
use Rattle.scope.specs.Gauge.{in_cluster, middle}
use Rattle.intake.specs.Columns.{at, each, widths_of, heights_of}
use Rattle.packing.specs.Sides.{centre_xs, centre_ys}
use Rattle.layout.specs.Ranges.{range_of}

-- every circle's cluster is one of count
abbrev pub InClusters : ℕ → List ℕ → Type 0
InClusters count numbers = (i : ℕ) → i < length numbers → get_or numbers i 0 < count

-- the ends of the clusters' ranges
abbrev pub lows_of : ℕ → List ℕ → List Float → List Float → List Float
lows_of count numbers coords radii = tab count (λ a. (range_of (in_cluster numbers a) coords radii).low)

abbrev pub highs_of : ℕ → List ℕ → List Float → List Float → List Float
highs_of count numbers coords radii = tab count (λ a. (range_of (in_cluster numbers a) coords radii).high)

abbrev pub middles_of : List Float → List Float → List Float
middles_of lows highs = each (λ a low. middle low (at highs a)) lows

abbrev pub lengths_of : List Float → List Float → List Float
lengths_of lows highs = each (λ a high. high -ᶠ at lows a) highs

-- "root(sum of box areas, in cluster order from 0) * factor, or 0 with fewer than two clusters"
unfoldable pub padding_for : List Float → List Float → Float → Float
padding_for widths heights factor =
    let p = root binary64 (gather ◌+ᶠ◌ nought always (length widths) (λ a. at widths a *ᶠ at heights a)) *ᶠ factor in
    cond (ltb (length widths) 2) nought p

-- each circle moved as its cluster's middle is
abbrev pub shifted_by : List ℕ → List Float → List Float → List Float → List Float
shifted_by numbers olds news coords = each (λ i x. x +ᶠ (at news (get_or numbers i 0) -ᶠ at olds (get_or numbers i 0))) coords

-- lists that show boxes: their centres' x, their widths, their centres' y, their heights
pub record BoxLists (rects : List Rectangle) (xs widths ys heights : List Float) : Type 0 where
  pub across : xs ≡ centre_xs rects
  pub wide : widths ≡ widths_of rects
  pub up : ys ≡ centre_ys rects
  pub high : heights ≡ heights_of rects
