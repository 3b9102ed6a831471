-- Document 01, "Packing and centring": the grid of packing.rs, with document 02's proportion for 1.618. Box i of k has the sides `width i` and `height i`.
use Rattle.std.specs.Prelude.{ℕ, zero, suc, ◌+◌, ◌-◌, ◌/◌, ◌%◌, Bool, ◌&&◌, ◌||◌, List, [], eqb, ltb, get_or, length, Float}
use Rattle.std.specs.Float.{binary64}
use Rattle.std.specs.Float.Ieee.{eq}
use Rattle.rounding.specs.Root.{root}
use Rattle.rounding.specs.Extremes.{maximum}
use Rattle.shapes.specs.declared.point.Point.{Point}
use Rattle.shapes.specs.declared.rectangle.Rectangle.{Rectangle}
use Rattle.scope.specs.Numbers.{◌+ᶠ◌, ◌-ᶠ◌, ◌*ᶠ◌, ◌/ᶠ◌, ◌<ᶠ◌, nought, two, whole, raised}
use Rattle.scope.specs.Runs.{tab, gather, many, filled}
use Rattle.scope.specs.Limits.{circle_cap}
use Rattle.scope.specs.Refusals.{Answer, answer, columns_refusal, pack_refusal}
use Rattle.shapes.specs.Records.{point_at, rectangle_of}

-- ---- the grid

-- "columns = the rounded product root(k) times root(1.618), raised to a whole number"; document 02, 3/14: "The constant 1.618 becomes a proportion given with
-- the call". No boxes have 0 columns.
unfoldable pub columns : ℕ → Float → ℕ
columns k proportion = raised (root binary64 (whole k) *ᶠ root binary64 proportion)

-- "Rows = k/columns raised": every place of k boxes lies in a row below this
unfoldable pub rows : ℕ → ℕ → ℕ
rows k cols = (k + (cols - 1)) / cols

unfoldable pub columns_answer : ℕ → Float → Answer ℕ
columns_answer k proportion = answer (columns_refusal k proportion) (columns k proportion)

-- ---- "Boxes go by falling area, equal ones in index order."

-- box j goes before box i
unfoldable pub before : (ℕ → Float) → ℕ → ℕ → Bool
before area i j = (area i <ᶠ area j) || (eq (area i) (area j) && ltb j i)

-- how many of k boxes go before box i
unfoldable pub place : ℕ → (ℕ → Float) → ℕ → ℕ
place k area i = many k (before area i)

-- ---- one axis of the grid. Box i stands in line `line i`: its column for widths, its row for heights.

-- the width of line j: of the boxes in it, the largest side plus padding, from 0
unfoldable pub breadth : ℕ → (ℕ → ℕ) → (ℕ → Float) → Float → ℕ → Float
breadth k line side padding j = gather maximum nought (λ i. eqb (line i) j) k (λ i. side i +ᶠ padding)

-- where line j starts: the widths before it, summed in order
unfoldable pub start : (ℕ → Float) → ℕ → Float
start w zero = nought
start w (suc j) = start w j +ᶠ w j

-- the centre of a side in the middle of its cell, in the source's order of operations
unfoldable pub centred : Float → Float → Float → Float
centred cell width side = cell +ᶠ (width -ᶠ side) /ᶠ two +ᶠ side /ᶠ two

unfoldable pub placed : ℕ → (ℕ → ℕ) → (ℕ → Float) → Float → ℕ → Float
placed k line side padding i = centred (start (breadth k line side padding) (line i)) (breadth k line side padding (line i)) (side i)

-- ---- `skyline_pack`
unfoldable pub no_rectangle : Rectangle
no_rectangle = rectangle_of (point_at nought nought) nought nought

abbrev pub rectangle : List Rectangle → ℕ → Rectangle
rectangle rects i = get_or rects i no_rectangle

unfoldable pub rectangle_area : Rectangle → Float
rectangle_area r = r.width *ᶠ r.height

-- the places of the boxes
unfoldable pub places : List Rectangle → List ℕ
places rects =
    let areas = tab (length rects) (λ i. rectangle_area (rectangle rects i)) in
    tab (length rects) (place (length rects) (λ i. get_or areas i nought))

abbrev pub column_of : ℕ → List ℕ → ℕ → ℕ
column_of cols order i = get_or order i 0 % cols

abbrev pub row_of : ℕ → List ℕ → ℕ → ℕ
row_of cols order i = get_or order i 0 / cols

abbrev pub width_at : List Rectangle → ℕ → Float
width_at rects i = (rectangle rects i).width

abbrev pub height_at : List Rectangle → ℕ → Float
height_at rects i = (rectangle rects i).height

-- the centre of box i in a grid of `cols` columns
unfoldable pub placed_centre : ℕ → List ℕ → List Rectangle → Float → ℕ → Point
placed_centre cols order rects padding i =
    point_at (placed (length rects) (column_of cols order) (width_at rects) padding i) (placed (length rects) (row_of cols order) (height_at rects) padding i)

-- the boxes in the grid, in the order given
unfoldable pub packed : Float → List Rectangle → Float → List Rectangle
packed proportion rects padding =
    let cols = columns (length rects) proportion in
    let order = places rects in
    tab (length rects) (λ i. rectangle_of (placed_centre cols order rects padding i) (width_at rects i) (height_at rects i))

-- "returns them placed, by value, in the order given, and all 0 when refused"
pub record Packing : Type 0 where
  pub refusal : ℕ
  pub rectangles : List Rectangle

abbrev pub refused_packing : ℕ → Packing
refused_packing k = record { refusal = k; rectangles = filled circle_cap no_rectangle [] }

abbrev pub accepted_packing : List Rectangle → Packing
accepted_packing rects = record { refusal = 0; rectangles = filled circle_cap no_rectangle rects }

unfoldable pub packing : ℕ → List Rectangle → Packing
packing zero rects = accepted_packing rects
packing (suc k) rects = refused_packing (suc k)

unfoldable pub skyline_pack : List Rectangle → Float → Float → Packing
skyline_pack rects padding proportion =
    let result = packed proportion rects padding in
    packing (pack_refusal rects padding proportion) result
