-- Which circle and which box stands where after the packing: the lists of scope, read at an index.
use Prim.Native.Nat.{ℕ, ◌<◌}
use mathlib.Core.Path.{◌≡◌, ap, ◌∙◌}
use mathlib.Core.List.{List}
use lib.ListN.{get_or, length}
use lib.Ieee.{Float, binary64, sub}
use Rattle.shapes.specs.declared.circle.Circle.{Circle}
use Rattle.shapes.specs.declared.rectangle.Rectangle.{Rectangle}
use Rattle.shapes.specs.Records.{rectangle_of}
use Rattle.scope.specs.Links.{circle, nowhere}
use Rattle.scope.specs.Offset.{translated}
use Rattle.scope.specs.Gauge.{in_cluster}
use Rattle.scope.specs.Packing.{columns, placed_centre, places, packed, no_rectangle, rectangle, column_of, row_of, width_at, height_at}
use Rattle.scope.specs.Padding.{box_all, as_rectangle, boxes, shift, shifted}
use Rattle.laws.proofs.Runs.{get_or_tab, length-tab}
use Rattle.promises.proofs.packing.Grid.{cluster_shift}

-- ---- the ends of the box of cluster a
abbrev pub left : List ℕ → List Circle → ℕ → Float
left numbers cs a = (box_all (in_cluster numbers a) cs).x_min

abbrev pub right : List ℕ → List Circle → ℕ → Float
right numbers cs a = (box_all (in_cluster numbers a) cs).x_max

abbrev pub bottom : List ℕ → List Circle → ℕ → Float
bottom numbers cs a = (box_all (in_cluster numbers a) cs).y_min

abbrev pub top : List ℕ → List Circle → ℕ → Float
top numbers cs a = (box_all (in_cluster numbers a) cs).y_max

-- ---- what the lists hold
module _ (count : ℕ) (numbers : List ℕ) (cs : List Circle) where
  pub boxes-length : length (boxes count numbers cs) ≡ count
  unfolding boxes
  boxes-length = length-tab count (λ a. as_rectangle (box_all (in_cluster numbers a) cs))

  pub boxes_at : (a : ℕ) → a < count → rectangle (boxes count numbers cs) a ≡ as_rectangle (box_all (in_cluster numbers a) cs)
  unfolding boxes
  boxes_at a l = get_or_tab count (λ b. as_rectangle (box_all (in_cluster numbers b) cs)) a no_rectangle l

  pub width_is : (a : ℕ) → a < count → width_at (boxes count numbers cs) a ≡ sub binary64 (right numbers cs a) (left numbers cs a)
  unfolding as_rectangle
  width_is a l = ap (λ (r : Rectangle). r.width) (boxes_at a l)

  pub height_is : (a : ℕ) → a < count → height_at (boxes count numbers cs) a ≡ sub binary64 (top numbers cs a) (bottom numbers cs a)
  unfolding as_rectangle
  height_is a l = ap (λ (r : Rectangle). r.height) (boxes_at a l)

-- the columns of a list of boxes
abbrev pub columns_of : Float → List Rectangle → ℕ
columns_of proportion rects = columns (length rects) proportion

module _ (proportion : Float) (rects : List Rectangle) (pad : Float) where
  pub packed_at : (a : ℕ) → a < length rects → rectangle (packed proportion rects pad) a ≡ rectangle_of (placed_centre (columns_of proportion rects) (places rects) rects pad a) (width_at rects a) (height_at rects a)
  unfolding packed
  packed_at a l = get_or_tab (length rects) (λ b. rectangle_of (placed_centre (columns_of proportion rects) (places rects) rects pad b) (width_at rects b) (height_at rects b)) a no_rectangle l

module _ (numbers : List ℕ) (old new : List Rectangle) (cs : List Circle) where
  pub shifted-length : length (shifted numbers old new cs) ≡ length cs
  unfolding shifted
  shifted-length = length-tab (length cs) (λ j. shift (rectangle old (get_or numbers j 0)) (rectangle new (get_or numbers j 0)) (circle cs j))

  pub shifted_at : (j : ℕ) → j < length cs → circle (shifted numbers old new cs) j ≡ shift (rectangle old (get_or numbers j 0)) (rectangle new (get_or numbers j 0)) (circle cs j)
  unfolding shifted
  shifted_at j l = get_or_tab (length cs) (λ m. shift (rectangle old (get_or numbers m 0)) (rectangle new (get_or numbers m 0)) (circle cs m)) j nowhere l

-- ---- the packed circles
-- the column and the row of box a
abbrev pub column : Float → List Rectangle → ℕ → ℕ
column proportion rects = column_of (columns_of proportion rects) (places rects)

abbrev pub row : Float → List Rectangle → ℕ → ℕ
row proportion rects = row_of (columns_of proportion rects) (places rects)

-- how far cluster a is shifted on each axis
abbrev pub shift_across : Float → List ℕ → List Rectangle → Float → List Circle → ℕ → Float
shift_across proportion numbers rects pad cs = cluster_shift (length rects) (column proportion rects) (width_at rects) pad (left numbers cs) (right numbers cs)

abbrev pub shift_up : Float → List ℕ → List Rectangle → Float → List Circle → ℕ → Float
shift_up proportion numbers rects pad cs = cluster_shift (length rects) (row proportion rects) (height_at rects) pad (bottom numbers cs) (top numbers cs)

module _ (proportion : Float) (count : ℕ) (numbers : List ℕ) (cs : List Circle) (pad : Float) where
  abbrev pub rects : List Rectangle
  rects = boxes count numbers cs

  abbrev pub number : ℕ → ℕ
  number j = get_or numbers j 0

  pub packed-circle : (j : ℕ) → j < length cs → number j < count
      → circle (shifted numbers rects (packed proportion rects pad) cs) j
      ≡ translated (circle cs j) (shift_across proportion numbers rects pad cs (number j)) (shift_up proportion numbers rects pad cs (number j))
  unfolding shift placed_centre as_rectangle
  packed-circle j l m =
      let a = number j in
      shifted_at numbers rects (packed proportion rects pad) cs j l
      ∙ ap (λ (r : Rectangle). shift (rectangle rects a) r (circle cs j)) (packed_at proportion rects pad a (rw (boxes-length count numbers cs) m))
      ∙ ap (λ (r : Rectangle). shift r (rectangle_of (placed_centre (columns_of proportion rects) (places rects) rects pad a) (width_at rects a) (height_at rects a)) (circle cs j)) (boxes_at count numbers cs a m)
