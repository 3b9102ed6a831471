-- Boxes as lists of numbers: their sides, which are all that packing looks at, and where their centres come to stand.
use Rattle.std.specs.Prelude.{◌≡◌, ℕ, ◌<◌, cond, List, length, ◌==◌, Float}
use Rattle.shapes.specs.Records.{point_at, rectangle_of}
use Rattle.shapes.specs.declared.rectangle.Rectangle.{Rectangle}
use Rattle.scope.specs.Numbers.{nought}
use Rattle.scope.specs.Runs.{tab}
use Rattle.scope.specs.Refusals.{too_many, pack_refusal}
use Rattle.scope.specs.Packing.{Packing, rectangle, width_at, height_at, packed, refused_packing, skyline_pack}
use Rattle.intake.specs.Columns.{at, overwritten}

-- n boxes of these sides, wherever they stand
unfoldable pub sided : ℕ → List Float → List Float → List Rectangle
sided n widths heights = tab n (λ i. rectangle_of (point_at nought nought) (at widths i) (at heights i))

-- the centres of boxes
unfoldable pub centre_xs : List Rectangle → List Float
centre_xs rects = tab (length rects) (λ i. (rectangle rects i).center.x)

unfoldable pub centre_ys : List Rectangle → List Float
centre_ys rects = tab (length rects) (λ i. (rectangle rects i).center.y)

-- where the centres of n boxes of these sides come to stand
abbrev pub packed_xs : ℕ → List Float → List Float → Float → Float → List Float
packed_xs n widths heights padding proportion = centre_xs (packed proportion (sided n widths heights) padding)

abbrev pub packed_ys : ℕ → List Float → List Float → Float → Float → List Float
packed_ys n widths heights padding proportion = centre_ys (packed proportion (sided n widths heights) padding)

-- a list with another one written over its front, or after a refusal as it was
abbrev pub unless_refused : ℕ → List Float → List Float → List Float
unless_refused r front list = cond (r == 0) (overwritten front list) list

-- the number that comes back for n boxes of these sides; with too many, no box is looked at
unfoldable pub sides_number : ℕ → List Float → List Float → Float → Float → ℕ
sides_number n widths heights padding proportion = cond (too_many n) 1 (pack_refusal (sided n widths heights) padding proportion)

-- the whole answer
unfoldable pub sided_packing : ℕ → List Float → List Float → Float → Float → Packing
sided_packing n widths heights padding proportion = cond (too_many n) (refused_packing 1) (skyline_pack (sided n widths heights) padding proportion)

-- boxes of these sides
pub record Sides (k : ℕ) (widths heights : List Float) (rects : List Rectangle) : Type 0 where
  pub long : length rects ≡ k
  pub wide : (i : ℕ) → i < k → width_at rects i ≡ at widths i
  pub high : (i : ℕ) → i < k → height_at rects i ≡ at heights i

-- box i of these centres and sides
abbrev pub box_at : List Float → List Float → List Float → List Float → ℕ → Rectangle
box_at xs ys widths heights i = rectangle_of (point_at (at xs i) (at ys i)) (at widths i) (at heights i)
