-- Document 02, 5/14: the charge is "held in 64 bits, and cannot wrap for any accepted layout". What a sheet measures at most follows from its columns and its
-- rows together: k boxes in c columns have so few rows that c times the rows is below k + c. Columns and rows bounded each by itself would not do for 256 circles.
use Rattle.std.specs.Prelude.{ℕ, ◌+◌, ◌-◌, ◌*◌, ◌^◌, ◌≤◌, ◌<◌, T, length, List}
use Rattle.shapes.specs.declared.circle.Circle.{Circle}
use Rattle.shapes.specs.Boxes.{width_of, height_of}
use Rattle.scope.specs.Numbers.{nought, whole}
use Rattle.scope.specs.Limits.{circle_cap, within, price_ok}
use Rattle.scope.specs.CardStock.{sheet, wide, tall, stock_for}
use Rattle.promises.specs.Demand3.{OfEveryLayout}

-- 2^53: up to there every whole number is an f64
abbrev pub whole_most : ℕ
whole_most = 2 ^ 53

-- The sheet of a finished layout, of at most `lines` columns: a column or a row takes at most `line` whole millimetres, and so many columns and rows there are.
pub record SheetFits (lines line : ℕ) (returned : List Circle) : Type 0 where
  pub columns : ℕ
  pub rows : ℕ
  pub few_columns : columns ≤ lines
  pub together : columns * rows < length returned + columns
  -- its sides as `Bounds` computes them can be raised
  pub width : T (within nought (whole whole_most) (width_of (sheet returned)))
  pub height : T (within nought (whole whole_most) (height_of (sheet returned)))
  pub wide_in_columns : wide returned ≤ columns * line
  pub tall_in_rows : tall returned ≤ rows * line

-- ---- up to 64 circles: 16 columns at most; a side of 2^23, a padding of 2^26, and 1 for all roundings and the raising
abbrev pub lines_most : ℕ
lines_most = 16

abbrev pub line_most : ℕ
line_most = 2 ^ 26 + 2 ^ 23 + 1

unfoldable pub area_most : ℕ
area_most = (circle_cap + (lines_most - 1)) * (line_most * line_most)

-- the sheet of every accepted layout with a circle, whatever its proportion
unfoldable pub EverySheetFits : Type 0
EverySheetFits = OfEveryLayout λ handed rs result returned. 0 < length handed → SheetFits lines_most line_most returned × (wide returned * tall returned ≤ area_most)

-- and what it costs, whatever the price; an empty layout too
unfoldable pub EveryChargeFits : Type 0
EveryChargeFits = OfEveryLayout λ handed rs result returned. (cents : ℕ) → T (price_ok cents) → stock_for returned cents < 2 ^ 59
