-- What the packing asks of a grid: some column, and no more lines than there is room for.
use Prim.Native.Nat.{ℕ, ◌≤◌, ◌<◌}
use Rattle.scope.specs.Packing.{rows}

-- a grid of k boxes: some column, and no more than `lines` columns or rows
pub record GridFits (lines k cols : ℕ) : Type 0 where
  pub some_column : 0 < cols
  pub few_columns : cols ≤ lines
  pub few_rows : rows k cols ≤ lines
