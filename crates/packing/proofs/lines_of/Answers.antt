-- `lines_of` meets its contract, box by box.
use Rattle.std.proofs.Common.{length, arith}
use Rattle.promises.proofs.packing.Proportions.{grid_fits_64}
use Rattle.packing.proofs.ColumnTable.{proportion_good}
use Rattle.packing.proofs.lines_of.Goals as goal

pub nonzero_rem-columns : goal.nonzero_rem-columns
nonzero_rem-columns c =
    let p = proportion_good c.args.proportion c.well_formed.1.0.1 c.requires.3 in
    omega (arith, (grid_fits_64 (length c.args.areas.now) (omega arith) c.requires.0 c.args.proportion p).some_column, c.columns_of-count.ensures)

pub nonzero_div-rows : goal.nonzero_div-rows
nonzero_div-rows c =
    let p = proportion_good c.args.proportion c.well_formed.1.0.1 c.requires.3 in
    omega (arith, (grid_fits_64 (length c.args.areas.now) (omega arith) c.requires.0 c.args.proportion p).some_column, c.columns_of-count.ensures)
