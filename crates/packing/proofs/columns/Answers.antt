-- `columns` meets its contract: the refusal, or the count.
use Rattle.std.proofs.Common.{sym}
use Rattle.std.proofs.lemmas.Result.{err_from_is_err_and}
use Rattle.scope.specs.Packing.{columns_answer}
use Rattle.refusals.proofs.Exits.{answer-refused, answer-given}
use Rattle.packing.proofs.ColumnTable.{columns_asked}
use Rattle.packing.proofs.columns.Goals as goal

pub returns-in_err-check_columns : goal.returns-in_err-check_columns
unfolding columns_answer
returns-in_err-check_columns c =
    let p = err_from_is_err_and c.from_residual.result c.from_residual.ensures.1 in
    rw (p.1, p.2) (answer-refused c.check_columns.result _ c.check_columns.ensures _ _ c.in_err-check_columns.was)

pub columns_of-requires : goal.columns_of-requires
columns_of-requires c = columns_asked _ _ (sym c.in_ok-check_columns.ensures)

pub returns : goal.returns
unfolding columns_answer
returns c = rw c.columns_of.ensures (answer-given c.check_columns.result _ c.check_columns.ensures _ _ c.in_ok-check_columns.was)
