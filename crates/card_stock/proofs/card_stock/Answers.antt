-- `card_stock` meets its contract: the refusal, or what the sheet of the finished copy costs.
use mathlib.Core.Path.{sym}
use lib.Seq.{length-take-le}
use Rattle.std.proofs.lemmas.Result.{err_from_is_err_and, IfOk-at_ok}
use Rattle.laws.proofs.AfterRefusal.{stock_answers}
use Rattle.promises.specs.Demand3.{AreDoubles}
use Rattle.refusals.proofs.Exits.{stopped}
use Rattle.card_stock.proofs.Finished.{few_charged, is_laid, sheet_allowed, charged_is}
use Rattle.card_stock.proofs.card_stock.Goals as goal

pub returns-in_err-check_stock : goal.returns-in_err-check_stock
returns-in_err-check_stock c =
    let p = err_from_is_err_and c.from_residual.result c.from_residual.ensures.1 in
    let a = c.args in
    let e = stopped c.check_stock.result _ c.check_stock.ensures _ c.in_err-check_stock.was in
    rw (p.1, p.2, e.0) (sym ((stock_answers a.circles.now a.factor a.masks.now a.areas.now a.proportion a.cents).at_refusal e.1))

pub slice_bounds-copy-end : goal.slice_bounds-copy-end
slice_bounds-copy-end c =
    let a = c.args in
    few_charged a.circles.now a.factor a.masks.now a.areas.now a.proportion a.cents (sym c.in_ok-check_stock.ensures)

pub slice_bounds-finished-end : goal.slice_bounds-finished-end
slice_bounds-finished-end c =
    let a = c.args in
    sym (length-take-le _ _ (few_charged a.circles.now a.factor a.masks.now a.areas.now a.proportion a.cents (sym c.in_ok-check_stock.ensures)))

pub copy_from_slice-requires : goal.copy_from_slice-requires
copy_from_slice-requires c =
    let a = c.args in
    length-take-le _ _ (few_charged a.circles.now a.factor a.masks.now a.areas.now a.proportion a.cents (sym c.in_ok-check_stock.ensures))

pub unwrap-requires : goal.unwrap-requires
unwrap-requires c =
    let a = c.args in
    let N = c.normalize_layout_with_clusters in
    is_laid a.circles.now a.factor a.masks.now a.areas.now a.proportion a.cents (sym c.in_ok-check_stock.ensures) N.result N.new.circles
    (rw c.copy_from_slice.ensures.after at N.ensures.answer)

pub stock-requires : goal.stock-requires
stock-requires c =
    let a = c.args in
    let N = c.normalize_layout_with_clusters in
    let doubles = rw c.copy_from_slice.ensures.after at (IfOk-at_ok (λ _. AreDoubles c.copy_from_slice.new.self a.factor) c.unwrap.ensures N.ensures.doubles) in
    sheet_allowed a.circles.now a.factor a.masks.now a.areas.now a.proportion a.cents (sym c.in_ok-check_stock.ensures) N.result N.new.circles
    (rw c.copy_from_slice.ensures.after at N.ensures.answer) doubles c.well_formed.1.1.1.1.0.1

pub returns : goal.returns
returns c =
    let a = c.args in
    let N = c.normalize_layout_with_clusters in
    charged_is a.circles.now a.factor a.masks.now a.areas.now a.proportion a.cents (sym c.in_ok-check_stock.ensures) N.result N.new.circles
    (rw c.copy_from_slice.ensures.after at N.ensures.answer) c.stock.ensures
