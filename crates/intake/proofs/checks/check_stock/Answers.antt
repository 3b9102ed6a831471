-- `check_stock` meets its contract: a layout's checks, and then the price's.
use mathlib.Core.Path.{◌≡◌, ap, ◌∙◌}
use Rattle.std.proofs.lemmas.Result.{err_from_is_err_and}
use Rattle.refusals.specs.Numbers.{number}
use Rattle.refusals.proofs.Exits.{passed_on, let_pass}
use Rattle.scope.specs.Refusals.{layout_refusal, stock_refusal}
use Rattle.intake.proofs.Checked.{price_after_layout}
use Rattle.intake.proofs.checks.check_stock.Goals as goal

pub returns-in_err-check_layout : goal.returns-in_err-check_layout
unfolding stock_refusal layout_refusal
returns-in_err-check_layout c =
    let p = err_from_is_err_and c.from_residual.result c.from_residual.ensures.1 in
    let e : number p.0 ≡ number c.in_err-check_layout.field-0.0 = ap number p.2 in
    rw p.1 (e ∙ passed_on c.check_layout.result _ _ _ c.check_layout.ensures (price_after_layout _ _ _ _ _ _ _ _ _ _) _ c.in_err-check_layout.was)

pub returns : goal.returns
unfolding stock_refusal layout_refusal
returns c =
    c.refuse_if.ensures ∙ rw c.bad_price.ensures
    (let_pass c.check_layout.result _ _ _ c.check_layout.ensures (price_after_layout _ _ _ _ _ _ _ _ _ _) _ c.in_ok-check_layout.was)
