-- The charge for the layout of a run: what is known where it is accepted, and what it is then.
use Prim.Native.Nat.{ℕ, ◌≤◌, ◌<◌}
use mathlib.Core.Path.{◌≡◌, refl, sym, ap, ◌∙◌}
use mathlib.Core.Bool.{true, true≢false}
use mathlib.Core.List.{List}
use lib.Dec.{T, eqb}
use lib.Ieee.{Float, binary64, fits}
use lib.ListN.{length}
use Rattle.std.specs.Prelude.{Result, Ok, Err}
use Rattle.std.specs.Result.{IsOk}
use Rattle.shapes.specs.declared.circle.Circle.{Circle}
use Rattle.refusals.specs.declared.Refusal.{Refusal}
use Rattle.refusals.proofs.Exits.{number-there}
use Rattle.scope.specs.Limits.{circle_cap, price_ok}
use Rattle.scope.specs.Links.{regions}
use Rattle.scope.specs.Refusals.{layout_refusal, stock_refusal}
use Rattle.scope.specs.Layout.{Layout, layout, refused_layout}
use Rattle.scope.specs.CardStock.{card_stock, stock_for}
use Rattle.laws.proofs.Accepted.{stock_accepted_iff, within_limits, layout_accepted_iff}
use Rattle.laws.proofs.AfterRefusal.{layout-answers, stock_answers}
use Rattle.promises.specs.Demand3.{AreDoubles}
use Rattle.promises.specs.CardStock.{EverySheetFits}
use Rattle.promises.proofs.whole.CardStock.{every_sheet_fits}
use Rattle.promises.proofs.whole.Lengths.{arranged-length}
use Rattle.intake.specs.Limits.{max_circles}
use Rattle.layout.specs.declared.normalize.Arrangement.{Arrangement}
use Rattle.layout.specs.Answers.{result_of, laid_out}
use Rattle.card_stock.specs.Sheets.{SheetSmall}

not_refused : (r : Result Arrangement Refusal) → (result_of r).refusal ≡ 0 → IsOk r
unfolding refused_layout
not_refused (Ok a) z = refl
not_refused (Err e) z = absurd (true≢false (ap (λ (k : ℕ). eqb k 0) (sym z) ∙ number-there e))

module _ (cs : List Circle) (factor : Float) (masks : List ℕ) (areas : List Float) (proportion : Float) (cents : ℕ)
    (accepted : stock_refusal cs factor masks areas proportion cents ≡ 0) where
  both : (layout_refusal cs factor masks areas proportion ≡ 0) × T (price_ok cents)
  both = (stock_accepted_iff cs factor masks areas proportion cents).0 accepted

  pub few_charged : length cs ≤ max_circles
  unfolding circle_cap
  few_charged = (within_limits cs factor masks areas ((layout_accepted_iff cs factor masks areas proportion).0 both.0).0).few_circles

  -- with the layout's answer for a copy of the run
  module _ (r : Result Arrangement Refusal) (after : List Circle) (said : laid_out r after ≡ layout cs factor masks areas proportion) where
    pub is_laid : IsOk r
    is_laid = not_refused r (ap (λ (l : Layout). l.result.refusal) said ∙ (layout-answers cs factor masks areas proportion).says ∙ both.0)

    finished : after ≡ (layout cs factor masks areas proportion).circles
    finished = ap (λ (l : Layout). l.circles) said

    none_lost : length after ≡ length cs
    none_lost =
        ap length finished ∙ ap (λ (l : Layout). length l.circles) ((layout-answers cs factor masks areas proportion).on_acceptance both.0)
        ∙ arranged-length proportion cs factor (regions masks areas)

    pub sheet_allowed : AreDoubles cs factor → fits binary64 proportion ≡ true → (0 < length after → SheetSmall after) × T (price_ok cents)
    unfolding EverySheetFits
    sheet_allowed doubles fit =
        (λ some. rw finished (every_sheet_fits cs factor masks areas proportion doubles (rw fit tt) both.0 (rw none_lost at some)), both.1)

    pub charged_is : {amount : ℕ} → amount ≡ stock_for after cents → record { refusal = 0; amount = amount } ≡ card_stock cs factor masks areas proportion cents
    charged_is e = rw (e, finished) (sym ((stock_answers cs factor masks areas proportion cents).on_acceptance accepted))
