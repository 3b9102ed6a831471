-- `rundhefja_layout` meets its contract: the record is that of the layout, and the promises are the layout's.
use mathlib.Core.Path.{ap, ◌∙◌}
use Rattle.scope.specs.Layout.{Result as Outcome, Layout}
use Rattle.scope.specs.Links.{regions}
use Rattle.scope.specs.Promises.{Promises}
use Rattle.promises.specs.Demand3.{bound}
use Rattle.rundhefja.proofs.Given.{outcome-given}
use Rattle.rundhefja.proofs.runs.rundhefja_layout.Goals as goal

pub returns : goal.returns
returns c =
    let a = c.args in
    let laid = c.normalize_layout_with_clusters in (
      c.into.ensures ∙ ap (λ (l : Layout). l.result) laid.ensures.answer,
      ap (λ (l : Layout). l.circles) laid.ensures.answer,
      outcome-given (λ (o : Outcome). Promises bound a.circles.now (regions a.masks.now a.areas.now) o laid.new.circles) _ _ c.into.ensures
          laid.ensures.promises,
    )
