-- A layout has no more clusters than circles, and no circle's cluster has a number above the circle's: after a refusal all are 0.
use Prim.Native.Nat.{ℕ, ◌≤◌}
use native.Mathlib.Decide.{ℕ_discrete}
use native.Mathlib.Omega.{arith}
use mathlib.Core.List.{List}
use lib.Ieee.{Float}
use lib.ListN.{length}
use Rattle.shapes.specs.declared.circle.Circle.{Circle}
use Rattle.scope.specs.Limits.{circle_cap}
use Rattle.scope.specs.Links.{regions}
use Rattle.scope.specs.Refusals.{layout_refusal}
use Rattle.scope.specs.Groups.{Clusters, clusters}
use Rattle.scope.specs.Tolerance.{tolerance}
use Rattle.scope.specs.Layout.{arranged, refused_layout, layout}
use Rattle.laws.proofs.Runs.{get_or_filled_any}
use Rattle.laws.proofs.AfterRefusal.{layout-answers, filled_from_nothing}
use Rattle.laws.proofs.Clusters.{clusters_numbering}
use Rattle.card_output.specs.Texts.{NoneAbove}

module _ (cs : List Circle) (factor : Float) (masks : List ℕ) (areas : List Float) (proportion : Float) where
  abbrev g : Clusters
  g = clusters (length cs) (regions masks areas) (tolerance (regions masks areas))

  pub layout-numbers : ((layout cs factor masks areas proportion).result.count ≤ length cs) × NoneAbove (length cs) (layout cs factor masks areas proportion).result.numbers
  unfolding arranged refused_layout
  layout-numbers =
      let answers = layout-answers cs factor masks areas proportion in
      let numbering = clusters_numbering (length cs) (regions masks areas) (tolerance (regions masks areas)) in
      elim (ℕ_discrete (layout_refusal cs factor masks areas proportion) 0) [
        | yes z ↦ rw (answers.on_acceptance z) (numbering.few, λ i h. rw (get_or_filled_any circle_cap 0 g.numbers i) (numbering.at_most i h))
        | no z ↦ rw (answers.at_refusal z) (omega arith, λ i h. rw (filled_from_nothing {A = ℕ} circle_cap 0 i) (omega arith))
      ]
