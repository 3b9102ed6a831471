-- No call of the layout changes how many circles there are.
use Prim.Native.Nat.{ℕ}
use native.Mathlib.Decide.{ℕ_discrete}
use mathlib.Core.Path.{◌≡◌}
use mathlib.Core.List.{List}
use lib.Ieee.{Float}
use lib.ListN.{length}
use Rattle.shapes.specs.declared.circle.Circle.{Circle}
use Rattle.scope.specs.Links.{regions}
use Rattle.scope.specs.Refusals.{layout_refusal}
use Rattle.scope.specs.Layout.{layout, refused_layout}
use Rattle.laws.proofs.AfterRefusal.{layout-answers}
use Rattle.promises.proofs.whole.Lengths.{arranged-length}

pub layout-length : (cs : List Circle) (factor : Float) (masks : List ℕ) (areas : List Float) (proportion : Float)
    → length (layout cs factor masks areas proportion).circles ≡ length cs
unfolding refused_layout
layout-length cs factor masks areas proportion =
    let answers = layout-answers cs factor masks areas proportion in
    elim (ℕ_discrete (layout_refusal cs factor masks areas proportion) 0) [
      | yes z ↦ rw (answers.on_acceptance z) (arranged-length proportion cs factor (regions masks areas))
      | no z ↦ rw (answers.at_refusal z)
    ]
