-- The layout and the container call of the first n circles of an array: what comes back for them as a run, with the others behind them.
use Prim.Native.Nat.{ℕ}
use mathlib.Core.Path.{◌≡◌, sym, ap, ◌∙◌}
use mathlib.Core.Bool.{false}
use mathlib.Core.List.{List, ◌++◌}
use lib.ListN.{take, drop}
use lib.Ieee.{Float}
use Rattle.std.specs.Prelude.{Result, Ok, Err}
use Rattle.shapes.specs.declared.circle.Circle.{Circle}
use Rattle.shapes.specs.declared.rectangle.Rectangle.{Rectangle}
use Rattle.scope.specs.Refusals.{too_many}
use Rattle.scope.specs.Container.{contained, refused_container}
use Rattle.scope.specs.Layout.{Layout, layout, refused_layout}
use Rattle.scope.specs.Twins.{with_others, with_rest, first_layout, first_contained}
use Rattle.laws.proofs.ByValue.{first_layout-answers, first_contained-answers}
use Rattle.refusals.specs.declared.Refusal.{Refusal}
use Rattle.refusals.specs.Numbers.{number, number_if}
use Rattle.refusals.proofs.Exits.{stopped}
use Rattle.layout.specs.declared.normalize.Arrangement.{Arrangement}
use Rattle.layout.specs.Answers.{outcome_of, laid_out, contained_of}

module _ (n : ℕ) (cs new : List Circle) (few : too_many n ≡ false) where
  module _ (factor : Float) (masks : List ℕ) (areas : List Float) (proportion : Float) (r : Result Arrangement Refusal)
      (said : laid_out r new ≡ layout (take n cs) factor masks areas proportion) where
    as_run : first_layout n cs factor masks areas proportion ≡ with_others n cs (laid_out r new)
    unfolding first_layout
    as_run = rw few (ap (with_others n cs) (sym said))

    pub first-refused : (e : Refusal) → r ≡ Err e → refused_layout (number e) cs ≡ first_layout n cs factor masks areas proportion
    unfolding refused_layout
    first-refused e is =
        let all = first_layout-answers n cs factor masks areas proportion in
        let k = sym all.says ∙ ap (λ (l : Layout). l.result.refusal) (rw is at as_run) in
        let there = stopped r (number e) (ap number_if is) e is in
        sym (rw k at (all.at_refusal (λ z. there.1 (sym k ∙ z))))

    pub first-arranged : (a : Arrangement) → r ≡ Ok a → record { result = outcome_of a; circles = new ++ drop n cs } ≡ first_layout n cs factor masks areas proportion
    first-arranged a is = sym (rw is at as_run)

  module _ (container : Rectangle) (r : Result Rectangle Refusal) (said : contained_of container r new ≡ contained (take n cs) container) where
    settled_as_run : first_contained n cs container ≡ with_rest n cs (contained_of container r new)
    unfolding first_contained
    settled_as_run = rw few (ap (with_rest n cs) (sym said))

    pub first-kept : (e : Refusal) → r ≡ Err e → refused_container cs container (number e) ≡ first_contained n cs container
    first-kept e is =
        let all = first_contained-answers n cs container in
        let k = sym all.says ∙ ap (λ l. l.refusal) (rw is at settled_as_run) in
        let there = stopped r (number e) (ap number_if is) e is in
        sym (rw k at (all.at_refusal (λ z. there.1 (sym k ∙ z))))

    pub first-settled : (placed : Rectangle) → r ≡ Ok placed → record { refusal = 0; container = placed; circles = new ++ drop n cs } ≡ first_contained n cs container
    first-settled placed is = sym (rw is at settled_as_run)
