-- What is printed of a card: the refusal's text, or that of its layout. And its writing into a lent list.
use Prim.Native.Nat.{ℕ, ◌≤◌, ◌<◌}
use mathlib.Core.Path.{◌≡◌, refl, sym, ap, ◌∙◌}
use mathlib.Core.Bool.{true≢false}
use mathlib.Core.List.{List}
use lib.Dec.{eqb, ltb}
use lib.Ieee.{Float}
use lib.ListN.{length}
use borrow.Author.Tests.{lt-ltb, le-ltb}
use Rattle.shapes.specs.declared.circle.Circle.{Circle}
use Rattle.scope.specs.Numbers.{golden}
use Rattle.scope.specs.Limits.{circle_cap, input_cap}
use Rattle.scope.specs.Refusals.{card_refusal, refused, given, front_to_back, too_short, text_refusal}
use Rattle.scope.specs.Layout.{Layout, refused_layout, layout}
use Rattle.scope.specs.CardFile.{values_refusal, read_card}
use Rattle.scope.specs.Print.{printed, refused_text, answer_text, card_text}
use Rattle.laws.proofs.Accepted.{layout_at_golden, within_limits}
use Rattle.laws.proofs.AfterRefusal.{layout-answers}
use Rattle.laws.proofs.CardFiles.{card_both_ways}
use Rattle.laws.proofs.EntryPoints.{text_reads}
use Rattle.layout.proofs.Lengths.{layout-length}
use Rattle.card_output.specs.Texts.{NoneAbove, layout_of}
use Rattle.std.specs.Prelude.{Result, Ok, Err}
use Rattle.std.specs.Result.{IsOk}
use Rattle.intake.specs.Limits.{max_circles}
use Rattle.refusals.specs.declared.Refusal.{Refusal}
use Rattle.refusals.specs.Numbers.{number}
use Rattle.refusals.proofs.Exits.{number-there}
use Rattle.layout.specs.declared.normalize.Arrangement.{Arrangement}
use Rattle.layout.specs.Answers.{laid_out}
use Rattle.card_file.specs.Answers.{ReadCard}
use Rattle.card_output.proofs.Short.{fifteen_if}
use Rattle.card_output.proofs.ClusterNumbers.{layout-numbers}

-- ---- the layout of a card with accepted values

module _ (cs : List Circle) (factor : Float) (masks : List ℕ) (areas : List Float) (values : card_refusal cs factor masks areas ≡ 0) where
  abbrev laid : Layout
  laid = layout cs factor masks areas golden

  -- so it is not refused
  pub laid_out-given : (r : Result Arrangement Refusal) (after : List Circle) → laid_out r after ≡ laid → IsOk r
  unfolding refused_layout
  laid_out-given (Ok a) after e = refl
  laid_out-given (Err r) after e =
      let accepted = (layout-answers cs factor masks areas golden).says ∙ layout_at_golden cs factor masks areas ∙ values in
      let none : number r ≡ 0 = ap (λ (l : Layout). l.result.refusal) e ∙ accepted in
      absurd (true≢false (ap (λ (n : ℕ). eqb n 0) (sym none) ∙ number-there r))

  pub laid_out-fits : (a : Arrangement) (after : List Circle) → layout_of a after ≡ laid
      → (length after ≤ max_circles) × (a.count ≤ length after) × NoneAbove (length after) a.numbers
  unfolding circle_cap
  laid_out-fits a after e =
      let few = (within_limits cs factor masks areas values).few_circles in
      let long : length after ≡ length cs = ap (λ (l : Layout). length l.circles) e ∙ layout-length cs factor masks areas golden in
      let fits = rw (← e) at (layout-numbers cs factor masks areas golden) in
      rw long (few, fits.0, fits.1)

-- ---- which text it is

pub long-text : (input : List ℕ) → input_cap < length input → refused_text 2 ≡ card_text input
unfolding card_text
long-text input h = rw (lt-ltb input_cap (length input) h)

short-text : (input : List ℕ) → length input ≤ input_cap → answer_text (read_card input) ≡ card_text input
unfolding card_text
short-text input h = rw (le-ltb input_cap (length input) h)

module _ (input : List ℕ) (short : length input ≤ input_cap) where
  pub refusal-text : (k : ℕ) → refused k ≡ read_card input → refused_text k ≡ card_text input
  unfolding answer_text
  refusal-text k e = rw (← e) at (short-text input short)

  pub given-text : (card : ReadCard) → given card ≡ read_card input
      → printed (layout card.circles card.factor card.masks card.areas golden) ≡ card_text input
  unfolding answer_text
  given-text card e = rw (← e) at (short-text input short)

-- a card that was read has accepted values
pub values-accepted : (input : List ℕ) (card : ReadCard) → given card ≡ read_card input → values_refusal card ≡ 0
values-accepted input card e = (((card_both_ways input).gives card).0 (sym e)).1

-- ---- the text written into a lent list

pub text-number : (input out : List ℕ)
    → text_refusal (length out) (length (card_text input)) ≡ fifteen_if (ltb (length out) (length (card_text input)))
unfolding front_to_back too_short
text-number input out = (text_reads (length out) (length (card_text input))).runs
