-- The program's text is a refusal's exactly where its input is refused: a printed layout starts with another byte, and a refusal's text gives its number back.
use Prim.Native.Nat.{ℕ, ◌*◌, ◌≤◌, ◌<◌}
use native.Mathlib.Omega.{arith}
use mathlib.Core.Path.{◌≡◌, refl, sym, ap, ◌∙◌}
use mathlib.Core.Logic.{◌↔◌, ⊎_elim, ◌≢◌}
use mathlib.Core.List.{List, []}
use lib.ListN.{length, get_or, drop}
use borrow.Author.Tests.{lt-ltb, le-ltb}
use Rattle.algebra.proofs.Size.{either}
use Rattle.scope.specs.Numbers.{golden}
use Rattle.scope.specs.Limits.{input_cap}
use Rattle.scope.specs.Refusals.{Answer, refused, given}
use Rattle.scope.specs.Links.{regions}
use Rattle.scope.specs.Layout.{Layout, arranged}
use Rattle.scope.specs.CardFile.{Card, values_refusal, read_card}
use Rattle.scope.specs.Text.{bytes}
use Rattle.scope.specs.Print.{decimal, printed, refused_text, answer_text, card_text}
use Rattle.laws.specs.CardFiles.{Reaches, InputRefused, too_long, by_card}
use Rattle.laws.proofs.Accepted.{layout_at_golden}
use Rattle.laws.proofs.AfterRefusal.{layout-answers}
use Rattle.laws.proofs.CardFiles.{card_both_ways}
use Rattle.laws.proofs.Decimal.{read_on, read_last, decimal-read}

-- ---- the two kinds of text

refusal-read : (k : ℕ) → read_on 0 (drop 8 (refused_text k)) ≡ k * 10
unfolding refused_text bytes
refusal-read k = rw (read_last 0 (decimal k) 10, decimal-read k) (omega arith)

pub refusals_differ : (j k : ℕ) → refused_text j ≡ refused_text k → j ≡ k
refusals_differ j k e = omega (arith, sym (refusal-read j) ∙ ap (λ text. read_on 0 (drop 8 text)) e ∙ refusal-read k)

pub layout_is_no_refusal : (l : Layout) (k : ℕ) → printed l ≢ refused_text k
unfolding printed refused_text bytes
layout_is_no_refusal l k e = let first : ◌≡◌ {A = ℕ} 99 114 = ap (λ (text : List ℕ). get_or text 0 0) e in omega arith

-- ---- the text of an input

module _ (input : List ℕ) where
  pub long-text : input_cap < length input → card_text input ≡ refused_text 2
  unfolding card_text
  long-text h = rw (lt-ltb input_cap (length input) h)

  pub short-text : length input ≤ input_cap → card_text input ≡ answer_text (read_card input)
  unfolding card_text
  short-text h = rw (le-ltb input_cap (length input) h)

  -- of circles that are laid out, at 1.618
  pub accepted-text : (card : Card) → length input ≤ input_cap → Reaches input card [] → values_refusal card ≡ 0
      → card_text input ≡ printed (arranged golden card.circles card.factor (regions card.masks card.areas))
  unfolding answer_text
  accepted-text card h r z =
      let accepted = layout_at_golden card.circles card.factor card.masks card.areas ∙ z in
      short-text h ∙ ap answer_text (((card_both_ways input).gives card).1 (r, z))
      ∙ ap printed ((layout-answers card.circles card.factor card.masks card.areas golden).on_acceptance accepted)

  pub text_refused_iff : (k : ℕ) → k ≢ 0 → (card_text input ≡ refused_text k) ↔ InputRefused input k
  unfolding answer_text
  text_refused_iff k nz = (λ e. ⊎_elim (long e) (short e) (either input_cap (length input)), back)
    where
      by_answer : (a : Answer Card) → read_card input ≡ a → answer_text a ≡ refused_text k → read_card input ≡ refused k
      by_answer (refused j) r e = r ∙ ap refused (refusals_differ j k e)
      by_answer (given card) r e = absurd (layout_is_no_refusal _ k e)

      long : card_text input ≡ refused_text k → input_cap < length input → InputRefused input k
      long e h = too_long h (refusals_differ k 2 (sym e ∙ long-text h))

      short : card_text input ≡ refused_text k → length input ≤ input_cap → InputRefused input k
      short e h = by_card h (((card_both_ways input).refuses k nz).0 (by_answer (read_card input) refl (sym (short-text h) ∙ e)))

      back : InputRefused input k → card_text input ≡ refused_text k
      back (too_long h e) = long-text h ∙ ap refused_text (sym e)
      back (by_card h r) = short-text h ∙ ap answer_text (((card_both_ways input).refuses k nz).1 r)
