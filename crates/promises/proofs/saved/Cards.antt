-- Saved cards: the two theorems, and what follows from them of an output, of a file's length and of the text that is shown again.
use Prim.Native.Nat.{ℕ, ◌≤◌}
use native.Mathlib.Omega.{arith}
use mathlib.Core.Path.{◌≡◌, sym, ap, ◌∙◌}
use mathlib.Core.Bool.{cond}
use mathlib.Core.List.{List, map}
use lib.Dec.{eqb}
use lib.ListN.{length, take, length-map}
use lib.Seq.{take-append_seam}
use lib.Ieee.{Float}
use borrow.Author.Tests.{le-ltb}
use Rattle.shapes.specs.declared.circle.Circle.{Circle}
use Rattle.scope.specs.Limits.{circle_cap, region_cap, input_cap}
use Rattle.scope.specs.Refusals.{given, too_short, writer_refusal}
use Rattle.scope.specs.Numbers.{golden}
use Rattle.scope.specs.Layout.{layout}
use Rattle.scope.specs.CardFile.{Card, float_of, values_refusal, read_card}
use Rattle.scope.specs.Print.{printed, answer_text, card_text}
use Rattle.scope.specs.Saving.{file_of, card_of, accepted_saving, write_card}
use Rattle.laws.specs.Bytes.{AreBytes}
use Rattle.laws.proofs.Cases.{eqb_iff, tested, is_false}
use Rattle.laws.proofs.Accepted.{within_limits}
use Rattle.laws.proofs.AfterRefusal.{write_card-answers}
use Rattle.laws.proofs.CardFiles.{card_both_ways}
use Rattle.laws.proofs.CardTexts.{short-text}
use Rattle.laws.proofs.Saving.{file_length, writer_takes}
use Rattle.promises.specs.SavedCards.{AreTyped, CardsSaved}
use Rattle.promises.proofs.saved.ReadsBack.{reads_back}
use Rattle.promises.proofs.saved.SameBytes.{same_bytes, read-by_values}

-- ---- the writer's number

abbrev number_of : Card → List ℕ → ℕ
number_of card out = writer_refusal card.circles card.factor card.masks card.areas (length out) (length (file_of card))

first-zero : (a b : ℕ) → cond (eqb a 0) b a ≡ 0 → a ≡ 0
first-zero a b e = elim (tested (eqb a 0)) [ yes h ↦ (eqb_iff a 0).0 h | no h ↦ rw (is_false (eqb a 0) h) at e ]

module _ (card : Card) (out : List ℕ) where
  written_values : number_of card out ≡ 0 → values_refusal card ≡ 0
  written_values e =
      first-zero (values_refusal card) _ (sym (writer_takes card.circles card.factor card.masks card.areas (length out) (length (file_of card))) ∙ e)

  room_serves : values_refusal card ≡ 0 → length (file_of card) ≤ length out → number_of card out ≡ 0
  unfolding too_short
  room_serves accepted room =
      writer_takes card.circles card.factor card.masks card.areas (length out) (length (file_of card))
      ∙ rw (accepted, le-ltb (length out) (length (file_of card)) room)

-- ---- written to an output

module _ (factor : Float) (cs : List Circle) (masks patterns : List ℕ) where
  abbrev card : Card
  card = card_of factor cs masks patterns

  output_reads_back : (out : List ℕ) → AreTyped card → (write_card card out).refusal ≡ 0
      → read_card (take (write_card card out).written (write_card card out).output) ≡ given card
  output_reads_back out typed e =
      let answers = write_card-answers card out in
      let number = sym answers.says ∙ e in
      rw (answers.on_acceptance number, take-append_seam (file_of card)) (reads_back factor cs masks patterns typed (written_values card out number))

  longest : values_refusal card ≡ 0 → length (file_of card) ≤ 40779
  unfolding circle_cap region_cap
  longest accepted =
      let limits = within_limits cs factor masks (map float_of patterns) accepted in
      omega (arith, file_length factor cs masks patterns (limits.paired ∙ length-map patterns float_of), limits.few_circles, limits.few_regions)

  shown_again_lem : AreTyped card → values_refusal card ≡ 0 → card_text (file_of card) ≡ printed (layout cs factor masks (map float_of patterns) golden)
  unfolding input_cap answer_text
  shown_again_lem typed accepted =
      short-text (file_of card) (omega (arith, longest accepted)) ∙ ap answer_text (reads_back factor cs masks patterns typed accepted)

written-again : (file out : List ℕ) (card : Card) → AreBytes file → read_card file ≡ given card → length file ≤ length out
    → write_card card out ≡ accepted_saving file out
written-again file out card small read room =
    let same = same_bytes file card small read in
    let number = room_serves card out (((card_both_ways file).gives card).0 read).1 (rw same room) in
    (write_card-answers card out).on_acceptance number ∙ ap (λ bytes. accepted_saving bytes out) same

-- ---- all of it

pub cards-saved : CardsSaved
cards-saved = record {
  reads_back = reads_back;
  output_reads_back = output_reads_back;
  same_bytes = same_bytes;
  written-again = written-again;
  read-by_values = read-by_values;
  takes = λ card. writer_takes card.circles card.factor card.masks card.areas;
  size = file_length;
  longest = longest;
  shown_again_lem = shown_again_lem;
}
