-- The writer's answer: which number its checks give, one after the other, and that the file which is put is the answer where none refuses.
use Prim.Native.Nat.{ℕ, ◌+◌, ◌*◌, ◌^◌, ◌≤◌, ◌<◌}
use native.Mathlib.Decide.{ℕ_discrete}
use mathlib.Core.Path.{◌≡◌, refl, sym, ap, ◌∙◌}
use mathlib.Core.Logic.{◌≢◌}
use mathlib.Core.Bool.{Bool, true, cond, true≢false}
use mathlib.Core.List.{List, ◌++◌, map}
use lib.Dec.{eqb}
use lib.ListN.{length, get_or, drop, length-map}
use lib.Seq.{take_at}
use lib.Ieee.{Float, binary64, fits}
use borrow.Author.Tests.{ne_eqb}
use Rattle.shapes.specs.declared.circle.Circle.{Circle}
use Rattle.scope.specs.Limits.{circle_cap}
use Rattle.scope.specs.Refusals.{card_refusal, too_short, writer_refusal}
use Rattle.scope.specs.CardFile.{Card, float_of}
use Rattle.scope.specs.Saving.{file_of, refused_saving, card_of, write_card}
use Rattle.laws.proofs.Accepted.{within_limits}
use Rattle.laws.proofs.AfterRefusal.{write_card-answers}
use Rattle.promises.specs.SavedCards.{AreTyped}
use Rattle.promises.proofs.saved.Cards.{cards-saved}
use Rattle.refusals.specs.declared.Refusal.{Refusal}
use Rattle.refusals.specs.Numbers.{number}
use Rattle.refusals.proofs.Exits.{number-there}
use Rattle.intake.specs.Limits.{max_circles}
use Rattle.card_output.specs.Saving.{saved, ReadsBack}
use Rattle.card_output.specs.Typed.{AllTyped}
use Rattle.card_output.proofs.Short.{fifteen_if, not_short}
use Rattle.std.specs.Prelude.{Ok}

module _ (factor : Float) (cs : List Circle) (masks patterns out : List ℕ) where
  abbrev card : Card
  card = card_of factor cs masks patterns

  -- of the values alone
  abbrev pub of_values : ℕ
  of_values = card_refusal cs factor masks (map float_of patterns)

  abbrev pub short : Bool
  short = too_short (length out) (11 + 29 * length cs + 19 * length masks)

  abbrev pub of_all : ℕ
  of_all = writer_refusal cs factor masks (map float_of patterns) (length out) (length (file_of card))

  pub paired : of_values ≡ 0 → length masks ≡ length patterns
  paired z = (within_limits cs factor masks (map float_of patterns) z).paired ∙ length-map patterns float_of

  pub few : of_values ≡ 0 → length cs ≤ max_circles
  unfolding circle_cap
  few z = (within_limits cs factor masks (map float_of patterns) z).few_circles

  -- the values' number first, then the output's: the file's length counts for accepted values alone
  pub in_order : of_all ≡ cond (eqb of_values 0) (fifteen_if short) of_values
  in_order = cards-saved.takes card (length out) (length (file_of card)) ∙ (elim (ℕ_discrete of_values 0) [
    | yes z ↦ rw (z, cards-saved.size factor cs masks patterns (paired z))
    | no z ↦ rw (ne_eqb of_values 0 z)
  ])

  pub room_for_file : fifteen_if short ≡ 0 → 11 + 29 * length cs + 19 * length masks ≤ length out
  unfolding too_short
  room_for_file e = not_short (length out) _ e

  pub all_typed : AllTyped cs → fits binary64 factor ≡ true → ((i : ℕ) → get_or masks i 0 < 2 ^ 64)
      → ((i : ℕ) → get_or patterns i 0 < 2 ^ 64) → AreTyped card
  all_typed each f m p = record {
    doubles = record { x = λ i l. (each i l).x; y = λ i l. (each i l).y; radius = λ i l. (each i l).radius; factor = rw f tt };
    inks = λ i l. (each i l).ink;
    masks = λ i l. m i;
    patterns = λ i l. p i;
  }

  pub written-refused : (r : Refusal) → number r ≡ of_all → refused_saving out (number r) ≡ write_card card out
  written-refused r e =
      let there : of_all ≢ 0 = λ z. true≢false (ap (λ (n : ℕ). eqb n 0) (sym (e ∙ z)) ∙ number-there r) in
      rw e (sym ((write_card-answers card out).at_refusal there))

  pub written-accepted : (n : ℕ) (after : List ℕ) → of_values ≡ 0 → of_all ≡ 0
      → (n ≡ length (file_of card)) × (after ≡ file_of card ++ drop (length (file_of card)) out)
      → AreTyped card → (saved (Ok n) after ≡ write_card card out) × ReadsBack card (Ok n) after
  written-accepted n after values z put typed = (
    rw (put.0, put.1) (sym ((write_card-answers card out).on_acceptance z)),
    rw (put.0, put.1, take_at (file_of card) (drop (length (file_of card)) out) (length (file_of card)) refl)
        (cards-saved.reads_back factor cs masks patterns typed values),
  )
