-- What the card reader answers, read both ways: each field is passed over whole, so where `Reaches` says the reader stands what is left decides, and it
-- comes to the end or to a field that is refused, since each field leaves less.
use Prim.Native.Nat.{ℕ, zero, suc, ◌+◌, ◌≤◌, ◌<◌}
use native.Mathlib.Omega.{arith}
use mathlib.Core.Path.{◌≡◌, refl, sym, ap, ◌∙◌, subst}
use mathlib.Core.Logic.{◌⊎◌, inl, inr, ⊎_elim, ◌≢◌}
use mathlib.Core.List.{List, [], ◌∷◌}
use lib.Dec.{eqb}
use lib.ListN.{length, drop, length-drop}
use Rattle.scope.specs.Refusals.{Answer, refused, given, answer}
use Rattle.scope.specs.CardFile.{Card, tag, body, length_of_body, head_length, head_cut, word, float_of, started, with_field, first_refusal, next_refusal, or_refused, fields, read_file, values_refusal, valued, read_card}
use Rattle.laws.specs.Answers.{Decides, refusal_of}
use Rattle.laws.specs.CardFiles.{after_field, Reaches, after_first, after_next, FileRefused, at_first, at_next, CardRefused, by_field, by_values}
use Rattle.laws.proofs.Cases.{not_not_iff, not_ltb_iff, eqb_iff, tested}
use Rattle.laws.proofs.EntryPoints.{first_field_reads, next_field_reads}
use Rattle.laws.proofs.AfterRefusal.{answer-answers}

-- ---- answers in general: if each of the two says which answer it is, and one of them always holds, then each holds exactly where the answer is its own

abbrev Either : {A : Type 0} → (ℕ → Type 0) → (A → Type 0) → Type 0
Either {A} Refused Given = ((k : ℕ) × ((k ≢ 0) × Refused k)) ⊎ ((a : A) × Given a)

decided : {A : Type 0} {r : Answer A} {Refused : ℕ → Type 0} {Given : A → Type 0} → ((k : ℕ) → k ≢ 0 → Refused k → r ≡ refused k)
    → ((a : A) → Given a → r ≡ given a) → Either Refused Given → Decides r Refused Given
decided {A} {r} {Refused} {Given} refuse accept (inl (j, (nj, f))) = record {
  refuses = λ k nz. (λ e. subst Refused (sym (ap refusal_of (refuse j nj f)) ∙ ap refusal_of e) f, refuse k nz);
  gives = λ b. (λ e. absurd (nj (sym (ap refusal_of (refuse j nj f)) ∙ ap refusal_of e)), accept b);
}
decided {A} {r} {Refused} {Given} refuse accept (inr (a, g)) = record {
  refuses = λ k nz. (λ e. absurd (nz (sym (ap refusal_of e) ∙ ap refusal_of (accept a g))), refuse k nz);
  gives = λ b. (λ e. let both = sym (accept a g) ∙ e in let is : a ≡ b = cc in subst Given is g, accept b);
}

-- ---- one field

behind : (k : ℕ) (card : Card) (l : List ℕ) → fields k card l ≡ fields 0 card (drop k l)
unfolding fields
behind zero card l = refl
behind (suc k) card [] = refl
behind (suc k) card (b ∷ bs) = behind k card bs

pub next_field : (card : Card) (rest : List ℕ) → 0 < length rest
    → fields 0 card rest ≡ or_refused (next_refusal card rest) (fields 0 (with_field card rest) (after_field rest))
unfolding fields
next_field card [] h = absurd (omega arith)
next_field card (b ∷ bs) h =
    let long : head_length + length_of_body b ≡ suc (2 + length_of_body b) = omega arith in
    rw long (ap (or_refused (next_refusal card (b ∷ bs))) (behind (2 + length_of_body b) (with_field card (b ∷ bs)) bs))

pub no_field : (card : Card) → fields 0 card [] ≡ given card
unfolding fields
no_field card = refl

pub stops : {A : Type 0} (k : ℕ) (a : Answer A) → k ≢ 0 → or_refused k a ≡ refused k
unfolding or_refused
stops zero a h = absurd (h refl)
stops (suc k) a h = refl

pub goes_on : {A : Type 0} (k : ℕ) (a : Answer A) → k ≡ 0 → or_refused k a ≡ a
unfolding or_refused
goes_on k a h = rw h

pub after_factor : (file : List ℕ) → first_refusal file ≡ 0 → read_file file ≡ fields 0 (started (float_of (word (body file) 0))) (drop 11 file)
unfolding read_file length_of_body
after_factor file e = goes_on (first_refusal file) _ e ∙ behind 11 _ file

pub nothing_after : (file : List ℕ) → first_refusal file ≢ 0 → read_file file ≡ refused (first_refusal file)
unfolding read_file
nothing_after file h = stops (first_refusal file) _ h

-- ---- where the reader stands

past_factor : (file : List ℕ) → first_refusal file ≡ 0 → drop 11 file ≡ after_field file
unfolding length_of_body
past_factor file e =
    let factor = (eqb_iff (tag file) 1).0 ((not_not_iff (eqb (tag file) 1)).0 ((first_field_reads file).accepted.0 e).1.1.0) in
    rw factor

some_left : (card : Card) (rest : List ℕ) → next_refusal card rest ≡ 0 → 0 < length rest
unfolding head_cut
some_left card rest e = let head = (not_ltb_iff (length rest) head_length).0 ((next_field_reads card rest).accepted.0 e).0 in omega arith

module _ (file : List ℕ) where
  stands : {card : Card} {rest : List ℕ} → Reaches file card rest → read_file file ≡ fields 0 card rest
  stands (after_first e) = after_factor file e ∙ ap (fields 0 (started (float_of (word (body file) 0)))) (past_factor file e)
  stands (after_next {card} {rest} r e) = stands r ∙ next_field card rest (some_left card rest e) ∙ goes_on (next_refusal card rest) _ e

  reads_all : {card : Card} → Reaches file card [] → read_file file ≡ given card
  reads_all r = stands r ∙ no_field _

  refuses : (k : ℕ) → k ≢ 0 → FileRefused file k → read_file file ≡ refused k
  refuses k nz (at_first e) = nothing_after file (λ z. nz (sym e ∙ z)) ∙ ap refused e
  refuses k nz (at_next {card} {rest} r some e) = stands r ∙ next_field card rest some ∙ stops (next_refusal card rest) _ (λ z. nz (sym e ∙ z)) ∙ ap refused e

  abbrev Outcome : Type 0
  Outcome = Either (FileRefused file) (λ card. Reaches file card [])

  -- the end, a refusal, or a field more and less left
  step : (card : Card) (rest : List ℕ) → Reaches file card rest
      → Outcome ⊎ (Reaches file (with_field card rest) (after_field rest) × (length (after_field rest) < length rest))
  step card [] r = inl (inr (card, r))
  step card (b ∷ bs) r =
      let rest = b ∷ bs in
      elim (tested (eqb (next_refusal card rest) 0)) [
        | yes h ↦ inr (after_next r ((eqb_iff (next_refusal card rest) 0).0 h), omega (arith, length-drop (head_length + length_of_body b) rest))
        | no h ↦ inl (inl (next_refusal card rest, ((λ z. h ((eqb_iff (next_refusal card rest) 0).1 z)), at_next r (omega arith) refl)))
      ]

  from : (n : ℕ) (card : Card) (rest : List ℕ) → length rest ≤ n → Reaches file card rest → Outcome
  from zero card rest l r = ⊎_elim (λ o. o) (λ m. absurd (omega (arith, m.1))) (step card rest r)
  from (suc n) card rest l r = ⊎_elim (λ o. o) (λ m. from n (with_field card rest) (after_field rest) (omega (arith, m.1)) m.0) (step card rest r)

  outcome : Outcome
  outcome =
      elim (tested (eqb (first_refusal file) 0)) [
        | yes h ↦ from (length (after_field file)) _ (after_field file) (omega arith) (after_first ((eqb_iff (first_refusal file) 0).0 h))
        | no h ↦ inl (first_refusal file, ((λ z. h ((eqb_iff (first_refusal file) 0).1 z)), at_first refl))
      ]

  -- ---- the file

  pub file_both_ways : Decides (read_file file) (FileRefused file) (λ card. Reaches file card [])
  file_both_ways = decided refuses (λ card. reads_all) outcome

  -- ---- the card: then values

  values_after : {card : Card} → Reaches file card [] → read_card file ≡ answer (values_refusal card) card
  unfolding read_card valued
  values_after r = ap valued (reads_all r)

  card_accepts : (card : Card) → Reaches file card [] × (values_refusal card ≡ 0) → read_card file ≡ given card
  card_accepts card h = values_after h.0 ∙ (answer-answers (values_refusal card) card).on_acceptance h.1

  card_refuses : (k : ℕ) → k ≢ 0 → CardRefused file k → read_card file ≡ refused k
  unfolding read_card valued
  card_refuses k nz (by_field f) = ap valued (refuses k nz f)
  card_refuses k nz (by_values {card} r e) = values_after r ∙ (answer-answers (values_refusal card) card).at_refusal (λ z. nz (sym e ∙ z)) ∙ ap refused e

  card_outcome : Outcome → Either (CardRefused file) (λ (card : Card). Reaches file card [] × (values_refusal card ≡ 0))
  card_outcome (inl (k, (nz, f))) = inl (k, (nz, by_field f))
  card_outcome (inr (card, r)) = elim (tested (eqb (values_refusal card) 0)) [
    | yes h ↦ inr (card, (r, (eqb_iff (values_refusal card) 0).0 h))
    | no h ↦ inl (values_refusal card, ((λ z. h ((eqb_iff (values_refusal card) 0).1 z)), by_values r refl))
  ]

  pub card_both_ways : Decides (read_card file) (CardRefused file) (λ card. Reaches file card [] × (values_refusal card ≡ 0))
  card_both_ways = decided card_refuses card_accepts (card_outcome outcome)
