-- What was read is written again: after each field the card's own file is what was read so far, unless a number of the card is a NaN; and no accepted value
-- is one.
use Prim.Native.Nat.{ℕ, ◌+◌, ◌<◌}
use native.Mathlib.Omega.{arith}
use mathlib.Core.Path.{◌≡◌, refl, sym, ap, ◌∙◌}
use mathlib.Core.Logic.{⊎_elim}
use mathlib.Core.Bool.{not}
use mathlib.Core.List.{List, [], ◌∷◌, ◌++◌, map, append_assoc, append-nil, map-append}
use lib.Dec.{T}
use lib.ListN.{length, length-append, get_or-append}
use lib.Seq.{get_or-append_seam}
use lib.Ieee.{is_nan}
use Rattle.shapes.specs.declared.circle.Circle.{Circle}
use Rattle.scope.specs.Limits.{coordinate_ok, radius_ok, factor_ok}
use Rattle.scope.specs.Refusals.{given}
use Rattle.scope.specs.Links.{circle, nowhere}
use Rattle.scope.specs.CardFile.{Card, tag, body, length_of_body, head_length, word, float_of, circle_from, values_refusal, read_card}
use Rattle.scope.specs.Saving.{field, factor_body, circle_body, region_body, circle_fields, region_fields, file_of, card_of}
use Rattle.laws.specs.Bytes.{AreBytes}
use Rattle.laws.specs.CardFiles.{after_field, Reaches, after_first, after_next}
use Rattle.laws.specs.Fields.{Starts, with_circle, with_region}
use Rattle.laws.proofs.Accepted.{within_limits}
use Rattle.laws.proofs.Bytes.{bytes_behind, bytes-before}
use Rattle.laws.proofs.CardFiles.{card_both_ways}
use Rattle.laws.proofs.Fields.{read_then_written, body-length}
use Rattle.laws.proofs.NextFields.{first_is, next_is}
use Rattle.laws.proofs.Saving.{file_with_circle, file_with_region}
use Rattle.laws.proofs.Bodies.{Numbers, no_nan_within, factor-written, circle-written, region-written}

-- ---- no NaN

record AllNumbers (card : Card) : Type 0 where
  factor-number : T (not (is_nan card.factor))
  circle-numbers : (i : ℕ) → i < length card.circles → Numbers (circle card.circles i)

accepted-numbers : (card : Card) → values_refusal card ≡ 0 → AllNumbers card
unfolding coordinate_ok radius_ok factor_ok
accepted-numbers card accepted =
    let limits = within_limits card.circles card.factor card.masks card.areas accepted in
    record {
      factor-number = no_nan_within _ _ card.factor limits.factor-inside;
      circle-numbers = λ i h. record {
        x = no_nan_within _ _ _ (limits.centres i h).0;
        y = no_nan_within _ _ _ (limits.centres i h).1;
        radius = no_nan_within _ _ _ (limits.radii i h);
      };
    }

-- of a card with a circle more: the circle's, and those before
last_numbers : (card : Card) (c : Circle) → AllNumbers (with_circle card c) → Numbers c × AllNumbers card
last_numbers card c n =
    let cs = card.circles in
    let long = length-append cs (c ∷ []) in (
      rw (get_or-append_seam cs c [] nowhere) at (n.circle-numbers (length cs) (omega arith)),
      record {
        factor-number = n.factor-number;
        circle-numbers = λ i h. rw (get_or-append cs (c ∷ []) nowhere i h) at (n.circle-numbers i (omega arith));
      },
    )

-- ---- one field

module _ (rest : List ℕ) (small : AreBytes rest) where
  body_bytes : AreBytes (body rest)
  unfolding body
  body_bytes = bytes-before (length_of_body (tag rest)) _ (bytes_behind head_length rest small)

  after_bytes : AreBytes (after_field rest)
  after_bytes = bytes_behind (head_length + length_of_body (tag rest)) rest small

  -- the field's own bytes, and then what stands after it
  again : (t : ℕ) (bs : List ℕ) → Starts rest t (body rest) (after_field rest) → bs ≡ body rest → field t bs ++ after_field rest ≡ rest
  again t bs s e = rw e (sym (read_then_written rest t (body rest) (after_field rest) small s))

  tag-length : {t : ℕ} → Starts rest t (body rest) (after_field rest) → length (body rest) ≡ length_of_body t
  tag-length s = rw s.tagged at (body-length rest s.whole)

  factor-again : Starts rest 1 (body rest) (after_field rest) → T (not (is_nan (float_of (word (body rest) 0))))
      → field 1 (factor_body (float_of (word (body rest) 0))) ++ after_field rest ≡ rest
  unfolding length_of_body
  factor-again s number = again 1 _ s (factor-written (body rest) (tag-length s) body_bytes number)

  circle-again : Starts rest 2 (body rest) (after_field rest) → Numbers (circle_from (body rest))
      → field 2 (circle_body (circle_from (body rest))) ++ after_field rest ≡ rest
  unfolding length_of_body
  circle-again s number = again 2 _ s (circle-written (body rest) (tag-length s) body_bytes number)

  region-again : Starts rest 3 (body rest) (after_field rest) → field 3 (region_body (word (body rest) 0) (word (body rest) 8)) ++ after_field rest ≡ rest
  unfolding length_of_body
  region-again s = again 3 _ s (region-written (body rest) (tag-length s) body_bytes)

-- ---- field after field

module _ (file : List ℕ) (card : Card) (rest : List ℕ) (small : AreBytes rest) (before : AllNumbers card → file_of card ++ rest ≡ file) where
  circle_more : length card.masks ≡ 0 → Starts rest 2 (body rest) (after_field rest) → AllNumbers (with_circle card (circle_from (body rest)))
      → file_of (with_circle card (circle_from (body rest))) ++ after_field rest ≡ file
  circle_more first s n =
      let c = circle_from (body rest) in
      let numbers = last_numbers card c n in
      let joined = append_assoc (file_of card) (field 2 (circle_body c)) (after_field rest) in
      rw (file_with_circle card c first, joined, circle-again rest small s numbers.0) (before numbers.1)

  region_more : length card.masks ≡ length card.patterns → Starts rest 3 (body rest) (after_field rest)
      → AllNumbers (with_region card (word (body rest) 0) (word (body rest) 8))
      → file_of (with_region card (word (body rest) 0) (word (body rest) 8)) ++ after_field rest ≡ file
  region_more paired s n =
      let mask = word (body rest) 0 in
      let pattern = word (body rest) 8 in
      let numbers : AllNumbers card = record { factor-number = n.factor-number; circle-numbers = n.circle-numbers } in
      let joined = append_assoc (file_of card) (field 3 (region_body mask pattern)) (after_field rest) in
      rw (file_with_region card mask pattern paired, joined, region-again rest small s) (before numbers)

module _ (file : List ℕ) where
  -- areas stand beside their patterns
  by_values : {card : Card} {rest : List ℕ} → Reaches file card rest
      → (length card.masks ≡ length card.patterns) × (card.areas ≡ map float_of card.patterns)
  by_values (after_first e) = (refl, refl)
  by_values (after_next {card} {rest} r e) =
      let before = by_values r in
      ⊎_elim
      (λ m. rw m.2 before)
      (λ m. rw m.1 (
        rw (length-append card.masks, length-append card.patterns, before.0),
        rw (map-append float_of card.patterns (word (body rest) 8 ∷ []), before.1),
      ))
      (next_is card rest e)

  module _ (small : AreBytes file) where
    bytes_left : {card : Card} {rest : List ℕ} → Reaches file card rest → AreBytes rest
    bytes_left (after_first e) = after_bytes file small
    bytes_left (after_next {card} {rest} r e) = after_bytes rest (bytes_left r)

    so_far : {card : Card} {rest : List ℕ} → Reaches file card rest → AllNumbers card → file_of card ++ rest ≡ file
    unfolding file_of circle_fields region_fields
    so_far (after_first e) n = simp append-nil (factor-again file small (first_is file e) n.factor-number)
    so_far (after_next {card} {rest} r e) n =
        let left = bytes_left r in
        let before : AllNumbers card → file_of card ++ rest ≡ file = λ k. so_far r k in
        ⊎_elim
        (λ m. rw m.2 (circle_more file card rest left before m.0 m.1 (rw m.2 at n)))
        (λ m. rw m.1 (region_more file card rest left before (by_values r).0 m.0 (rw m.1 at n)))
        (next_is card rest e)

  pub same_bytes : (card : Card) → AreBytes file → read_card file ≡ given card → file_of card ≡ file
  same_bytes card small read =
      let reached = ((card_both_ways file).gives card).0 read in
      sym (append-nil (file_of card)) ∙ so_far small reached.0 (accepted-numbers card reached.1)

  pub read-by_values : (card : Card) → read_card file ≡ given card → card ≡ card_of card.factor card.circles card.masks card.patterns
  read-by_values card read =
      let areas : card.areas ≡ map float_of card.patterns = (by_values (((card_both_ways file).gives card).0 read).0).1 in
      ap (λ l. record { factor = card.factor; circles = card.circles; masks = card.masks; patterns = card.patterns; areas = l }) areas
