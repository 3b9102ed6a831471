-- What is written reads back: the reader takes field after field, so one goes through the circles and then through the regions.
use Prim.Native.Nat.{ℕ, suc, ◌+◌, ◌^◌, ◌≤◌, ◌<◌}
use native.Mathlib.Omega.{arith}
use mathlib.Core.Path.{◌≡◌, refl, ap, ◌∙◌}
use mathlib.Core.List.{List, [], ◌∷◌, ◌++◌, map, append_assoc, append-nil, map-append}
use lib.Dec.{T}
use lib.ListN.{length, get_or, length-append, length-map}
use lib.Ieee.{Float, binary64, fits}
use Rattle.shapes.specs.declared.circle.Circle.{Circle}
use Rattle.scope.specs.Limits.{circle_cap, region_cap}
use Rattle.scope.specs.Refusals.{given}
use Rattle.scope.specs.Links.{circle}
use Rattle.scope.specs.CardFile.{Card, length_of_body, float_of, started, fields, read_file, values_refusal, valued, read_card}
use Rattle.scope.specs.Saving.{field, factor_body, circle_body, region_body, circle_fields, region_fields, file_of, card_of}
use Rattle.laws.specs.Fields.{with_region}
use Rattle.laws.proofs.Accepted.{within_limits}
use Rattle.laws.proofs.AfterRefusal.{answer-answers}
use Rattle.laws.proofs.CardFiles.{no_field}
use Rattle.laws.proofs.Fields.{written_then_read}
use Rattle.laws.proofs.NextFields.{circle_next, region_next, factor-first}
use Rattle.laws.proofs.Saving.{factor_body-length, circle_body-length, region_body-length}
use Rattle.laws.proofs.Bodies.{factor-read, circle-read, region-read}
use Rattle.promises.specs.SavedCards.{AreTyped}

record IsTyped (c : Circle) : Type 0 where
  x : T (fits binary64 c.center.x)
  y : T (fits binary64 c.center.y)
  radius : T (fits binary64 c.radius)
  ink : c.ink < 2 ^ 16

module _ (factor : Float) where
  circles-read : (done cs : List Circle) (more : List ℕ) → ((i : ℕ) → i < length cs → IsTyped (circle cs i)) → length done + length cs ≤ circle_cap
      → fields 0 (card_of factor done [] []) (circle_fields cs ++ more) ≡ fields 0 (card_of factor (done ++ cs) [] []) more
  unfolding circle_fields length_of_body
  circles-read done [] more typed room = rw append-nil
  circles-read done (c ∷ cs) more typed room =
      let others = circle_fields cs ++ more in
      let card = card_of factor done [] [] in
      let t = typed 0 (omega arith) in
      let starts = written_then_read 2 (circle_body c) others (circle_body-length c) in
      let all : done ++ c ∷ [] ++ cs ≡ done ++ c ∷ cs = append_assoc done (c ∷ []) cs in
      ap (fields 0 card) (append_assoc (field 2 (circle_body c)) (circle_fields cs) more)
      ∙ circle_next card (field 2 (circle_body c) ++ others) (circle_body c) others starts refl (omega arith)
      ∙ ap (λ d. fields 0 (card_of factor (done ++ d ∷ []) [] []) others) (circle-read c t.x t.y t.radius t.ink)
      ∙ circles-read (done ++ c ∷ []) cs more (λ i h. typed (suc i) (omega arith)) (omega (arith, length-append done (c ∷ [])))
      ∙ ap (λ (ds : List Circle). fields 0 (card_of factor ds [] []) more) all

  region_more : (cs : List Circle) (masks patterns : List ℕ) (mask pattern : ℕ)
      → with_region (card_of factor cs masks patterns) mask pattern ≡ card_of factor cs (masks ++ mask ∷ []) (patterns ++ pattern ∷ [])
  region_more cs masks patterns mask pattern = rw (map-append float_of patterns (pattern ∷ []))

  regions-read : (cs : List Circle) (done known masks patterns : List ℕ) → length masks ≡ length patterns
      → ((i : ℕ) → i < length masks → get_or masks i 0 < 2 ^ 64) → ((i : ℕ) → i < length patterns → get_or patterns i 0 < 2 ^ 64)
      → length done + length masks ≤ region_cap
      → fields 0 (card_of factor cs done known) (region_fields masks patterns) ≡ given (card_of factor cs (done ++ masks) (known ++ patterns))
  unfolding region_fields length_of_body
  regions-read cs done known [] [] e m p room = rw (append-nil done, append-nil known) (no_field _)
  regions-read cs done known [] (b ∷ ps) e m p room = absurd (omega arith)
  regions-read cs done known (a ∷ ms) [] e m p room = absurd (omega arith)
  regions-read cs done known (a ∷ ms) (b ∷ ps) e m p room =
      let others = region_fields ms ps in
      let card = card_of factor cs done known in
      let starts = written_then_read 3 (region_body a b) others (region_body-length a b) in
      let read = region-read a b (m 0 (omega arith)) (p 0 (omega arith)) in
      let masks : done ++ a ∷ [] ++ ms ≡ done ++ a ∷ ms = append_assoc done (a ∷ []) ms in
      let patterns : known ++ b ∷ [] ++ ps ≡ known ++ b ∷ ps = append_assoc known (b ∷ []) ps in
      region_next card (field 3 (region_body a b) ++ others) (region_body a b) others starts (omega arith)
      ∙ rw (read.0, read.1, region_more cs done known a b, ← masks, ← patterns)
      (regions-read cs (done ++ a ∷ []) (known ++ b ∷ []) ms ps (omega arith) (λ i h. m (suc i) (omega arith)) (λ i h. p (suc i) (omega arith))
      (omega (arith, length-append done (a ∷ []))))

  module _ (cs : List Circle) (masks patterns : List ℕ) (typed : AreTyped (card_of factor cs masks patterns)) where
    abbrev card : Card
    card = card_of factor cs masks patterns

    circle_typed : (i : ℕ) → i < length cs → IsTyped (circle cs i)
    circle_typed i h = record { x = typed.doubles.x i h; y = typed.doubles.y i h; radius = typed.doubles.radius i h; ink = typed.inks i h }

    file_read : values_refusal card ≡ 0 → read_file (file_of card) ≡ given card
    unfolding file_of length_of_body
    file_read accepted =
        let limits = within_limits cs factor masks (map float_of patterns) accepted in
        let others = circle_fields cs ++ region_fields masks patterns in
        let first = field 1 (factor_body factor) in
        let starts = written_then_read 1 (factor_body factor) others (factor_body-length factor) in
        ap read_file (append_assoc first (circle_fields cs) (region_fields masks patterns))
        ∙ factor-first (first ++ others) (factor_body factor) others starts
        ∙ ap (λ x. fields 0 (started x) others) (factor-read factor typed.doubles.factor)
        ∙ circles-read [] cs (region_fields masks patterns) circle_typed (omega (arith, limits.few_circles))
        ∙ regions-read cs [] [] masks patterns (limits.paired ∙ length-map patterns float_of) typed.masks typed.patterns
        (omega (arith, limits.few_regions))

    pub reads_back : values_refusal card ≡ 0 → read_card (file_of card) ≡ given card
    unfolding read_card valued
    reads_back accepted = ap valued (file_read accepted) ∙ (answer-answers (values_refusal card) card).on_acceptance accepted
