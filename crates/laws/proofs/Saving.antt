-- The file that is written: how long it is, that fields of one list after another's are those of both, and when an output is too short.
use Prim.Native.Nat.{ℕ, ◌+◌, ◌*◌}
use native.Mathlib.Omega.{arith}
use mathlib.Core.Path.{◌≡◌, refl, sym, ap, ◌∙◌}
use mathlib.Core.Bool.{cond}
use mathlib.Core.List.{List, [], ◌∷◌, ◌++◌, append_assoc, append-nil}
use lib.Dec.{eqb}
use lib.ListN.{length, length-append}
use lib.Ieee.{Float}
use Rattle.shapes.specs.declared.circle.Circle.{Circle}
use Rattle.scope.specs.Refusals.{too_short, card_refusal, writer_refusal}
use Rattle.scope.specs.CardFile.{Card, pattern_of}
use Rattle.scope.specs.Saving.{low_bytes, field, factor_body, circle_body, region_body, circle_fields, region_fields, file_of, card_of}
use Rattle.laws.specs.Fields.{with_circle, with_region}
use Rattle.laws.proofs.FrontToBack.{last_check}
use Rattle.laws.proofs.EntryPoints.{card_reads, writer_reads}
use Rattle.laws.proofs.Bytes.{length-low}

-- ---- bodies and fields

pub factor_body-length : (x : Float) → length (factor_body x) ≡ 8
unfolding factor_body
factor_body-length x = length-low 8 (pattern_of x)

pub circle_body-length : (c : Circle) → length (circle_body c) ≡ 26
unfolding circle_body
circle_body-length c = simp (length-append, length-low)

pub region_body-length : (mask pattern : ℕ) → length (region_body mask pattern) ≡ 16
unfolding region_body
region_body-length mask pattern = simp (length-append, length-low)

pub field-length : (t : ℕ) (bs : List ℕ) → length (field t bs) ≡ 3 + length bs
unfolding field low_bytes
field-length t bs = omega arith

-- a field whose body's length is known
pub field_is : (t n : ℕ) (bs : List ℕ) → length bs ≡ n → field t bs ≡ t ∷ low_bytes 2 n ++ bs
unfolding field
field_is t n bs l = rw l

-- ---- one list after another

pub circle_fields_append : (cs ds : List Circle) → circle_fields (cs ++ ds) ≡ circle_fields cs ++ circle_fields ds
unfolding circle_fields
circle_fields_append [] ds = refl
circle_fields_append (c ∷ cs) ds =
    ap (field 2 (circle_body c) ++◌) (circle_fields_append cs ds)
    ∙ sym (append_assoc (field 2 (circle_body c)) (circle_fields cs) (circle_fields ds))

pub region_fields_append : (masks patterns more others : List ℕ) → length masks ≡ length patterns
    → region_fields (masks ++ more) (patterns ++ others) ≡ region_fields masks patterns ++ region_fields more others
unfolding region_fields
region_fields_append [] [] more others e = refl
region_fields_append [] (p ∷ ps) more others e = absurd (omega arith)
region_fields_append (m ∷ ms) [] more others e = absurd (omega arith)
region_fields_append (m ∷ ms) (p ∷ ps) more others e =
    ap (field 3 (region_body m p) ++◌) (region_fields_append ms ps more others (omega arith))
    ∙ sym (append_assoc (field 3 (region_body m p)) (region_fields ms ps) (region_fields more others))

-- no regions are no bytes, whatever the patterns
no_region-fields : (masks patterns : List ℕ) → length masks ≡ 0 → region_fields masks patterns ≡ []
unfolding region_fields
no_region-fields [] patterns e = refl
no_region-fields (m ∷ ms) patterns e = absurd (omega arith)

-- ---- a field more

pub file_with_circle : (card : Card) (c : Circle) → length card.masks ≡ 0 → file_of (with_circle card c) ≡ file_of card ++ field 2 (circle_body c)
unfolding file_of circle_fields
file_with_circle card c e =
    rw (no_region-fields card.masks card.patterns e, circle_fields_append) (simp (append-nil, append_assoc))

pub file_with_region : (card : Card) (mask pattern : ℕ) → length card.masks ≡ length card.patterns
    → file_of (with_region card mask pattern) ≡ file_of card ++ field 3 (region_body mask pattern)
unfolding file_of region_fields
file_with_region card mask pattern e =
    rw (region_fields_append card.masks card.patterns (mask ∷ []) (pattern ∷ []) e) (simp (append-nil, append_assoc))

-- ---- lengths

pub circle_fields-length : (cs : List Circle) → length (circle_fields cs) ≡ 29 * length cs
unfolding circle_fields
circle_fields-length [] = refl
circle_fields-length (c ∷ cs) =
    rw (length-append, field-length, circle_body-length, circle_fields-length cs) (omega arith)

pub region_fields-length : (masks patterns : List ℕ) → length masks ≡ length patterns → length (region_fields masks patterns) ≡ 19 * length masks
unfolding region_fields
region_fields-length [] ps e = refl
region_fields-length (m ∷ ms) [] e = absurd (omega arith)
region_fields-length (m ∷ ms) (p ∷ ps) e =
    rw (length-append, field-length, region_body-length, region_fields-length ms ps (omega arith)) (omega arith)

pub file_length : (factor : Float) (cs : List Circle) (masks patterns : List ℕ) → length masks ≡ length patterns
    → length (file_of (card_of factor cs masks patterns)) ≡ 11 + 29 * length cs + 19 * length masks
unfolding file_of
file_length factor cs masks patterns e =
    rw (length-append, length-append, field-length, factor_body-length, circle_fields-length cs, region_fields-length masks patterns e) (omega arith)

-- ---- the number

-- "takes exactly the values that the reader takes": the reader's number, and where that is 0, what the output's room decides
pub writer_takes : (cs : List Circle) (factor : Float) (masks : List ℕ) (areas : List Float) (room size : ℕ)
    → writer_refusal cs factor masks areas room size
    ≡ cond (eqb (card_refusal cs factor masks areas) 0) (cond (too_short room size) 15 0) (card_refusal cs factor masks areas)
writer_takes cs factor masks areas room size =
    rw ((writer_reads cs factor masks areas room size).runs, (card_reads cs factor masks areas).runs) (last_check _ 15 (too_short room size) tt)
