-- Document 01, "Card file and program": the fields of a file, and the card that it holds. A file is a list of bytes.
use Rattle.std.specs.Prelude.{ℕ, zero, suc, ◌+◌, ◌*◌, Bool, not, ◌&&◌, ◌||◌, cond, List, [], ◌∷◌, ◌++◌, eqb, ltb, get_or, length, take, drop, Float}
use Rattle.std.specs.Float.{binary64}
use Rattle.std.specs.Float.Ieee.{of_bits, to_bits}
use Rattle.shapes.specs.declared.circle.Circle.{Circle}
use Rattle.scope.specs.Refusals.{Answer, refused, given, answer, front_to_back, too_many, too_many_regions, card_refusal}
use Rattle.shapes.specs.Records.{circle_of}

-- ---- bytes to numbers

-- "all numbers little-endian"
unfoldable pub little_endian : List ℕ → ℕ
little_endian [] = 0
little_endian (b ∷ bs) = b + 256 * little_endian bs

-- `float_of`: every NaN pattern is the one NaN
unfoldable pub float_of : ℕ → Float
float_of pattern = of_bits binary64 pattern

-- the 64 bits of a float, a zero's sign too; the one NaN has a pattern of its own
unfoldable pub pattern_of : Float → ℕ
pattern_of x = to_bits binary64 x

-- the 64-bit number at a place
unfoldable pub word : List ℕ → ℕ → ℕ
word bs at = little_endian (take 8 (drop at bs))

-- the 16-bit number at a place
unfoldable pub short_word : List ℕ → ℕ → ℕ
short_word bs at = little_endian (take 2 (drop at bs))

-- ---- "A field is a tag byte, a two-byte length, a body": the field that starts the bytes `rest`

abbrev pub head_length : ℕ
head_length = 3

abbrev pub tag : List ℕ → ℕ
tag rest = get_or rest 0 0

unfoldable pub stated_length : List ℕ → ℕ
stated_length rest = short_word rest 1

-- "Tag 1, factor, 8 bytes", "tag 2, circle", which document 02, 1/14, has grow to 26 bytes, "tag 3, region, 16 bytes"; 0 for any other tag
unfoldable pub length_of_body : ℕ → ℕ
length_of_body t = cond (eqb t 1) 8 (cond (eqb t 2) 26 (cond (eqb t 3) 16 0))

unfoldable pub body : List ℕ → List ℕ
body rest = take (length_of_body (tag rest)) (drop head_length rest)

-- 11, "file ends inside a field": in its head, or in its body
unfoldable pub head_cut : List ℕ → Bool
head_cut rest = ltb (length rest) head_length

unfoldable pub body_cut : List ℕ → Bool
body_cut rest = ltb (length rest) (head_length + length_of_body (tag rest))

-- 9, "file tag unknown"
unfoldable pub unknown : ℕ → Bool
unknown t = not (eqb t 1 || eqb t 2 || eqb t 3)

-- 10, "field length wrong for its tag"
unfoldable pub wrong_length : List ℕ → Bool
wrong_length rest = not (eqb (stated_length rest) (length_of_body (tag rest)))

-- ---- "A field read is a factor, a circle or a region, floats inside"
pub data Field : Type 0 where
  factor_field : Float → Field
  circle_field : Circle → Field
  region_field : ℕ → Float → Field

-- "(x, y, radius)", and "the number last"
unfoldable pub circle_from : List ℕ → Circle
circle_from bs = circle_of (float_of (word bs 0)) (float_of (word bs 8)) (float_of (word bs 16)) (short_word bs 24)

unfoldable pub field_of : ℕ → List ℕ → Field
field_of t bs = cond (eqb t 1) (factor_field (float_of (word bs 0))) (cond (eqb t 2) (circle_field (circle_from bs)) (region_field (word bs 0) (float_of (word bs 8))))

-- "Both calls take a place in the file and know no order or count: they check head (11), tag 1, 2 or 3 (9), length (10), body (11)"
unfoldable pub field_refusal : List ℕ → ℕ
field_refusal rest = front_to_back ((11, head_cut rest) ∷ (9, unknown (tag rest)) ∷ (10, wrong_length rest) ∷ (11, body_cut rest) ∷ [])

-- "a place at or past the end is a cut head": there `drop` leaves nothing
unfoldable pub read_field : List ℕ → ℕ → Answer Field
read_field file at =
    let rest = drop at file in
    answer (field_refusal rest) (field_of (tag rest) (body rest))

-- "by a second call its body is handed back as a part of the file, an empty part on a refusal"
unfoldable pub field_body : List ℕ → ℕ → List ℕ
field_body file at =
    let rest = drop at file in
    cond (eqb (field_refusal rest) 0) (body rest) []

-- ---- the card: factor, circles, regions. An area's pattern stands beside it.
pub record Card : Type 0 where
  pub factor : Float
  pub circles : List Circle
  pub masks : List ℕ
  pub patterns : List ℕ
  pub areas : List Float

-- a card with the factor alone
abbrev pub started : Float → Card
started factor = record { factor = factor; circles = []; masks = []; patterns = []; areas = [] }

-- a circle or a region more
unfoldable pub with_field : Card → List ℕ → Card
with_field card rest =
    let bs = body rest in
    cond (eqb (tag rest) 2)
    (record { factor = card.factor; circles = card.circles ++ circle_from bs ∷ []; masks = card.masks; patterns = card.patterns; areas = card.areas })
    (record {
      factor = card.factor;
      circles = card.circles;
      masks = card.masks ++ word bs 0 ∷ [];
      patterns = card.patterns ++ word bs 8 ∷ [];
      areas = card.areas ++ float_of (word bs 8) ∷ [];
    })

-- after the factor: tag 1 is "once and first", so no more; tag 3 stands "after all circles", so no 2 after a 3
unfoldable pub misplaced : Card → ℕ → Bool
misplaced card t = not ((eqb t 2 && eqb (length card.masks) 0) || eqb t 3)

-- "Checks run front to back: head cut (11), tag (9), 65th circle (1) or 2,049th region (2), length (10), body cut (11)."
unfoldable pub next_refusal : Card → List ℕ → ℕ
next_refusal card rest =
    front_to_back
    ((11, head_cut rest) ∷ (9, misplaced card (tag rest)) ∷ (1, eqb (tag rest) 2 && too_many (suc (length card.circles)))
    ∷ (2, eqb (tag rest) 3 && too_many_regions (suc (length card.masks))) ∷ (10, wrong_length rest) ∷ (11, body_cut rest) ∷ [])

unfoldable pub or_refused : {A : Type 0} → ℕ → Answer A → Answer A
or_refused zero a = a
or_refused (suc k) a = refused (suc k)

-- Byte after byte: `left` bytes still belong to the field before, and where none is left a field starts.
unfoldable pub fields : ℕ → Card → List ℕ → Answer Card
fields left card [] = given card
fields (suc left) card (b ∷ bs) = fields left card bs
fields zero card (b ∷ bs) =
    let more = fields (2 + length_of_body b) (with_field card (b ∷ bs)) bs in
    or_refused (next_refusal card (b ∷ bs)) more

-- "Tag 1, factor, 8 bytes, once and first"; "An empty file gives 9."
unfoldable pub first_refusal : List ℕ → ℕ
first_refusal file =
    front_to_back
    ((9, eqb (length file) 0) ∷ (11, head_cut file) ∷ (9, not (eqb (tag file) 1)) ∷ (10, wrong_length file) ∷ (11, body_cut file) ∷ [])

unfoldable pub read_file : List ℕ → Answer Card
read_file file =
    let more = fields (head_length + length_of_body 1) (started (float_of (word (body file) 0))) file in
    or_refused (first_refusal file) more

-- "Then values, by the table."
abbrev pub values_refusal : Card → ℕ
values_refusal card = card_refusal card.circles card.factor card.masks card.areas

unfoldable pub valued : Answer Card → Answer Card
valued (refused k) = refused k
valued (given card) = answer (values_refusal card) card

unfoldable pub read_card : List ℕ → Answer Card
read_card file = valued (read_file file)
