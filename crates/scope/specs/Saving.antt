-- Document 02, 2/14, "Save a finished card": the file of a card, and what the writer answers. The fields are document 01's, with 1/14's ink.
use Rattle.std.specs.Prelude.{ℕ, zero, suc, ◌/◌, ◌%◌, List, [], ◌∷◌, ◌++◌, map, length, drop, Float}
use Rattle.shapes.specs.declared.circle.Circle.{Circle}
use Rattle.scope.specs.Refusals.{writer_refusal, text_refusal}
use Rattle.scope.specs.CardFile.{Card, float_of, pattern_of}
use Rattle.scope.specs.Print.{card_text}

-- ---- numbers to bytes

-- "all numbers little-endian": the w lowest bytes of a number, the lowest first
unfoldable pub low_bytes : ℕ → ℕ → List ℕ
low_bytes zero n = []
low_bytes (suc w) n = n % 256 ∷ low_bytes w (n / 256)

-- ---- "A field is a tag byte, a two-byte length, a body"

unfoldable pub field : ℕ → List ℕ → List ℕ
field t bs = t ∷ low_bytes 2 (length bs) ++ bs

-- "all bits kept": a float goes by its pattern
unfoldable pub factor_body : Float → List ℕ
factor_body factor = low_bytes 8 (pattern_of factor)

-- "(x, y, radius)", and "the number last"
unfoldable pub circle_body : Circle → List ℕ
circle_body c =
    low_bytes 8 (pattern_of c.center.x) ++ low_bytes 8 (pattern_of c.center.y) ++ low_bytes 8 (pattern_of c.radius) ++ low_bytes 2 c.ink

-- "(mask, area)"
unfoldable pub region_body : ℕ → ℕ → List ℕ
region_body mask pattern = low_bytes 8 mask ++ low_bytes 8 pattern

-- ---- the file: the factor "once and first", then the circles, and the regions "after all circles"

unfoldable pub circle_fields : List Circle → List ℕ
circle_fields [] = []
circle_fields (c ∷ cs) = field 2 (circle_body c) ++ circle_fields cs

unfoldable pub region_fields : List ℕ → List ℕ → List ℕ
region_fields [] patterns = []
region_fields (mask ∷ masks) [] = []
region_fields (mask ∷ masks) (pattern ∷ patterns) = field 3 (region_body mask pattern) ++ region_fields masks patterns

unfoldable pub file_of : Card → List ℕ
file_of card = field 1 (factor_body card.factor) ++ circle_fields card.circles ++ region_fields card.masks card.patterns

-- ---- "Bytes beyond the written length are untouched"; after a refusal "nothing is written"

-- the number, how many bytes were written, and the lent list as it then is
pub record Saved : Type 0 where
  pub refusal : ℕ
  pub written : ℕ
  pub output : List ℕ

abbrev pub refused_saving : List ℕ → ℕ → Saved
refused_saving out k = record { refusal = k; written = 0; output = out }

abbrev pub accepted_saving : List ℕ → List ℕ → Saved
accepted_saving bytes out = record { refusal = 0; written = length bytes; output = bytes ++ drop (length bytes) out }

unfoldable pub saving : ℕ → List ℕ → List ℕ → Saved
saving zero bytes out = accepted_saving bytes out
saving (suc k) bytes out = refused_saving out (suc k)

-- a card by its values; the areas go by their patterns, since there is one NaN among the floats
abbrev pub card_of : Float → List Circle → List ℕ → List ℕ → Card
card_of factor cs masks patterns = record { factor = factor; circles = cs; masks = masks; patterns = patterns; areas = map float_of patterns }

-- "The writer takes exactly the values that the reader takes"; "A lent output too short for the file gives 15, after all value checks"
unfoldable pub write_card : Card → List ℕ → Saved
write_card card out =
    saving (writer_refusal card.circles card.factor card.masks card.areas (length out) (length (file_of card))) (file_of card) out

-- `card`'s text, likewise
unfoldable pub write_text : List ℕ → List ℕ → Saved
write_text input out = saving (text_refusal (length out) (length (card_text input))) (card_text input) out
