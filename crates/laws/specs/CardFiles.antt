-- Lets one say how far a card file is read, and which number refuses it: that of the first field whose checks fail; then, of a file read to its end, that of
-- its values; and before both, of the program's input, its length.
use Rattle.std.specs.Prelude.{ℕ, ◌+◌, ◌≤◌, ◌<◌, ◌≡◌, List, [], length, drop}
use Rattle.scope.specs.Limits.{input_cap}
use Rattle.scope.specs.CardFile.{Card, tag, head_length, length_of_body, body, word, float_of, started, with_field, first_refusal, next_refusal, values_refusal}

-- what stands after the field that starts these bytes
abbrev pub after_field : List ℕ → List ℕ
after_field rest = drop (head_length + length_of_body (tag rest)) rest

-- After fields that were all accepted the reader holds the card and these bytes are left: after the first field, and after one field more.
pub data Reaches (file : List ℕ) : Card → List ℕ → Type 0 where
  after_first : first_refusal file ≡ 0 → Reaches file (started (float_of (word (body file) 0))) (after_field file)
  after_next : {card : Card} {rest : List ℕ} → Reaches file card rest → next_refusal card rest ≡ 0 → Reaches file (with_field card rest) (after_field rest)

-- The first field whose checks fail gives k: it is the file's first, or the reader gets to it and bytes are left.
pub data FileRefused (file : List ℕ) (k : ℕ) : Type 0 where
  at_first : first_refusal file ≡ k → FileRefused file k
  at_next : {card : Card} {rest : List ℕ} → Reaches file card rest → 0 < length rest → next_refusal card rest ≡ k → FileRefused file k

-- A field gives k; or the file is read to its end, and its values give k.
pub data CardRefused (file : List ℕ) (k : ℕ) : Type 0 where
  by_field : FileRefused file k → CardRefused file k
  by_values : {card : Card} → Reaches file card [] → values_refusal card ≡ k → CardRefused file k

-- The input is too long, which is 2 whatever it holds; or it is not, and the card that it holds is refused.
pub data InputRefused (input : List ℕ) (k : ℕ) : Type 0 where
  too_long : input_cap < length input → k ≡ 2 → InputRefused input k
  by_card : length input ≤ input_cap → CardRefused input k → InputRefused input k
