-- Document 02, 4/14: "pack a row of marks into a 64-bit word and join two rows by one operation"; 9/14: "masks to four 64-bit words with the lowest first".
-- Rows of any width, in words of any width.
use Rattle.std.specs.Prelude.{ℕ, ◌+◌, ◌*◌, ◌/◌, ◌%◌, ◌^◌, Bool, List, get_or}
use Rattle.std.specs.Int.Bits.{bit_or}
use Rattle.scope.specs.Runs.{tab, gather, bit}

-- a packed row: place j of w is worth 2^j where it is marked
unfoldable pub packed_row : ℕ → (ℕ → Bool) → ℕ
packed_row w p = gather ◌+◌ 0 p w (λ j. 2 ^ j)

-- the marks of a packed row of w places
unfoldable pub unpacked_row : ℕ → ℕ → List Bool
unpacked_row w x = tab w (bit x)

-- ---- 9/14: a row of k words of w places each, the lowest first
unfoldable pub packed_words : ℕ → ℕ → (ℕ → Bool) → List ℕ
packed_words w k p = tab k (λ q. packed_row w (λ j. p (q * w + j)))

-- place j is place j % w of word j / w
abbrev pub mark_of : ℕ → List ℕ → ℕ → Bool
mark_of w x j = bit (get_or x (j / w) 0) (j % w)

-- two rows of k words joined, word by word
unfoldable pub joined_words : ℕ → List ℕ → List ℕ → List ℕ
joined_words k x y = tab k (λ q. bit_or (get_or x q 0) (get_or y q 0))
