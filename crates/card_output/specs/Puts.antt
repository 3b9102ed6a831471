-- Bytes from the start of a lent list, and what it is to put more behind them.
use Rattle.std.specs.Prelude.{ℕ, ◌+◌, ◌≤◌, ◌≡◌, List, ◌++◌, length, drop}

-- the list begins with these bytes and is as it was lent behind them, where the next byte goes
pub record Holds (lent bytes : List ℕ) (at : ℕ) (list : List ℕ) : Type 0 where
  pub place : at ≡ length bytes
  pub fits : at ≤ length lent
  pub is : list ≡ bytes ++ drop (length bytes) lent

-- the bytes were put behind whatever the list held
pub record Put (bytes : List ℕ) (at : ℕ) (before : List ℕ) (next : ℕ) (after : List ℕ) : Type 0 where
  pub place : next ≡ at + length bytes
  pub holds : (lent held : List ℕ) → Holds lent held at before → Holds lent (held ++ bytes) next after
