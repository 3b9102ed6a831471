-- Lets one say that the numbers of a list are bytes.
use Rattle.std.specs.Prelude.{ℕ, ◌^◌, ◌<◌, List, length, get_or}

abbrev pub AreBytes : List ℕ → Type 0
AreBytes bs = (i : ℕ) → i < length bs → get_or bs i 0 < 2 ^ 8
