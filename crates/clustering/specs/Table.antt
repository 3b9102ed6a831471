-- A table of bytes that shows a relation of circles, whatever the table's size.
use Rattle.std.specs.Prelude.{ℕ, ◌≤◌, ◌<◌, ◌≡◌, Bool, true, false, cond, ◌&&◌, List, [], length, get_or, ltb}
use Rattle.scope.specs.Runs.{bit}
use Rattle.scope.specs.Closure.{Marks, at, closure}

abbrev pub cell : List (List ℕ) → ℕ → ℕ → ℕ
cell m i j = get_or (get_or m i []) j 0

abbrev pub mark : Bool → ℕ
mark true = 1
mark false = 0

-- m has n rows and columns at least, and in the first n it holds 1 where f passes and 0 elsewhere
pub record Shows (n : ℕ) (m : List (List ℕ)) (f : ℕ → ℕ → Bool) : Type 0 where
  pub rows : n ≤ length m
  pub columns : (i : ℕ) → i < n → n ≤ length (get_or m i [])
  pub cells : (i j : ℕ) → i < n → j < n → cell m i j ≡ mark (f i j)

-- the same of one row of n cells
abbrev pub Row : ℕ → List ℕ → (ℕ → Bool) → Type 0
Row n row p = (j : ℕ) → j < n → get_or row j 0 ≡ mark (p j)

-- the same of packed rows: word i has bit j set where f passes, and no bit past the first n
pub record Holds (n : ℕ) (rows : List ℕ) (f : ℕ → ℕ → Bool) : Type 0 where
  pub words : n ≤ length rows
  pub places : (i j : ℕ) → i < n → bit (get_or rows i 0) j ≡ (ltb j n && f i j)

-- closed as far as row i
abbrev pub closed_to : ℕ → ℕ → Marks → ℕ → ℕ → Bool
closed_to i n t a b = cond (ltb a i) (at (closure n t) a b) (at t a b)

-- v has been stored where p passes, among the first n, as far as the list goes
pub record Given (n : ℕ) (p : ℕ → Bool) (v : ℕ) (old new : List ℕ) : Type 0 where
  pub long : length new ≡ length old
  pub inside : (j : ℕ) → j < n → j < length old → get_or new j 0 ≡ cond (p j) v (get_or old j 0)
  pub outside : (j : ℕ) → n ≤ j → get_or new j 0 ≡ get_or old j 0
