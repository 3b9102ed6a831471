-- Document 01, "clustering.rs": "closed as Warshall does". n by n marks, for any n.
use Rattle.std.specs.Prelude.{ℕ, zero, suc, Bool, false, ◌&&◌, ◌||◌, List, [], get_or}
use Rattle.scope.specs.Runs.{tab}

abbrev pub Marks : Type 0
Marks = List (List Bool)

-- n rows of n marks
unfoldable pub marked : ℕ → (ℕ → ℕ → Bool) → Marks
marked n f = tab n (λ i. tab n (f i))

-- the mark in row i, column j
abbrev pub at : Marks → ℕ → ℕ → Bool
at t i j = get_or (get_or t i []) j false

-- for each row i and column j: mark (i, j) if (i, k) and (k, j) are marked
unfoldable pub pass : ℕ → ℕ → Marks → Marks
pass n k t = marked n (λ i j. at t i j || (at t i k && at t k j))

-- the passes of the places below k, 0 first
unfoldable pub passes : ℕ → ℕ → Marks → Marks
passes n zero t = t
passes n (suc k) t = pass n k (passes n k t)

-- Warshall 1962
unfoldable pub closure : ℕ → Marks → Marks
closure n t = passes n n t
