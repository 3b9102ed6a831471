-- A word of causes: bit k says whether cause k holds.
use Rattle.std.specs.Prelude.{ℕ, ◌≡◌}
use Rattle.scope.specs.Runs.{bit}
use Rattle.scope.specs.Refusals.{Checks, cause_holds}

-- the word says of every number whether a check has it and its cause holds
abbrev pub Says : ℕ → Checks → Type 0
Says w cs = (k : ℕ) → bit w k ≡ cause_holds cs k
