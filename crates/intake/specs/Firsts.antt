-- The first place that a test takes.
use Rattle.std.specs.Prelude.{ℕ, ◌≤◌, ◌<◌, ◌≡◌, Bool, true, false}

-- r is the first place at or past `from` that p takes, or n
pub record FirstFrom (p : ℕ → Bool) (from n r : ℕ) : Type 0 where
  pub beyond : from ≤ r
  pub within : r ≤ n
  pub passed : (k : ℕ) → from ≤ k → k < r → p k ≡ false
  pub found : r < n → p r ≡ true
