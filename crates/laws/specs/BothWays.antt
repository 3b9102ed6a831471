-- Lets one say which number a call gives back, read off its checks both ways: a number exactly for its cause, and 0 exactly if no cause holds.
use Rattle.std.specs.Prelude.{ℕ, ◌≡◌, ◌↔◌, ◌⊎◌, ◌≢◌, List, [], ◌∷◌, T}
use Rattle.scope.specs.Refusals.{Checks, cause_holds, front_to_back}

-- k comes back: a check with the number k has a cause that holds, and none before it has
abbrev pub ComesBack : Checks → ℕ → Type 0
ComesBack [] k = ⊥
ComesBack (c ∷ cs) k = ((c.0 ≡ k) × T c.1) ⊎ ((¬ T c.1) × ComesBack cs k)

-- no check has a cause that holds
abbrev pub NoneHolds : Checks → Type 0
NoneHolds [] = Unit {0}
NoneHolds (c ∷ cs) = (¬ T c.1) × NoneHolds cs

-- numbers in this order, each with whether a check of it has a cause that holds
abbrev pub by_table : Checks → List ℕ → Checks
by_table cs [] = []
by_table cs (k ∷ ks) = (k, cause_holds cs k) ∷ by_table cs ks

-- The number that a call gives back is that of the first check whose cause holds. A number k other than 0 comes back exactly if its check is that first one,
-- and 0, which accepts, exactly if there is none.
pub record Reads (number : ℕ) (cs : Checks) : Type 0 where
  pub runs : number ≡ front_to_back cs
  pub refused : (k : ℕ) → k ≢ 0 → (number ≡ k) ↔ ComesBack cs k
  pub accepted : (number ≡ 0) ↔ NoneHolds cs
