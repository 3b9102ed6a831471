-- The answers of the clusterings as document 01's record, and what their numbers mean.
use Rattle.std.specs.Prelude.{ℕ, ◌<◌, ◌≡◌, ◌↔◌, ◌⊎◌, List, get_or, Float, Result, Ok, Err}
use Rattle.scope.specs.Links.{Region}
use Rattle.scope.specs.Groups.{Grouping, refused_grouping}
use Rattle.scope.specs.Promises.{Chain}
use Rattle.refusals.specs.declared.Refusal.{Refusal}
use Rattle.refusals.specs.Numbers.{number}
use Rattle.clustering.specs.declared.Clusters.{Clusters}

abbrev pub accepted : Clusters → Grouping
accepted c = record { refusal = 0; count = c.count; numbers = c.numbers }

abbrev pub grouped : Result Clusters Refusal → Grouping
grouped (Ok c) = accepted c
grouped (Err r) = refused_grouping (number r)

-- two circles have one number exactly if they are the same or a chain of regions joins them
abbrev pub NumbersByChains : ℕ → Float → List Region → List ℕ → Type 0
NumbersByChains n tol rs numbers = (i j : ℕ) → i < n → j < n → (get_or numbers i 0 ≡ get_or numbers j 0) ↔ ((i ≡ j) ⊎ Chain n tol rs i j)
