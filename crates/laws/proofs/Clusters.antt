-- Demand 3's chain clause: two circles have one cluster number exactly if they are the same or a chain of regions joins them.
-- Of the plain clustering: exactly if a walk of overlaps joins them.
use Prim.Native.Nat.{ℕ, ◌<◌}
use mathlib.Core.Path.{◌≡◌}
use mathlib.Core.Logic.Iff
use mathlib.Core.Logic.{◌↔◌, ◌⊎◌}
use mathlib.Core.Bool.{Bool}
use mathlib.Core.List.{List}
use lib.ListN.{get_or, length}
use lib.Dec.{T}
use lib.Ieee.{Float}
use Rattle.shapes.specs.declared.circle.Circle.{Circle}
use Rattle.scope.specs.Runs.{filled}
use Rattle.scope.specs.Links.{Region, linked_by_regions, linked_by_circles, overlap, circle}
use Rattle.scope.specs.Closure.{at}
use Rattle.scope.specs.Groups.{clusters, plain_clusters}
use Rattle.scope.specs.Promises.{Chain}
use Rattle.laws.proofs.Runs.{get_or_filled_any}
use Rattle.laws.proofs.Closure.{closed, Walk, Equivalence, or_same_equivalence, closure_iff_same_or_walk}
use Rattle.laws.proofs.Overlap.{overlap_swapped}
use Rattle.laws.proofs.Chains.{closure_iff_chain, regions_equivalence}
use Rattle.laws.proofs.Numbering.{Numbering}
use Rattle.laws.proofs.Numbers.{clusters_of_numbering, same_entry_iff_marked}

-- ---- by regions

pub clusters_numbering : (n : ℕ) (rs : List Region) (tol : Float) → Numbering n (clusters n rs tol)
unfolding clusters
clusters_numbering n rs tol = clusters_of_numbering n (closed n (linked_by_regions tol rs)) (regions_equivalence n tol rs)

module _ (n : ℕ) (rs : List Region) (tol : Float) (i j : ℕ) (hi : i < n) (hj : j < n) where
  pub same_number_iff_closure : (get_or (clusters n rs tol).numbers i 0 ≡ get_or (clusters n rs tol).numbers j 0) ↔ T (at (closed n (linked_by_regions tol rs)) i j)
  unfolding clusters
  same_number_iff_closure = same_entry_iff_marked n (closed n (linked_by_regions tol rs)) (regions_equivalence n tol rs) i j hi hj

  pub same_number_iff_chain : (get_or (clusters n rs tol).numbers i 0 ≡ get_or (clusters n rs tol).numbers j 0) ↔ ((i ≡ j) ⊎ Chain n tol rs i j)
  same_number_iff_chain = Iff.trans same_number_iff_closure (closure_iff_chain n tol rs i j hi hj)

  -- in an array of c entries
  pub same_filled_number_iff_chain : (c : ℕ)
      → (get_or (filled c 0 (clusters n rs tol).numbers) i 0 ≡ get_or (filled c 0 (clusters n rs tol).numbers) j 0) ↔ ((i ≡ j) ⊎ Chain n tol rs i j)
  same_filled_number_iff_chain c = rw (get_or_filled_any c 0 (clusters n rs tol).numbers i, get_or_filled_any c 0 (clusters n rs tol).numbers j) same_number_iff_chain

-- ---- by overlaps

abbrev pub meet : List Circle → ℕ → ℕ → Bool
meet cs i j = overlap (circle cs i) (circle cs j)

pub circles_equivalence : (cs : List Circle) → Equivalence (length cs) (closed (length cs) (linked_by_circles cs))
unfolding linked_by_circles
circles_equivalence cs = or_same_equivalence (length cs) (meet cs) (λ i j hi hj h. rw (overlap_swapped (circle cs j) (circle cs i)) h)

-- what the numbers of the plain clustering mean: by smallest member, and equal exactly where a walk of overlaps joins two circles
pub plain_numbering : (cs : List Circle) → Numbering (length cs) (plain_clusters cs)
unfolding plain_clusters
plain_numbering cs = clusters_of_numbering (length cs) (closed (length cs) (linked_by_circles cs)) (circles_equivalence cs)

pub same_plain_number_iff_walk : (cs : List Circle) (i j : ℕ) → i < length cs → j < length cs
    → (get_or (plain_clusters cs).numbers i 0 ≡ get_or (plain_clusters cs).numbers j 0) ↔ ((i ≡ j) ⊎ Walk (length cs) (meet cs) i j)
unfolding plain_clusters linked_by_circles
same_plain_number_iff_walk cs i j hi hj =
    let n = length cs in
    Iff.trans (same_entry_iff_marked n (closed n (linked_by_circles cs)) (circles_equivalence cs) i j hi hj) (closure_iff_same_or_walk n (meet cs) i j hi hj)
