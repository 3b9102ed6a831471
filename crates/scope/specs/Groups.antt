-- Document 01, "Records" and "clustering.rs": clusters, their numbers and their count.
use Rattle.std.specs.Prelude.{ℕ, zero, suc, Bool, List, [], eqb, length, Float}
use Rattle.shapes.specs.declared.circle.Circle.{Circle}
use Rattle.scope.specs.Runs.{tab, many, least, filled}
use Rattle.scope.specs.Limits.{circle_cap}
use Rattle.scope.specs.Refusals.{regions_refusal, circles_refusal}
use Rattle.scope.specs.Links.{Region, regions, linked_by_regions, linked_by_circles}
use Rattle.scope.specs.Closure.{Marks, marked, at, closure}

-- the smallest circle marked in row i: the smallest member of i's cluster
unfoldable pub leader : ℕ → Marks → ℕ → ℕ
leader n t i = least n (at t i)

unfoldable pub leads : ℕ → Marks → ℕ → Bool
leads n t i = eqb (leader n t i) i

-- "Clusters are numbered from 0 by smallest member": how many clusters have a smaller one
unfoldable pub number : ℕ → Marks → ℕ → ℕ
number n t i = many (leader n t i) (leads n t)

-- the cluster count, and one cluster number per circle
pub record Clusters : Type 0 where
  pub count : ℕ
  pub numbers : List ℕ

unfoldable pub clusters_of : ℕ → Marks → Clusters
clusters_of n t = record { count = many n (leads n t); numbers = tab n (number n t) }

-- the area clustering of n circles: any list of regions, unsorted too, and any tolerance
unfoldable pub clusters : ℕ → List Region → Float → Clusters
clusters n rs tol = clusters_of n (closure n (marked n (linked_by_regions tol rs)))

-- the plain clustering
unfoldable pub plain_clusters : List Circle → Clusters
plain_clusters cs = clusters_of (length cs) (closure (length cs) (marked (length cs) (linked_by_circles cs)))

-- ---- the answers of the two calls: "Unused cluster numbers are 0", and a refusal comes with "rest 0"
pub record Grouping : Type 0 where
  pub refusal : ℕ
  pub count : ℕ
  pub numbers : List ℕ

abbrev pub refused_grouping : ℕ → Grouping
refused_grouping k = record { refusal = k; count = 0; numbers = filled circle_cap 0 [] }

abbrev pub accepted_grouping : Clusters → Grouping
accepted_grouping g = record { refusal = 0; count = g.count; numbers = filled circle_cap 0 g.numbers }

unfoldable pub grouping : ℕ → Clusters → Grouping
grouping zero g = accepted_grouping g
grouping (suc k) g = refused_grouping (suc k)

-- `find_clusters_from_exclusive_regions`
unfoldable pub area_grouping : ℕ → List ℕ → List Float → Float → Grouping
area_grouping n masks areas tol =
    let g = clusters n (regions masks areas) tol in
    grouping (regions_refusal n masks areas) g

-- `find_clusters`
unfoldable pub plain_grouping : List Circle → Grouping
plain_grouping cs =
    let g = plain_clusters cs in
    grouping (circles_refusal cs) g
