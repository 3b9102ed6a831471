-- Two circles are marked in the closed table of links by regions exactly if they are the same or a chain of regions joins them.
use Prim.Native.Nat.{ℕ, ◌<◌}
use mathlib.Core.Path.{◌≡◌, refl, subst}
use mathlib.Core.Logic.Iff
use mathlib.Core.Logic.{◌↔◌, ◌⊎◌, inl, inr, ⊎_elim}
use mathlib.Core.Bool.{◌&&◌}
use mathlib.Core.List.Memᴰ
use mathlib.Core.List.{List, [], ◌∷◌, Memᴰ}
use lib.Dec.{T}
use lib.Ieee.{Float}
use Rattle.scope.specs.Links.{Region, holds, counts, share, linked_by_regions}
use Rattle.scope.specs.Closure.{at}
use Rattle.scope.specs.Promises.{last_of, Each, Joined, Chain}
use Rattle.laws.proofs.Cases.{or_iff, and_iff, sum_iff}
use Rattle.laws.proofs.Closure.{closed, Walk, last, then, walk_start, Equivalence, or_same_equivalence, closure_iff_same_or_walk}

-- ---- links

-- a region that counts and holds both
abbrev pub Both : Float → Region → ℕ → ℕ → Type 0
Both tol r i j = T (counts tol r) × T (holds r i) × T (holds r j)

abbrev pub Shared : Float → List Region → ℕ → ℕ → Type 0
Shared tol rs i j = (r : Region) × Memᴰ r rs × Both tol r i j

pub both_iff : (tol : Float) (r : Region) (i j : ℕ) → T (counts tol r && (holds r i && holds r j)) ↔ Both tol r i j
both_iff tol r i j =
    let a = and_iff (counts tol r) (holds r i && holds r j) in
    let b = and_iff (holds r i) (holds r j) in
    (λ h. let e = a.0 h in let d = b.0 e.1 in (e.0, d.0, d.1), λ h. a.1 (h.0, b.1 (h.1, h.2)))

pub share_iff : (tol : Float) (rs : List Region) (i j : ℕ) → T (share tol rs i j) ↔ Shared tol rs i j
unfolding share
share_iff tol [] i j = (λ h. absurd h, λ e. absurd (Memᴰ.not-nil e.1))
share_iff tol (r ∷ rs) i j =
    let here = both_iff tol r i j in
    let rest = share_iff tol rs i j in
    let either = or_iff (counts tol r && (holds r i && holds r j)) (share tol rs i j) in (
      λ h. ⊎_elim (λ t. (r, Memᴰ.head refl, here.0 t)) (λ t. let e = rest.0 t in (e.0, Memᴰ.tail e.1, e.2)) (either.0 h),
      λ e. either.1 (⊎_elim (λ q. inl (here.1 (subst (λ (s : Region). Both tol s i j) q e.2))) (λ m. inr (rest.1 (e.0, m, e.2))) (Memᴰ.cases_cons e.1)),
    )

share-turned : (tol : Float) (rs : List Region) (i j : ℕ) → T (share tol rs i j) → T (share tol rs j i)
share-turned tol rs i j h = let s = (share_iff tol rs i j).0 h in (share_iff tol rs j i).1 (s.0, s.1, (s.2.0, s.2.2, s.2.1))

module _ (n : ℕ) (tol : Float) (rs : List Region) where
  pub regions_equivalence : Equivalence n (closed n (linked_by_regions tol rs))
  unfolding linked_by_regions
  regions_equivalence = or_same_equivalence n (share tol rs) (λ i j hi hj. share-turned tol rs i j)

  -- ---- chains

  abbrev Good : Region → Type 0
  Good r = Memᴰ r rs × T (counts tol r)

  shared : (r : Region) (i j : ℕ) → Good r → T (holds r i) → T (holds r j) → T (share tol rs i j)
  shared r i j g p q = (share_iff tol rs i j).1 (r, g.0, (g.1, p, q))

  -- a chain is walked region by region, through the circles that two share
  walked : (i j : ℕ) (r : Region) (c : List Region) → i < n → j < n → Each Good (r ∷ c) → T (holds r i) → T (holds (last_of r c) j) → Joined n r c → Walk n (share tol rs) i j
  unfolding Each last_of Joined
  walked i j r [] hi hj g p q t = last hi hj (shared r i j g.0 p q)
  walked i j r (s ∷ c) hi hj g p q t =
      let k = t.0.0 in
      then hi (shared r i k g.0 p t.0.2) (walked k j s c t.0.1 hj g.1 t.0.3 q t.1)

  -- each link of a walk is a region of the chain
  chained : {i j : ℕ} → Walk n (share tol rs) i j → Chain n tol rs i j
  unfolding Each last_of Joined
  chained (last {i = i} {j = j} hi hj l) =
      let s = (share_iff tol rs i j).0 l in
      record { first = s.0; others = []; good = ((s.1, s.2.0), tt); starts = s.2.1; ends = s.2.2; joined = tt }
  chained (then {i = i} {j = j} hi l w) =
      let s = (share_iff tol rs i j).0 l in
      let c = chained w in
      record {
        first = s.0;
        others = c.first ∷ c.others;
        good = ((s.1, s.2.0), c.good);
        starts = s.2.1;
        ends = c.ends;
        joined = ((j, walk_start w, s.2.2, c.starts), c.joined);
      }

  pub closure_iff_chain : (i j : ℕ) → i < n → j < n → T (at (closed n (linked_by_regions tol rs)) i j) ↔ ((i ≡ j) ⊎ Chain n tol rs i j)
  unfolding linked_by_regions
  closure_iff_chain i j hi hj =
      Iff.trans (closure_iff_same_or_walk n (share tol rs) i j hi hj)
      (sum_iff Iff.rfl (chained, λ c. walked i j c.first c.others hi hj c.good c.starts c.ends c.joined))
