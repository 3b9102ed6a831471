-- Cluster numbers of a table that is an equivalence: equal exactly where a mark is set, from 0 without a gap, rising with the smallest member.
use Prim.Native.Nat.{ℕ, ◌≤◌, ◌<◌}
use native.Mathlib.Omega.{arith}
use native.Mathlib.Decide.{dec_lt}
use mathlib.Core.Path.{◌≡◌, refl, sym, ap, ◌∙◌, subst}
use mathlib.Core.Logic.{◌↔◌}
use lib.ListN.{get_or}
use lib.Dec.{T}
use Rattle.scope.specs.Runs.{many}
use Rattle.scope.specs.Closure.{Marks, at}
use Rattle.scope.specs.Groups.{leader, leads, number, clusters_of}
use Rattle.laws.proofs.Cases.{eqb_iff}
use Rattle.laws.proofs.Runs.{least-below, least-passes, many_rises, many-passes, many_at_most, many_reaches, get_or_tab, length-tab}
use Rattle.laws.proofs.Closure.{Equivalence}
use Rattle.laws.proofs.Numbering.{Smallest, smallest_equal, number_in, Numbering}

pub leads_iff : (n : ℕ) (t : Marks) (i : ℕ) → T (leads n t i) ↔ (leader n t i ≡ i)
unfolding leads
leads_iff n t i = eqb_iff (leader n t i) i

-- a cluster's number is how many clusters have a smaller smallest member
pub number_of_leading : (n : ℕ) (t : Marks) (i : ℕ) → T (leads n t i) → number n t i ≡ many i (leads n t)
unfolding number
number_of_leading n t i h = ap (λ (a : ℕ). many a (leads n t)) ((leads_iff n t i).0 h)

module _ (n : ℕ) (t : Marks) (q : Equivalence n t) where
  -- ---- leaders

  pub leader-below : (i j : ℕ) → T (at t i j) → leader n t i ≤ j
  unfolding leader
  leader-below i j h = least-below n (at t i) j h

  pub leader_at_most : (i : ℕ) → i < n → leader n t i ≤ i
  leader_at_most i hi = leader-below i i (q.self i hi)

  leader-inside : (i : ℕ) → i < n → leader n t i < n
  leader-inside i hi = omega (arith, leader_at_most i hi)

  pub leader-marked : (i : ℕ) → i < n → T (at t i (leader n t i))
  unfolding leader
  leader-marked i hi = least-passes n (at t i) (leader-inside i hi)

  leader_not_above : (i j : ℕ) → i < n → j < n → T (at t i j) → leader n t i ≤ leader n t j
  leader_not_above i j hi hj h = leader-below i (leader n t j) (q.joined i j (leader n t j) hi hj (leader-inside j hj) h (leader-marked j hj))

  pub same_leader_iff_marked : (i j : ℕ) → i < n → j < n → (leader n t i ≡ leader n t j) ↔ T (at t i j)
  same_leader_iff_marked i j hi hj = (
    λ e. q.joined i (leader n t j) j hi (leader-inside j hj) hj (rw e at (leader-marked i hi)) (q.turned j (leader n t j) hj (leader-inside j hj) (leader-marked j hj)),
    λ h. omega (arith, leader_not_above i j hi hj h, leader_not_above j i hj hi (q.turned i j hi hj h)),
  )

  pub leader-leads : (i : ℕ) → i < n → T (leads n t (leader n t i))
  leader-leads i hi =
      (leads_iff n t (leader n t i)).1 (sym ((same_leader_iff_marked i (leader n t i) hi (leader-inside i hi)).1 (leader-marked i hi)))

  -- ---- numbers

  pub number_rises : (i j : ℕ) → i < n → leader n t i < leader n t j → number n t i < number n t j
  unfolding number
  number_rises i j hi h = many-passes (leader n t i) (leader n t j) (leads n t) h (leader-leads i hi)

  same_leader : (i j : ℕ) → i < n → j < n → number n t i ≡ number n t j → leader n t i ≡ leader n t j
  same_leader i j hi hj e =
      elim (dec_lt (leader n t i) (leader n t j)) [
        | yes l ↦ absurd (omega (arith, number_rises i j hi l))
        | no g ↦ elim (dec_lt (leader n t j) (leader n t i)) [ yes l ↦ absurd (omega (arith, number_rises j i hj l)) | no f ↦ omega arith ]
      ]

  pub same_number_iff_marked : (i j : ℕ) → i < n → j < n → (number n t i ≡ number n t j) ↔ T (at t i j)
  unfolding number
  same_number_iff_marked i j hi hj =
      let s = same_leader_iff_marked i j hi hj in
      (λ e. s.0 (same_leader i j hi hj e), λ h. ap (λ (a : ℕ). many a (leads n t)) (s.1 h))

  pub number_at_most : (i : ℕ) → i < n → number n t i ≤ i
  unfolding number
  number_at_most i hi = omega (arith, many_at_most (leader n t i) (leads n t), leader_at_most i hi)

  pub number_below_count : (i : ℕ) → i < n → number n t i < many n (leads n t)
  unfolding number
  number_below_count i hi = many-passes (leader n t i) n (leads n t) (leader-inside i hi) (leader-leads i hi)

  leading_smallest : (a : ℕ) → a < n → T (leads n t a) → Smallest n (number n t) (number n t a) a
  leading_smallest a ha h =
      record { below = ha; has = refl; small = λ i hi e. omega (arith, (leads_iff n t a).0 h, same_leader a i ha hi (sym e), leader_at_most i hi) }

  number_used : (v : ℕ) → v < many n (leads n t) → (a : ℕ) × Smallest n (number n t) v a
  number_used v hv =
      let h = many_reaches n (leads n t) v hv in
      (h.0, subst (λ (x : ℕ). Smallest n (number n t) x h.0) (number_of_leading n t h.0 h.2 ∙ h.3) (leading_smallest h.0 h.1 h.2))

  pub smallest-leads : (v a : ℕ) → Smallest n (number n t) v a → T (leads n t a)
  smallest-leads v a s =
      let l = leader n t a in
      let hl = leader-inside a s.below in
      let e : number n t l ≡ v = sym ((same_number_iff_marked a l s.below hl).1 (leader-marked a s.below)) ∙ s.has in
      (leads_iff n t a).1 (omega (arith, s.small l hl e, leader_at_most a s.below))

  smallest_rises : (u v a b : ℕ) → Smallest n (number n t) u a → Smallest n (number n t) v b → u < v → a < b
  smallest_rises u v a b r s h =
      let e = number_of_leading n t a (smallest-leads u a r) in
      let f = number_of_leading n t b (smallest-leads v b s) in
      elim (dec_lt a b) [ yes l ↦ l | no g ↦ absurd (omega (arith, many_rises b a (leads n t) (omega arith), r.has, s.has)) ]

  -- ---- as lists

  pub numbers_at : (i : ℕ) → i < n → get_or (clusters_of n t).numbers i 0 ≡ number n t i
  unfolding clusters_of
  numbers_at i hi = get_or_tab n (number n t) i 0 hi

  pub clusters_of_numbering : Numbering n (clusters_of n t)
  unfolding clusters_of
  clusters_of_numbering =
      record {
        sized = length-tab n (number n t);
        few = many_at_most n (leads n t);
        inside = λ i hi. rw (numbers_at i hi) (number_below_count i hi);
        at_most = λ i hi. rw (numbers_at i hi) (number_at_most i hi);
        used = λ v hv. let s = number_used v hv in (s.0, smallest_equal n (number n t) (number_in (clusters_of n t)) v s.0 (λ i hi. sym (numbers_at i hi)) s.1);
        rising = λ u v a b r s. smallest_rises u v a b (smallest_equal n (number_in (clusters_of n t)) (number n t) u a numbers_at r) (smallest_equal n (number_in (clusters_of n t)) (number n t) v b numbers_at s);
      }

  pub same_entry_iff_marked : (i j : ℕ) → i < n → j < n → (number_in (clusters_of n t) i ≡ number_in (clusters_of n t) j) ↔ T (at t i j)
  same_entry_iff_marked i j hi hj = rw (numbers_at i hi, numbers_at j hj) (same_number_iff_marked i j hi hj)
