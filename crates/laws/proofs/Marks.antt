-- A table of marks read as a relation: a mark is set only below n, and there where the relation holds.
use Prim.Native.Nat.{ℕ, suc, ◌≤◌, ◌<◌}
use native.Mathlib.Omega.{arith}
use native.Mathlib.Decide.{dec_lt}
use mathlib.Core.Path.{◌≡◌}
use mathlib.Core.Logic.Iff
use mathlib.Core.Logic.{◌↔◌, ◌⊎◌, inl, inr, ⊎_elim}
use mathlib.Core.Bool.{Bool, false, ◌&&◌, ◌||◌}
use mathlib.Core.List.{[]}
use lib.Dec.{T}
use Rattle.scope.specs.Runs.{tab}
use Rattle.scope.specs.Closure.{Marks, marked, at, pass, passes}
use Rattle.laws.proofs.Cases.{or_iff, and_iff, sum_iff}
use Rattle.laws.proofs.Runs.{get_or_tab, get_or_tab_past}

pub at_marked : (n : ℕ) (f : ℕ → ℕ → Bool) (i j : ℕ) → i < n → j < n → at (marked n f) i j ≡ f i j
unfolding marked
at_marked n f i j hi hj = rw (get_or_tab n (λ i. tab n (f i)) i [] hi) (get_or_tab n (f i) j false hj)

pub at_marked_outside : (n : ℕ) (f : ℕ → ℕ → Bool) (i j : ℕ) → (n ≤ i) ⊎ (n ≤ j) → at (marked n f) i j ≡ false
unfolding marked
at_marked_outside n f i j (inl h) = rw (get_or_tab_past n (λ i. tab n (f i)) i [] h)
at_marked_outside n f i j (inr h) =
    elim (dec_lt i n) [
      | yes l ↦ rw (get_or_tab n (λ i. tab n (f i)) i [] l) (get_or_tab_past n (f i) j false h)
      | no g ↦ rw (get_or_tab_past n (λ i. tab n (f i)) i [] (omega arith))
    ]

pub marked_iff : (n : ℕ) (f : ℕ → ℕ → Bool) (i j : ℕ) → T (at (marked n f) i j) ↔ ((i < n) × (j < n) × T (f i j))
marked_iff n f i j = (inside, λ h. rw (at_marked n f i j h.0 h.1) h.2)
  where
    inside : T (at (marked n f) i j) → (i < n) × (j < n) × T (f i j)
    inside h =
        elim (dec_lt i n) [
          | yes a ↦ elim (dec_lt j n) [
            | yes b ↦ (a, b, rw (at_marked n f i j a b) at h)
            | no b ↦ absurd (rw (at_marked_outside n f i j (inr (omega arith))) at h)
          ]
          | no a ↦ absurd (rw (at_marked_outside n f i j (inl (omega arith))) at h)
        ]

-- a pass marks what was marked, and what two marks join at k
pub pass_iff : (n k : ℕ) (t : Marks) (i j : ℕ)
    → T (at (pass n k t) i j) ↔ ((i < n) × (j < n) × (T (at t i j) ⊎ (T (at t i k) × T (at t k j))))
unfolding pass
pass_iff n k t i j =
    let m = marked_iff n (λ i j. at t i j || (at t i k && at t k j)) i j in
    let e = Iff.trans (or_iff (at t i j) (at t i k && at t k j)) (sum_iff Iff.rfl (and_iff (at t i k) (at t k j))) in
    (λ h. let c = m.0 h in (c.0, c.1, e.0 c.2), λ c. m.1 (c.0, c.1, e.1 c.2))

pub passes_iff : (n k : ℕ) (t : Marks) (i j : ℕ)
    → T (at (passes n (suc k) t) i j) ↔ ((i < n) × (j < n) × (T (at (passes n k t) i j) ⊎ (T (at (passes n k t) i k) × T (at (passes n k t) k j))))
unfolding passes
passes_iff n k t i j = pass_iff n k (passes n k t) i j

-- a pass reads column k and row k, and leaves them as they are: marks may be set in place
module _ (n k : ℕ) (t : Marks) where
  pub pass_keeps_column : (i : ℕ) → i < n → k < n → T (at (pass n k t) i k) ↔ T (at t i k)
  pass_keeps_column i hi hk = (λ h. ⊎_elim (λ x. x) (λ x. x.0) ((pass_iff n k t i k).0 h).2, λ h. (pass_iff n k t i k).1 (hi, hk, inl h))

  pub pass_keeps_row : (j : ℕ) → j < n → k < n → T (at (pass n k t) k j) ↔ T (at t k j)
  pass_keeps_row j hj hk = (λ h. ⊎_elim (λ x. x) (λ x. x.1) ((pass_iff n k t k j).0 h).2, λ h. (pass_iff n k t k j).1 (hk, hj, inl h))
