-- A rule of a constant table, shown at all of its entries by one test that is computed over the whole table. Any element type, any rule.
use mathlib.Core.Path.{◌≡◌, refl, ◌∙◌, subst, sym}
use mathlib.Core.Bool.{Bool, true, false}
use mathlib.Core.List.{List, [], ◌∷◌}
use Prim.Native.Nat.{ℕ, zero, suc, ◌+◌, ◌<◌}
use native.Mathlib.Nat.{add-zero, zero-add, add-suc, suc-add, le_of_suc-le-suc, not-suc-le-zero}
use lib.Dec.{T}
use lib.ListN.{length, get_or}

-- the test f passes at each entry and its place, counted from i; it ends at the first entry that fails
abbrev pub every : {A : Type 0} → (ℕ → A → Bool) → ℕ → List A → Bool
every f i [] = true
every f i (x ∷ xs) = elim (f i x) [ true ↦ every f (suc i) xs | false ↦ false ]

module _ {A : Type 0} (f : ℕ → A → Bool) (d : A) where
  from : (xs : List A) (i : ℕ) → T (every f i xs) → (k : ℕ) → k < length xs → T (f (i + k) (get_or xs k d))
  from [] i t k h = absurd (not-suc-le-zero h)
  from (x ∷ xs) i t k h = go (f i x) refl t k h (from xs (suc i))
    where
      go : (b : Bool) → f i x ≡ b → T (elim b as (λ _. Bool) [ true ↦ every f (suc i) xs | false ↦ false ]) → (k : ℕ) → k < length (x ∷ xs)
          → (T (every f (suc i) xs) → (j : ℕ) → j < length xs → T (f (suc i + j) (get_or xs j d))) → T (f (i + k) (get_or (x ∷ xs) k d))
      go false e t k h ih = absurd t
      go true e t zero h ih = subst (λ (m : ℕ). T (f m x)) (sym (add-zero i)) (subst T (sym e) tt)
      go true e t (suc k) h ih = subst (λ (m : ℕ). T (f m (get_or xs k d))) (suc-add i k ∙ sym (add-suc i k)) (ih t k (le_of_suc-le-suc h))

  -- the rule at each entry, from the test of the whole table
  pub at : (xs : List A) → T (every f 0 xs) → (k : ℕ) → k < length xs → T (f k (get_or xs k d))
  at xs t k h = subst (λ (m : ℕ). T (f m (get_or xs k d))) (zero-add k) (from xs 0 t k h)
