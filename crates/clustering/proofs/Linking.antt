-- The table of links: the diagonal circle by circle, then the regions one by one, or the circles row by row.
use Prim.Native.Nat.{ℕ, ◌+◌, ◌^◌, ◌≤◌, ◌<◌}
use native.Mathlib.Omega.{arith}
use native.Mathlib.Numerals.{add-one}
use native.Mathlib.Decide.{ℕ_discrete}
use mathlib.Core.Path.{◌≡◌, refl, sym, ◌∙◌, subst}
use mathlib.Core.Bool.{Bool, true, false, not, ◌&&◌, ◌||◌, or_assoc, or-false, and-false, and-true}
use mathlib.Core.List.{List, [], ◌∷◌}
use lib.Bits.{bit_and}
use lib.ListN.{length, get_or, set, take}
use lib.Seq.{take-suc, take_all}
use lib.Dec.{eqb, ltb}
use lib.Ieee.{Float, nan}
use lib.Ieee.Scale.{finite}
use borrow.Author.Tests.{lt-ltb, le-ltb, eq-eqb, ne_eqb}
use Rattle.scope.specs.Numbers.{◌≤ᶠ◌}
use Rattle.scope.specs.Runs.{bit}
use Rattle.shapes.specs.declared.circle.Circle.{Circle}
use Rattle.scope.specs.Links.{Region, regions, counts, share, linked_by_regions, circle}
use Rattle.laws.proofs.Cases.{ltb_more}
use Rattle.laws.proofs.MaskBits.{bit_common}
use Rattle.laws.proofs.PackedRows.{bit_single}
use Rattle.laws.proofs.Regions.{length-regions, get_or_regions}
use Rattle.laws.proofs.OneMoreRegion.{share_append}
use Rattle.laws.proofs.Overlap.{overlap_swapped}
use Rattle.laws.proofs.Clusters.{meet}
use Rattle.clustering.specs.Table.{cell, mark, Shows, Holds}
use Rattle.clustering.proofs.Table.{along, down}
use Rattle.clustering.proofs.Rows.{holds_same, holds-set}

-- ---- each circle linked to itself, as far as circle i
abbrev pub diagonal : ℕ → ℕ → ℕ → Bool
diagonal i a b = eqb a b && ltb a i

diagonal_other : (i a b : ℕ) → (a ≡ i → b ≡ i → ⊥) → diagonal i a b ≡ diagonal (i + 1) a b
diagonal_other i a b h = elim (ℕ_discrete a i) [ yes p ↦ rw (ne_eqb a b (λ e. h p (sym e ∙ p))) | no p ↦ rw (ltb_more a i p) ]

-- circle i, in packed rows
only_self : (n i j : ℕ) → i < n → eqb i j ≡ (ltb j n && eqb i j)
only_self n i j hi = elim (ℕ_discrete i j) [
  | yes e ↦ rw (← e, eq-eqb i i refl, lt-ltb i n hi)
  | no f ↦ rw (ne_eqb i j f, and-false (ltb j n))
]

pub selves_step : (n i : ℕ) {rows : List ℕ} → i < n → Holds n rows (diagonal i) → Holds n (set rows i (2 ^ i)) (diagonal (i + 1))
selves_step n i hi s =
    holds-set i (2 ^ i) (diagonal (i + 1))
    (λ h j. rw (bit_single i j, lt-ltb i (i + 1) (omega arith), and-true (eqb i j)) (only_self n i j hi))
    (λ a b ha hb p. diagonal_other i a b (λ e _. p e))
    s

-- ---- the links of the first k regions

abbrev region : List ℕ → List Float → ℕ → Region
region ms xs k = record { mask = get_or ms k 0; area = get_or xs k nan }

abbrev no_region : Region
no_region = record { mask = 0; area = nan }

abbrev pub first_links : Float → List ℕ → List Float → ℕ → ℕ → ℕ → Bool
first_links tol ms xs k = linked_by_regions tol (take k (regions ms xs))

pub no_links : (n : ℕ) (tol : Float) (ms : List ℕ) (xs : List Float) {rows : List ℕ} → Holds n rows eqb → Holds n rows (first_links tol ms xs 0)
unfolding linked_by_regions share
no_links n tol ms xs s = holds_same (first_links tol ms xs 0) (λ a b ha hb. sym (or-false (eqb a b))) s

module _ (tol : Float) (ms : List ℕ) (xs : List Float) (e : length ms ≡ length xs) (k : ℕ) (h : k < length ms) where
  next_links : (a b : ℕ) → first_links tol ms xs (k + 1) a b ≡ first_links tol ms xs k a b || (counts tol (region ms xs k) && (bit (get_or ms k 0) a && bit (get_or ms k 0) b))
  unfolding linked_by_regions share
  next_links a b =
      let g : k < length (regions ms xs) = rw (length-regions ms xs e) h in
      let rs = take k (regions ms xs) in
      let both = counts tol (region ms xs k) && (bit (get_or ms k 0) a && bit (get_or ms k 0) b) in
      rw (add-one, take-suc (regions ms xs) k no_region g, get_or_regions ms xs k 0 nan no_region h (omega arith), share_append tol rs (region ms xs k ∷ []) a b, or-false both)
      (sym (or_assoc (eqb a b) (share tol rs a b) both))

  pub links_taken : (n c : ℕ) {rows : List ℕ} → ((j : ℕ) → bit c j ≡ ltb j n) → (finite (get_or xs k nan) && not (get_or xs k nan ≤ᶠ tol)) ≡ true
      → Holds n rows (λ a b. first_links tol ms xs k a b || (bit (bit_and (get_or ms k 0) c) a && bit (bit_and (get_or ms k 0) c) b)) → Holds n rows (first_links tol ms xs (k + 1))
  unfolding counts
  links_taken n c below t s = holds_same (first_links tol ms xs (k + 1)) (λ a b ha hb. rw (next_links a b, t, inside a ha, inside b hb)) s
    where
      inside : (a : ℕ) → a < n → bit (bit_and (get_or ms k 0) c) a ≡ bit (get_or ms k 0) a
      inside a h = bit_common (get_or ms k 0) c a ∙ rw (below a, lt-ltb a n h) (and-true (bit (get_or ms k 0) a))

  pub links_left : (n : ℕ) {rows : List ℕ} → (finite (get_or xs k nan) && not (get_or xs k nan ≤ᶠ tol)) ≡ false
      → Holds n rows (first_links tol ms xs k) → Holds n rows (first_links tol ms xs (k + 1))
  unfolding counts
  links_left n t s = holds_same (first_links tol ms xs (k + 1)) (λ a b ha hb. rw (next_links a b, t, or-false (first_links tol ms xs k a b))) s

pub all_links : (n k : ℕ) (tol : Float) (ms : List ℕ) (xs : List Float) {rows : List ℕ} → length ms ≡ length xs → length ms ≤ k
    → Holds n rows (first_links tol ms xs k) → Holds n rows (linked_by_regions tol (regions ms xs))
all_links n k tol ms xs {rows} e h s =
    subst (λ (rs : List Region). Holds n rows (linked_by_regions tol rs)) (take_all k (regions ms xs) (rw (length-regions ms xs e) h)) s

-- no circle past the first n is in a mask that has been cut
pub cut_mask : (n c m j : ℕ) → ((i : ℕ) → bit c i ≡ ltb i n) → n ≤ j → bit (bit_and m c) j ≡ false
cut_mask n c m j below h = bit_common m c j ∙ rw (below j, le-ltb j n h) (and-false (bit m j))

-- ---- links of circles, row by row

pub test_of_mark : (b : Bool) → not (eqb (mark b) 0) ≡ b
test_of_mark true = refl
test_of_mark false = refl

-- row i may be read off column i in the rows before it
pub met_before : (n i j : ℕ) (cs : List Circle) {m : List (List ℕ)} → i < n → j < i → Shows n m (along (down eqb (meet cs) i) (meet cs i) i j)
    → not (eqb (cell m j i) 0) ≡ meet cs i j
met_before n i j cs {m} hi h s =
    rw (s.cells j i (omega arith) hi, test_of_mark (along (down eqb (meet cs) i) (meet cs i) i j j i), ne_eqb j i (λ e. omega arith), lt-ltb j i h, or-false (meet cs j i))
    (overlap_swapped (circle cs j) (circle cs i))
