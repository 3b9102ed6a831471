-- A loop over the first n elements of an array that writes element i anew from element i and from i alone, i rising.
use Prim.Native.Nat.{ℕ, zero, suc, ◌+◌, ◌<◌, ◌≤◌}
use native.Mathlib.Omega.{arith}
use native.Mathlib.Numerals.{add-one}
use mathlib.Core.Path.{◌≡◌, refl, sym, ap, ◌∙◌}
use mathlib.Core.List.{List, [], ◌∷◌, ◌++◌}
use lib.ListN.{length, get_or, set, take, drop}
use lib.Seq.{length-take-le, get_or-take}
use Rattle.scope.specs.Runs.{tab}
use Rattle.laws.proofs.Runs.{length-tab, get_or_tab, tab_equal}
use Rattle.intake.proofs.Overwriting.{over, over_next}

module _ {A : Type 0} where
  pub over_length : (i : ℕ) (xs ys : List A) → i ≤ length xs → i ≤ length ys → length (over i xs ys) ≡ length ys
  over_length zero xs ys h g = refl
  over_length (suc i) [] ys h g = absurd (omega arith)
  over_length (suc i) (x ∷ xs) [] h g = absurd (omega arith)
  over_length (suc i) (x ∷ xs) (y ∷ ys) h g = ap suc (over_length i xs ys (omega arith) (omega arith))

  over_at : (i : ℕ) (xs ys : List A) (d : A) → i ≤ length xs → i < length ys → get_or (over i xs ys) i d ≡ get_or ys i d
  over_at zero xs ys d h g = refl
  over_at (suc i) [] ys d h g = absurd (omega arith)
  over_at (suc i) (x ∷ xs) [] d h g = absurd (omega arith)
  over_at (suc i) (x ∷ xs) (y ∷ ys) d h g = over_at i xs ys d (omega arith) (omega arith)

  over_same : (i : ℕ) (xs ys : List A) (d : A) → i < length xs → i < length ys → get_or xs i d ≡ get_or ys i d → over i xs ys ≡ over (suc i) xs ys
  over_same i [] ys d h g e = absurd (omega arith)
  over_same i (x ∷ xs) [] d h g e = absurd (omega arith)
  over_same zero (x ∷ xs) (y ∷ ys) d h g e = ap {B = List A} (λ z. z ∷ ys) (sym e)
  over_same (suc i) (x ∷ xs) (y ∷ ys) d h g e = ap {B = List A} (λ l. x ∷ l) (over_same i xs ys d (omega arith) (omega arith) e)

  take-tab : (i m : ℕ) (f : ℕ → A) → i ≤ m → take i (tab m f) ≡ tab i f
  unfolding tab
  take-tab zero m f h = refl
  take-tab (suc i) zero f h = absurd (omega arith)
  take-tab (suc i) (suc m) f h = ap {B = List A} (λ l. f 0 ∷ l) (take-tab i m (λ k. f (suc k)) (omega arith))

  -- every element rewritten by g, which knows its place
  abbrev pub rewritten : (ℕ → A → A) → A → List A → List A
  rewritten g d l = tab (length l) (λ i. g i (get_or l i d))

  -- the first i elements rewritten
  unfoldable pub so_far : (ℕ → A → A) → A → ℕ → List A → List A
  so_far g d i l = over i (rewritten g d l) l

  module _ (g : ℕ → A → A) (d : A) (l : List A) where
    long : length (rewritten g d l) ≡ length l
    long = length-tab (length l) (λ i. g i (get_or l i d))

    pub none_rewritten : l ≡ so_far g d 0 l
    unfolding so_far
    none_rewritten = refl

    not_yet : (i : ℕ) → i < length l → get_or (so_far g d i l) i d ≡ get_or l i d
    unfolding so_far
    not_yet i h = over_at i (rewritten g d l) l d (rw long (omega arith)) h

    set_next : (i : ℕ) → i < length l → set (so_far g d i l) i (g i (get_or l i d)) ≡ so_far g d (i + 1) l
    unfolding so_far
    set_next i h =
        let e : get_or (rewritten g d l) i d ≡ g i (get_or l i d) = get_or_tab (length l) (λ k. g k (get_or l k d)) i d h in
        rw (add-one, ← e) (over_next i (rewritten g d l) l d (rw long h) h)

    -- element i of m, where the loop stands, is written anew, or need not be
    pub one_rewritten : (i : ℕ) {m : List A} {r : A} → i < length l → m ≡ so_far g d i l → r ≡ g i (get_or m i d) → set m i r ≡ so_far g d (i + 1) l
    one_rewritten i h e f = rw (f, e, not_yet i h) (set_next i h)

    pub one_left : (i : ℕ) {m : List A} → i < length l → m ≡ so_far g d i l → g i (get_or m i d) ≡ get_or m i d → m ≡ so_far g d (i + 1) l
    unfolding so_far
    one_left i {m} h e f =
        let same : g i (get_or l i d) ≡ get_or l i d = sym (ap (g i) (ap (λ (k : List A). get_or k i d) e ∙ not_yet i h)) ∙ f ∙ ap (λ (k : List A). get_or k i d) e ∙ not_yet i h in
        e ∙ rw add-one (over_same i (rewritten g d l) l d (rw long h) h (get_or_tab (length l) (λ k. g k (get_or l k d)) i d h ∙ same))

    -- the end of the loop
    pub all_rewritten : (n i : ℕ) {m : List A} → n ≤ length l → i ≤ n → n ≤ i → m ≡ so_far g d i l → m ≡ rewritten g d (take n l) ++ drop n l
    unfolding so_far
    all_rewritten n i h low high e =
        let all : i ≡ n = omega arith in
        let first = tab_equal n (λ k. g k (get_or l k d)) (λ k. g k (get_or (take n l) k d)) (λ k hk. ap (g k) (sym (get_or-take n l k d hk))) in
        e ∙ rw (all, take-tab n (length l) (λ k. g k (get_or l k d)) h, length-take-le n l h) (ap {B = List A} (λ k. k ++ drop n l) first)
