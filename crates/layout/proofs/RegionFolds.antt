-- Folds over the regions of two lists, one region more at a time, and the search for the region with a mask.
use Prim.Native.Nat.{ℕ, zero, suc, ◌+◌, ◌-◌, ◌^◌, ◌≤◌, ◌<◌}
use native.Mathlib.Omega.{arith}
use native.Mathlib.Numerals.{add-one}
use mathlib.Core.Path.{◌≡◌, refl, ap}
use mathlib.Core.Bool.{true, false, not, ◌&&◌, cond}
use mathlib.Core.List.{List, [], ◌∷◌}
use lib.Bits.{bit_or}
use lib.Dec.{eqb}
use lib.Ieee.{Float, nan}
use lib.ListN.{length, get_or, drop}
use lib.Seq.{drop-cons}
use Rattle.scope.specs.Numbers.{◌+ᶠ◌, ◌≤ᶠ◌, nought}
use Rattle.scope.specs.Runs.{gather, bit}
use Rattle.scope.specs.Links.{Region, regions, holds}
use Rattle.scope.specs.Tolerance.{region, no_region}
use Rattle.scope.specs.Offset.{area_with_mask}
use Rattle.laws.proofs.Regions.{length-regions, get_or_regions}

-- the region of place k
abbrev pub region_at : List ℕ → List Float → ℕ → Region
region_at ms xs k = record { mask = get_or ms k 0; area = get_or xs k nan }

-- what the first k regions give that hold circle i and whose area is not at most the limit
abbrev pub gathered : {A : Type 0} → (A → Region → A) → A → ℕ → Float → List ℕ → List Float → ℕ → A
gathered op z i limit ms xs k = gather op z (λ j. holds (region (regions ms xs) j) i && not ((region (regions ms xs) j).area ≤ᶠ limit)) k (region (regions ms xs))

abbrev pub add_area : Float → Region → Float
add_area t r = t +ᶠ r.area

abbrev pub join_others : ℕ → ℕ → Region → ℕ
join_others i m r = bit_or m (r.mask - 2 ^ i)

pub gathered_none : {A : Type 0} (op : A → Region → A) (z : A) (i : ℕ) (limit : Float) (ms : List ℕ) (xs : List Float) → z ≡ gathered op z i limit ms xs 0
unfolding gather
gathered_none op z i limit ms xs = refl

module _ (ms : List ℕ) (xs : List Float) (e : length ms ≡ length xs) where
  region_at_lem : (k : ℕ) → k < length ms → region (regions ms xs) k ≡ region_at ms xs k
  region_at_lem k h = get_or_regions ms xs k 0 nan no_region h (omega arith)

  module _ {A : Type 0} (op : A → Region → A) (z : A) (i : ℕ) (limit : Float) (k : ℕ) where
    pub gathered_taken : (a : A) → k < length ms → bit (get_or ms k 0) i && not (get_or xs k nan ≤ᶠ limit) ≡ true → a ≡ gathered op z i limit ms xs k
        → op a (region_at ms xs k) ≡ gathered op z i limit ms xs (k + 1)
    unfolding gather
    gathered_taken a h t s = rw (s, add-one, region_at_lem k h, t)

    pub gathered_left : (a : A) → k < length ms → bit (get_or ms k 0) i && not (get_or xs k nan ≤ᶠ limit) ≡ false → a ≡ gathered op z i limit ms xs k
        → a ≡ gathered op z i limit ms xs (k + 1)
    unfolding gather
    gathered_left a h t s = rw (s, add-one, region_at_lem k h, t)

    pub gathered_all : k ≤ length ms → length ms ≤ k → gathered op z i limit ms xs k ≡ gathered op z i limit ms xs (length (regions ms xs))
    gathered_all g h = let d : k ≡ length (regions ms xs) = omega (arith, length-regions ms xs e) in ap (λ (n : ℕ). gathered op z i limit ms xs n) d

  -- the area of a mask, among the regions from place k on
  pub area_next : (m k : ℕ) → k < length ms
      → area_with_mask m (drop k (regions ms xs)) ≡ cond (eqb (get_or ms k 0) m) (get_or xs k nan) (area_with_mask m (drop (k + 1) (regions ms xs)))
  unfolding area_with_mask
  area_next m k h = rw (add-one, drop-cons (regions ms xs) k no_region (omega (arith, length-regions ms xs e)), region_at_lem k h)

  pub area-none : (m k : ℕ) → length ms ≤ k → area_with_mask m (drop k (regions ms xs)) ≡ nought
  unfolding area_with_mask
  area-none m k h = rw (past k (regions ms xs) (omega (arith, length-regions ms xs e)))
    where
      past : (n : ℕ) (l : List Region) → length l ≤ n → drop n l ≡ []
      past zero [] h = refl
      past zero (r ∷ l) h = absurd (omega arith)
      past (suc n) [] h = refl
      past (suc n) (r ∷ l) h = past n l (omega arith)
