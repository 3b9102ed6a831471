-- The tolerance of regions in two lists: a fold over the areas gives the largest.
use Prim.Native.Nat.{ℕ, suc, ◌+◌, ◌<◌}
use native.Mathlib.Omega.{arith}
use native.Mathlib.Numerals.{add-one}
use mathlib.Core.Path.{◌≡◌, refl, sym, ap, ◌∙◌}
use mathlib.Core.List.{List, [], ◌∷◌}
use lib.Ieee.{Float, nan}
use lib.ListN.{length, get_or, drop}
use lib.Seq.{drop-cons}
use Rattle.std.specs.List.{fold}
use Rattle.rounding.specs.Extremes.{maximum}
use Rattle.scope.specs.Numbers.{◌*ᶠ◌, nought, one, e_10, abs}
use Rattle.scope.specs.Runs.{gather, always}
use Rattle.scope.specs.Links.{regions}
use Rattle.scope.specs.Tolerance.{region, no_region, largest, tolerance}
use Rattle.laws.proofs.Regions.{length-regions, get_or_regions}

-- the largest area of the first k regions
abbrev largest_of : List ℕ → List Float → ℕ → Float
largest_of ms xs k = gather maximum nought always k (λ j. abs (region (regions ms xs) j).area)

module _ (ms : List ℕ) (xs : List Float) (e : length ms ≡ length xs) where
  region_at_lem : (k : ℕ) → k < length ms → region (regions ms xs) k ≡ record { mask = get_or ms k 0; area = get_or xs k nan }
  region_at_lem k h = get_or_regions ms xs k 0 nan no_region h (omega arith)

  largest_next : (k : ℕ) → k < length xs → maximum (largest_of ms xs k) (abs (get_or xs k nan)) ≡ largest_of ms xs (k + 1)
  unfolding gather
  largest_next k h = rw (add-one, region_at_lem k (omega arith))

  -- what a fold over the areas from region k on gives
  folded_from : (ys : List Float) (k : ℕ) → drop k xs ≡ ys → k + length ys ≡ length xs
      → fold (λ so_far x. maximum so_far (abs x)) (largest_of ms xs k) ys ≡ largest_of ms xs (length xs)
  folded_from [] k d g = let all : k ≡ length xs = omega arith in ap (λ (n : ℕ). largest_of ms xs n) all
  folded_from (y ∷ ys) k d g =
      let inside : k < length xs = omega arith in
      let next : get_or xs k nan ∷ drop (suc k) xs ≡ y ∷ ys = sym (drop-cons xs k nan inside) ∙ d in
      let first : y ≡ get_or xs k nan = cc in
      let rest : drop (k + 1) xs ≡ ys = rw add-one cc in
      rw (first, largest_next k inside) (folded_from ys (k + 1) rest (omega arith))

  largest_folded : {found : Float} → found ≡ fold (λ so_far x. maximum so_far (abs x)) nought xs → found ≡ largest_of ms xs (length xs)
  unfolding gather
  largest_folded f = f ∙ folded_from xs 0 refl (omega arith)

  pub tolerance_folded : {found : Float} → found ≡ fold (λ so_far x. maximum so_far (abs x)) nought xs
      → e_10 *ᶠ maximum found one ≡ tolerance (regions ms xs)
  unfolding tolerance largest
  tolerance_folded f =
      let all : length xs ≡ length (regions ms xs) = omega (arith, length-regions ms xs e) in
      ap (λ (x : Float). e_10 *ᶠ maximum x one) (largest_folded f ∙ ap (λ (n : ℕ). largest_of ms xs n) all)
