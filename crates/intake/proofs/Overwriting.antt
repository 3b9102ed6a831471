-- A run written over an array, element by element: what stands there after i turns, and at the end.
use Prim.Native.Nat.{ℕ, zero, suc, ◌<◌, ◌≤◌, min}
use native.Mathlib.Nat.{min-eq_left, min-eq_right}
use native.Mathlib.Decide.{dec_le}
use native.Mathlib.Omega.{arith}
use mathlib.Core.Path.{◌≡◌, refl, ap}
use mathlib.Core.List.{List, [], ◌∷◌, ◌++◌}
use lib.ListN.{length, get_or, set, take, drop, replicate}
use lib.Seq.{take_all, length-take-le}
use Rattle.scope.specs.Runs.{filled}
use Rattle.laws.proofs.Runs.{drop-replicate}

module _ {A : Type 0} where
  -- the first i of xs, and what ys has after them
  abbrev pub over : ℕ → List A → List A → List A
  over i xs ys = take i xs ++ drop i ys

  pub over_next : (i : ℕ) (xs ys : List A) (d : A) → i < length xs → i < length ys → set (over i xs ys) i (get_or xs i d) ≡ over (suc i) xs ys
  over_next i [] ys d h g = absurd (omega arith)
  over_next i (x ∷ xs) [] d h g = absurd (omega arith)
  over_next zero (x ∷ xs) (y ∷ ys) d h g = refl
  over_next (suc i) (x ∷ xs) (y ∷ ys) d h g = ap {B = List A} (λ l. x ∷ l) (over_next i xs ys d (omega arith) (omega arith))

  -- as many as there is room for, over an array of w blanks
  pub over_all : (w : ℕ) (xs : List A) (z : A) → over (min (length xs) w) xs (replicate w z) ≡ filled w z (take w xs)
  unfolding filled
  over_all w xs z =
      elim (dec_le (length xs) w) [
        | yes h ↦ rw (min-eq_left h, take_all (length xs) xs (omega arith), take_all w xs h, drop-replicate (length xs) w z)
        | no h ↦ let g : w ≤ length xs = omega arith in rw (min-eq_right g, length-take-le w xs g, drop-replicate w w z)
      ]
