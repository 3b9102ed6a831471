-- The searches along a direction, one turn at a time.
use Prim.Native.Nat.{ℕ, zero, suc, ◌≤◌}
use native.Mathlib.Omega.{arith}
use mathlib.Core.Path.{◌≡◌, refl}
use mathlib.Core.Bool.{Bool, true, false}
use lib.Ieee.{Float}
use Rattle.scope.specs.Numbers.{◌+ᶠ◌, ◌*ᶠ◌, two, half}
use Rattle.scope.specs.Offset.{doubled, halved}

module _ (inside : Float → Bool) where
  pub doubled_further : (k : ℕ) (hi : Float) → inside hi ≡ true → doubled inside (suc k) hi ≡ doubled inside k (hi *ᶠ two)
  unfolding doubled
  doubled_further k hi t = rw t

  pub doubled_stops : (k : ℕ) (hi : Float) → inside hi ≡ false → doubled inside k hi ≡ hi
  unfolding doubled
  doubled_stops zero hi t = refl
  doubled_stops (suc k) hi t = rw t

  pub doubled-done : (k : ℕ) (hi : Float) → k ≤ 0 → doubled inside k hi ≡ hi
  unfolding doubled
  doubled-done zero hi h = refl
  doubled-done (suc k) hi h = absurd (omega arith)

  pub halved-up : (k : ℕ) (lo hi : Float) → inside (half *ᶠ (lo +ᶠ hi)) ≡ true
      → halved inside (suc k) lo hi ≡ halved inside k (half *ᶠ (lo +ᶠ hi)) hi
  unfolding halved
  halved-up k lo hi t = rw t

  pub halved-down : (k : ℕ) (lo hi : Float) → inside (half *ᶠ (lo +ᶠ hi)) ≡ false
      → halved inside (suc k) lo hi ≡ halved inside k lo (half *ᶠ (lo +ᶠ hi))
  unfolding halved
  halved-down k lo hi t = rw t

  pub halved-done : (k : ℕ) (lo hi : Float) → k ≤ 0 → halved inside k lo hi ≡ lo
  unfolding halved
  halved-done zero lo hi h = refl
  halved-done (suc k) lo hi h = absurd (omega arith)
