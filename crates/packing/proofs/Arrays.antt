-- Arrays written entry by entry: what stands at a place after a store, and a prefix that grows by one.
use Rattle.std.proofs.Common.{◌≡◌, ℕ, suc, ◌+◌, ◌<◌, ◌≤◌, Bool, true, false, List, length, set, replicate, sym, ap, ◌∙◌, add-one, arith, length-set, take_all, get_or-set_other, get_or-set_same, ext_get_or}
use native.Mathlib.Decide.{ℕ_discrete}
use native.Mathlib.Nat.{min-eq_left}
use lib.ListN.{length-replicate}
use Rattle.scope.specs.Runs.{tab, many, filled}
use Rattle.laws.proofs.Runs.{length-tab, get_or_tab, many-takes, many-leaves}
use Rattle.intake.proofs.Overwriting.{over, over_next, over_all}
use Rattle.packing.specs.Lists.{At}

module _ {A : Type 0} (z : A) (f : ℕ → A) where
  pub at_none : (l : List A) → At 0 l z f
  at_none l = record { fits = omega arith; is = λ i h. absurd (omega arith) }

  -- one entry more: the first n were right, and entry n is now
  pub at_more : (n : ℕ) (l : List A) (a : A) → n < length l → At n l z f → a ≡ f n → At (n + 1) (set l n a) z f
  at_more n l a h r e =
      record {
        fits = rw (length-set l n a) (omega arith);
        is = λ i k.
            elim (ℕ_discrete i n) [
              | yes q ↦ rw (q, get_or-set_same l n a z h) e
              | no q ↦ rw (get_or-set_other l n i a z q) (r.is i (omega arith))
            ];
      }

  -- all entries: the list is the function's
  pub at_all : (n : ℕ) (l : List A) → length l ≡ n → At n l z f → l ≡ tab n f
  at_all n l e r =
      ext_get_or z l (tab n f) (e ∙ sym (length-tab n f)) (λ i h. let below : i < n = rw e at h in r.is i below ∙ sym (get_or_tab n f i z below))

-- ---- what passes, counted one by one
module _ {c : ℕ} (j : ℕ) (p : ℕ → Bool) (b : Bool) (e : c ≡ many j p) (is : b ≡ p j) where
  pub count-takes : b ≡ true → c + 1 ≡ many (j + 1) p
  count-takes t = rw (add-one c, add-one j, many-takes j p (rw (← is, t) tt)) (ap suc e)

  pub count-leaves : b ≡ false → c ≡ many (j + 1) p
  count-leaves t = rw (add-one j, many-leaves j p (rw (← is, t) (λ h. h))) e

-- ---- a run written over a longer one
module _ {A : Type 0} (n i w : ℕ) (f : ℕ → A) (z : A) where
  pub over_tab_next : i < n → i < w → set (over i (tab n f) (replicate w z)) i (f i) ≡ over (i + 1) (tab n f) (replicate w z)
  over_tab_next h g =
      ap (set (over i (tab n f) (replicate w z)) i) (sym (get_or_tab n f i z h))
      ∙ rw add-one (over_next i (tab n f) (replicate w z) z (rw length-tab h) (rw length-replicate g))

pub over_tab_all : {A : Type 0} (n w : ℕ) (f : ℕ → A) (z : A) → n ≤ w → over n (tab n f) (replicate w z) ≡ filled w z (tab n f)
over_tab_all n w f z h = rw (length-tab n f, min-eq_left h, take_all w (tab n f) (rw length-tab h)) at (over_all w (tab n f) z)
