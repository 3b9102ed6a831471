-- The totals of the offset step: a total is never negative, a finite one has finite areas alone, and of two circles only one can have a total below the other's times (1 - 1e-6).
use mathlib.Core.Path.{◌≡◌, refl}
use mathlib.Core.Logic.{◌↔◌, inl, inr}
use mathlib.Core.Bool.{Bool, true, false, not, ◌&&◌, ◌||◌, true≢false, false≢true}
use mathlib.Core.List.{List}
use Prim.Native.Nat.{ℕ, zero, suc, ◌+◌, ◌*◌, ◌≤◌, ◌<◌}
use native.Mathlib.Nat.{zero-mul}
use native.Mathlib.Omega.{arith}
use native.Mathlib.Decide.{dec_lt}
use lib.Dec.{T, lit≤, ltb, eqb, lt→ltb}
use lib.ListN.{length}
use lib.Ieee.{Float, nan, inf, fin, binary64, up, down, lt, eq, le, of_bits, fits}
use lib.Ieee.Fits.{add-fits}
use lib.Ieee.Scale.{finite}
use Rattle.algebra.specs.Integer.{Z, nat, ◌⊖◌, ◌≺◌, Within}
use Rattle.algebra.proofs.Size.{either}
use Rattle.rounding.specs.Value.{mag, negative, val, Fin}
use Rattle.rounding.specs.Scale.{pow2}
use Rattle.rounding.proofs.Value.{fin_both, val-mag}
use Rattle.rounding.proofs.Double.{sub64, one as one-is}
use Rattle.rounding.proofs.Add.{add-sign}
use Rattle.rounding.proofs.Order.{lt_is}
use Rattle.rounding.proofs.Finite.{finite-add}
use Rattle.scope.specs.Numbers.{◌+ᶠ◌, ◌-ᶠ◌, ◌*ᶠ◌, ◌<ᶠ◌, ◌≤ᶠ◌, nought, one, e_6}
use Rattle.scope.specs.Runs.{gather}
use Rattle.scope.specs.Links.{Region, holds}
use Rattle.scope.specs.Tolerance.{region}
use Rattle.scope.specs.Offset.{total, smaller}
use Rattle.scope.specs.Promises.{units}
use Rattle.laws.proofs.Cases.{and_iff, not_iff, or_iff, eqb_iff, tested}
use Rattle.laws.proofs.Runs.{gather-takes, gather-leaves, gather_keeps}
use Rattle.promises.proofs.numbers.Magnitude.{mag-le, within-mag}
use Rattle.promises.proofs.numbers.SmallFactor.{product_no_larger}

-- ---- an area that is not at most 0 has no sign
below_or_zero : (a b : ℕ) → b ≡ 0 → T (ltb 0 (a + b) || eqb a b && eqb a 0)
below_or_zero a b e = (or_iff (ltb 0 (a + b)) (eqb a b && eqb a 0)).1 (elim (either 0 a) [
  | inl h ↦ inl (lt→ltb 0 (a + b) (omega arith))
  | inr h ↦ inr ((and_iff (eqb a b) (eqb a 0)).1 ((eqb_iff a b).1 (omega arith), (eqb_iff a 0).1 (omega arith)))
])

signed_at_most_zero : (x : Float) → negative x ≡ true → T (x ≤ᶠ nought)
unfolding negative le lt eq
signed_at_most_zero nan s = absurd (false≢true s)
signed_at_most_zero (inf true) s = tt
signed_at_most_zero (inf false) s = absurd (false≢true s)
signed_at_most_zero (fin false m e) s = absurd (false≢true s)
signed_at_most_zero (fin true m e) s = below_or_zero (m * up e * 1) (0 * down e) (zero-mul (down e))

above_zero_not_negative : (x : Float) → ¬ T (x ≤ᶠ nought) → negative x ≡ false
above_zero_not_negative x h = go (negative x) refl
  where
    go : (b : Bool) → negative x ≡ b → b ≡ false
    go true e = absurd (h (signed_at_most_zero x e))
    go false e = refl

-- ---- totals
module _ (rs : List Region) (i : ℕ) where
  abbrev summed : ℕ → Bool
  summed k = holds (region rs k) i && not ((region rs k).area ≤ᶠ nought)

  summed_iff : (k : ℕ) → T (summed k) ↔ (T (holds (region rs k) i) × (¬ T ((region rs k).area ≤ᶠ nought)))
  summed_iff k = (
    λ h. let both = (and_iff (holds (region rs k) i) (not ((region rs k).area ≤ᶠ nought))).0 h in (both.0, (not_iff ((region rs k).area ≤ᶠ nought)).0 both.1),
    λ h. (and_iff (holds (region rs k) i) (not ((region rs k).area ≤ᶠ nought))).1 (h.0, (not_iff ((region rs k).area ≤ᶠ nought)).1 h.1),
  )

  abbrev sum_to : ℕ → Float
  sum_to n = gather (λ t r. t +ᶠ r.area) nought summed n (region rs)

  total_not_negative : negative (total rs i) ≡ false
  unfolding total negative
  total_not_negative =
      gather_keeps (λ t r. t +ᶠ r.area) nought (λ t. negative t ≡ false) summed (length rs) (region rs) refl
      (λ k t l u h. add-sign binary64 t (region rs k).area h (above_zero_not_negative (region rs k).area ((summed_iff k).0 u).1))

  total-fits : T (fits binary64 (total rs i))
  unfolding total fits
  total-fits = gather_keeps (λ t r. t +ᶠ r.area) nought (λ t. T (fits binary64 t)) summed (length rs) (region rs) tt (λ k t l u h. add-fits binary64 t (region rs k).area)

  finite_areas_to : (n : ℕ) → T (finite (sum_to n)) → (k : ℕ) → k < n → T (summed k) → T (finite (region rs k).area)
  finite_areas_to zero t k l u = absurd (omega arith)
  finite_areas_to (suc n) t k l u = elim (tested (summed n)) [
    | yes v ↦
        let parts = finite-add binary64 (sum_to n) (region rs n).area (rw (gather-takes (λ t r. t +ᶠ r.area) nought summed n (region rs) v) at t) in
        elim (dec_lt k n) [ yes h ↦ finite_areas_to n parts.0 k h u | no h ↦ let e : k ≡ n = omega arith in rw e parts.1 ]
    | no v ↦ elim (dec_lt k n) [
      | yes h ↦ finite_areas_to n (rw (gather-leaves (λ t r. t +ᶠ r.area) nought summed n (region rs) v) at t) k h u
      | no h ↦ let e : k ≡ n = omega arith in absurd (v (rw e at u))
    ]
  ]

  pub finite-areas : T (finite (total rs i)) → (k : ℕ) → k < length rs → T (holds (region rs k) i) → ¬ T ((region rs k).area ≤ᶠ nought) → T (finite (region rs k).area)
  unfolding total
  finite-areas t k l h a = finite_areas_to (length rs) t k l ((summed_iff k).1 (h, a))

-- ---- the factor 1 - 1e-6 is at most 1
one-fin : Fin binary64 one
unfolding Fin fits
one-fin = tt

one-units : units one ≡ nat (pow2 60)
unfolding val mag negative pow2
one-units = refl

e_6-fin : Fin binary64 e_6
unfolding Fin fits e_6 of_bits
e_6-fin = tt

e_6-sign : negative e_6 ≡ false
unfolding negative e_6 of_bits
e_6-sign = refl

e_6-small : mag binary64 e_6 ≤ pow2 60
unfolding mag e_6 of_bits pow2
e_6-small = lit≤ tt

abbrev factor : Float
factor = one -ᶠ e_6

less_than_one : (a b : Z) (n m : ℕ) → a ≡ nat n → b ≡ nat m → m ≤ n → Within (a ⊖ b) n
less_than_one a b n m p q l = rw (p, q) (omega arith)

factor_close : Fin binary64 factor × (mag binary64 factor ≤ pow2 60)
factor_close =
    let r = sub64 6 tt one e_6 one-fin e_6-fin (less_than_one (units one) (units e_6) (pow2 60) (mag binary64 e_6) one-units (val-mag binary64 e_6 e_6-sign) e_6-small) in
    (r.fin, mag-le factor (pow2 60) r.within)

-- ---- a is below b times the factor
finite_left : (x y : Float) → negative x ≡ false → T (x <ᶠ y) → T (finite x)
unfolding lt negative
finite_left nan y s t = absurd t
finite_left (inf true) y s t = absurd (true≢false s)
finite_left (inf false) nan s t = absurd t
finite_left (inf false) (inf u) s t = absurd t
finite_left (inf false) (fin u n d) s t = absurd t
finite_left (fin u m e) y s t = tt

module _ (rs : List Region) (i p : ℕ) (h : T (smaller rs i p)) where
  pub smaller-finite : T (finite (total rs i))
  unfolding smaller
  smaller-finite = finite_left (total rs i) (total rs p *ᶠ factor) (total_not_negative rs i) h

  smaller-fin : Fin binary64 (total rs i)
  smaller-fin = fin_both binary64 (total rs i) smaller-finite (total-fits rs i)

  smaller-size : Fin binary64 (total rs p) → mag binary64 (total rs i) < mag binary64 (total rs p)
  unfolding smaller
  smaller-size f =
      let a = total rs i in
      let b = total rs p in
      let r = product_no_larger binary64 b factor f factor_close.0 (rw (← one-is) factor_close.1) in
      let l = (lt_is binary64 a (b *ᶠ factor) smaller-fin r.0).0 h in
      let n = rw (val-mag binary64 a (total_not_negative rs i)) at l in
      below-size (units (b *ᶠ factor)) (mag binary64 (b *ᶠ factor)) (mag binary64 a) (mag binary64 b) (within-mag (b *ᶠ factor) (mag binary64 (b *ᶠ factor)) (omega arith)) n r.1
    where
      below-size : (z : Z) (m a b : ℕ) → Within z m → nat a ≺ z → m ≤ b → a < b
      below-size z m a b w h l = omega arith

pub smaller_one_way : (rs : List Region) (i p : ℕ) → T (smaller rs i p) → T (smaller rs p i) → ⊥
smaller_one_way rs i p h k =
    let a = smaller-size rs i p h (smaller-fin rs p i k) in
    let b = smaller-size rs p i k (smaller-fin rs i p h) in
    omega arith
