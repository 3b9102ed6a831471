-- A rounded product by a factor of at most 1 is finite and no larger than the other factor: that factor is itself a value of the format, and no rounding passes one.
use mathlib.Core.Path.{◌≡◌, sym, subst}
use mathlib.Core.Logic.{inl, inr}
use Prim.Native.Nat.{ℕ, ◌+◌, ◌*◌, ◌^◌, ◌≤◌, ◌<◌}
use native.Mathlib.Nat.{mul-le-mul_left, le_of_mul-le-mul_right, lt_of_le_of_lt}
use native.Mathlib.Omega.{arith}
use lib.Pow.{pow_pos}
use lib.Ieee.{Float, Format, prec, low, round, mul, unlike}
use lib.Ieee.Fits.{two, two-le_pos}
use Rattle.algebra.proofs.Size.{either}
use Rattle.rounding.specs.Value.{mag, negative, Fin}
use Rattle.rounding.proofs.Value.{held, mag_of, fin_of, mag-below}
use Rattle.rounding.proofs.Round.{rnd, round-units}
use Rattle.rounding.proofs.Nearest.{rnd_below}
use Rattle.rounding.proofs.Multiply.{mul_is}

cancel_low : (n w k L den : ℕ) → 0 < L → k ≤ L → n * L ≡ w * k * den → n ≤ w * den
cancel_low n w k L den L-pos l e = le_of_mul-le-mul_right {k = L} (omega (arith, mul-le-mul_left (w * den) l)) L-pos

no_further : (r w n den : ℕ) → 0 < den → n ≤ w * den → (w < r → (r + w) * den ≤ 2 * n) → r ≤ w
no_further r w n den D l f = elim (either w r) [
  | inl h ↦ let g : r + w ≤ 2 * w = le_of_mul-le-mul_right {k = den} (omega (arith, f h)) D in omega arith
  | inr h ↦ h
]

module _ (f : Format) (x y : Float) (p : Fin f x) (q : Fin f y) (small : mag f y ≤ 2 ^ low f) where
  pub product_no_larger : Fin f (mul f x y) × (mag f (mul f x y) ≤ mag f x)
  product_no_larger =
      let r = mul_is f x y p q in
      let s = unlike (negative x) (negative y) in
      let n = r.num * 2 ^ low f in
      let g = rnd (prec f) n r.den in
      let le : n ≤ mag f x * r.den = cancel_low n (mag f x) (mag f y) (2 ^ low f) r.den (pow_pos (low f)) small r.units in
      let below : g ≤ mag f x = no_further g (mag f x) n r.den r.den_pos le (rnd_below (prec f) n r.den (mag f x) (two-le_pos (prec f) (two f)) r.den_pos (held f x p)) in
      let v = round-units f s r.num r.den (lt_of_le_of_lt below (mag-below f x p)) in
      rw r.is (fin_of f s s r.num r.den g (2 ^ low f) v, subst (λ (a : ℕ). a ≤ mag f x) (sym (mag_of f (round f s r.num r.den) s g v)) below)
