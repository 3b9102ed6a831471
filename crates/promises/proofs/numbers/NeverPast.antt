-- A rounded result never goes past a number that the format holds. So a sum of numbers that are not negative is no less than either, and no more than
-- any number of the format that bounds the exact sum.
use Prim.Native.Nat.{ℕ, ◌+◌, ◌*◌, ◌^◌, ◌≤◌, ◌<◌}
use native.Mathlib.Nat.{mul-le-mul_right, mul-lt-mul_of_pos_right, le_of_mul-le-mul_right}
use native.Mathlib.Omega.{arith}
use native.Mathlib.Decide.{dec_lt}
use mathlib.Core.Path.{◌≡◌, ap, ◌∙◌, subst}
use mathlib.Core.Bool.{Bool, false}
use lib.Dec.{T}
use lib.Ieee.{Float, Format, prec, low, round, add}
use lib.Ieee.Fits.{two, two-le_pos}
use lib.Ieee.Scale.{finite}
use Rattle.algebra.specs.Integer.{◌≼◌}
use Rattle.rounding.specs.Value.{mag, negative, val, Fin}
use Rattle.rounding.proofs.Value.{Held, held, mag_of, val-mag, fin-finite}
use Rattle.rounding.proofs.Round.{rnd, round-finite}
use Rattle.rounding.proofs.Nearest.{rnd_below, rnd_above}
use Rattle.rounding.proofs.Rounded.{RoundOf}
use Rattle.rounding.specs.Root.{root}
use Rattle.rounding.proofs.root.Operation.{root_square, root-nearest}
use Rattle.rounding.proofs.root.Units.{units_root_not_above, units_root_not_below}
use Rattle.rounding.proofs.Add.{add-sign, sizes_summed}

-- ---- in one rounding of n / den
module _ (p n den w : ℕ) (P : 0 < p) (D : 0 < den) (h : Held p w) where
  rnd_not_below : w * den ≤ n → w ≤ rnd p n den
  rnd_not_below l = elim (dec_lt (rnd p n den) w) [ yes g ↦ absurd (omega (arith, rnd_above p n den w P D h g, mul-lt-mul_of_pos_right g D)) | no g ↦ omega arith ]

  rnd_not_above : n ≤ w * den → rnd p n den ≤ w
  rnd_not_above l = elim (dec_lt w (rnd p n den)) [ yes g ↦ absurd (omega (arith, rnd_below p n den w P D h g, mul-lt-mul_of_pos_right g D)) | no g ↦ omega arith ]

-- ---- z is the rounding of a / d units
module _ {f : Format} {z : Float} {s : Bool} {a d : ℕ} (r : RoundOf f z s a d) (t : T (finite z)) (w : ℕ) (h : Held (prec f) w) where
  size_is : mag f z ≡ rnd (prec f) (r.num * 2 ^ low f) r.den
  size_is =
      ap (mag f) r.is
      ∙ mag_of f (round f s r.num r.den) s (rnd (prec f) (r.num * 2 ^ low f) r.den) (round-finite f s r.num r.den (subst (λ (y : Float). T (finite y)) r.is t))

  pub rounded_not_below : w * d ≤ a → w ≤ mag f z
  rounded_not_below l =
      rw size_is
      (rnd_not_below (prec f) (r.num * 2 ^ low f) r.den w (two-le_pos (prec f) (two f)) r.den_pos h
      (le_of_mul-le-mul_right {k = d} (omega (arith, r.units, mul-le-mul_right r.den l)) r.d-pos))

  pub rounded_not_above : a ≤ w * d → mag f z ≤ w
  rounded_not_above l =
      rw size_is
      (rnd_not_above (prec f) (r.num * 2 ^ low f) r.den w (two-le_pos (prec f) (two f)) r.den_pos h
      (le_of_mul-le-mul_right {k = d} (omega (arith, r.units, mul-le-mul_right r.den l)) r.d-pos))

-- ---- a sum of two numbers that are not negative
module _ (f : Format) (x y : Float) (p : Fin f x) (q : Fin f y) (s : negative x ≡ false) (t : negative y ≡ false) where
  pub sum_not_above : (w : ℕ) → Held (prec f) w → Fin f (add f x y) → mag f x + mag f y ≤ w → mag f (add f x y) ≤ w
  sum_not_above w h F l = rounded_not_above (sizes_summed f x y p q s t) (fin-finite f (add f x y) F) w h (omega arith)

  -- adding never steps back
  pub sum_not_below : Fin f (add f x y) → val f x ≼ val f (add f x y)
  sum_not_below F =
      let g = rounded_not_below (sizes_summed f x y p q s t) (fin-finite f (add f x y) F) (mag f x) (held f x p) (omega arith) in
      rw (val-mag f x s, val-mag f (add f x y) (add-sign f x y s t)) (omega arith)

-- ---- the root
module _ (f : Format) (x w : Float) (p : Fin f x) (s : negative x ≡ false) (q : Fin f w) where
  pub root_not_above : root_square f x ≤ mag f w * mag f w → mag f (root f x) ≤ mag f w
  root_not_above = units_root_not_above f (root_square f x) (root f x) (root-nearest f x p s) w q

  pub root_not_below : mag f w * mag f w ≤ root_square f x → mag f w ≤ mag f (root f x)
  root_not_below = units_root_not_below f (root_square f x) (root f x) (root-nearest f x p s) w q
