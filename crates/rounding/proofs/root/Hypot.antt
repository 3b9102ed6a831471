-- The hypot of two floats: its special cases, and of two finite floats the laws of the nearest root of the exact sum of their squares, in units.
-- No sign and no order of the operands has a part in it: only their sizes are squared, and a sum does not depend on its order.
use mathlib.Core.Path.{◌≡◌, refl, ap, ◌∙◌, subst}
use mathlib.Core.Bool.{Bool, false}
use Prim.Native.Nat.{ℕ, suc, ◌+◌, ◌*◌, ◌^◌, ◌≤◌, ◌<◌}
use native.Mathlib.Nat.{add_comm}
use native.Mathlib.Omega.{arith}
use lib.IntN.{ℤ}
use lib.Dec.{T}
use lib.Ieee.{Float, nan, inf, fin, Format, prec, emax, low, neg}
use lib.Ieee.Scale.{finite}
use Rattle.rounding.specs.Root.{nearest_root, hypot}
use Rattle.rounding.specs.Value.{mag, negative}
use Rattle.rounding.proofs.Rounded.{sign_kept}
use Rattle.rounding.proofs.root.Error.{nearest_root-le}
use Rattle.rounding.proofs.root.Overflow.{past_largest}
use Rattle.rounding.proofs.root.Units.{IsUnitsRoot, units-root, units_root_overflow, units_root_finite, cancel_ge, quarter_ge}

-- ---- the special cases: an infinity beside anything, and a NaN beside anything else
pub record SpecialHypots (f : Format) : Type 0 where
  pub infinity-first : (s : Bool) (y : Float) → hypot f (inf s) y ≡ inf false
  pub infinity_second : (x : Float) (t : Bool) → hypot f x (inf t) ≡ inf false
  pub nan-first : (t : Bool) (n : ℕ) (d : ℤ) → hypot f nan (fin t n d) ≡ nan
  pub nan_second : (s : Bool) (m : ℕ) (e : ℤ) → hypot f (fin s m e) nan ≡ nan
  pub nan_both : hypot f nan nan ≡ nan

pub special_hypots : (f : Format) → SpecialHypots f
unfolding hypot
special_hypots f = record {
  infinity-first = λ (s : Bool) (y : Float). refl;
  infinity_second = second;
  nan-first = λ (t : Bool) (n : ℕ) (d : ℤ). refl;
  nan_second = λ (s : Bool) (m : ℕ) (e : ℤ). refl;
  nan_both = refl;
}
  where
    second : (x : Float) (t : Bool) → hypot f x (inf t) ≡ inf false
    second nan t = refl
    second (inf s) t = refl
    second (fin s m e) t = refl

-- the square of the exact root, in units
abbrev pub hypot_square : Format → Float → Float → ℕ
hypot_square f x y = mag f x * mag f x + mag f y * mag f y

pub hypot_is_nearest : (f : Format) (x y : Float) → T (finite x) → T (finite y) → hypot f x y ≡ nearest_root f (hypot_square f x y) (low f)
unfolding hypot mag
hypot_is_nearest f nan y t u = absurd t
hypot_is_nearest f (inf s) y t u = absurd t
hypot_is_nearest f (fin s m e) nan t u = absurd u
hypot_is_nearest f (fin s m e) (inf r) t u = absurd u
hypot_is_nearest f (fin s m e) (fin r n d) t u = refl

-- ---- of every two floats
pub hypot_not_negative : (f : Format) (x y : Float) → negative (hypot f x y) ≡ false
unfolding hypot nearest_root negative
hypot_not_negative f (inf s) y = refl
hypot_not_negative f nan nan = refl
hypot_not_negative f nan (inf t) = refl
hypot_not_negative f nan (fin t n d) = refl
hypot_not_negative f (fin s m e) nan = refl
hypot_not_negative f (fin s m e) (inf t) = refl
hypot_not_negative f (fin s m e) (fin t n d) = sign_kept f false _ _

pub hypot_swapped : (f : Format) (x y : Float) → hypot f x y ≡ hypot f y x
unfolding hypot
hypot_swapped f nan nan = refl
hypot_swapped f nan (inf t) = refl
hypot_swapped f nan (fin t n d) = refl
hypot_swapped f (inf s) nan = refl
hypot_swapped f (inf s) (inf t) = refl
hypot_swapped f (inf s) (fin t n d) = refl
hypot_swapped f (fin s m e) nan = refl
hypot_swapped f (fin s m e) (inf t) = refl
hypot_swapped f (fin s m e) (fin t n d) =
    ap (λ (n : ℕ). nearest_root f n (low f)) (add_comm (mag f (fin s m e) * mag f (fin s m e)) (mag f (fin t n d) * mag f (fin t n d)))

pub hypot_negated : (f : Format) (x y : Float) → hypot f (neg x) y ≡ hypot f x y
unfolding hypot mag neg
hypot_negated f nan y = refl
hypot_negated f (inf s) y = refl
hypot_negated f (fin s m e) nan = refl
hypot_negated f (fin s m e) (inf t) = refl
hypot_negated f (fin s m e) (fin t n d) = refl

-- ---- of two finite floats: half-way past the largest value decides whether it is finite
module _ (f : Format) (x y : Float) (i : ℕ) (top : prec f + i ≡ low f + suc (emax f)) (t : T (finite x)) (u : T (finite y)) where
  pub hypot_infinite : past_largest f i * past_largest f i ≤ 4 * hypot_square f x y → hypot f x y ≡ inf false
  hypot_infinite h = hypot_is_nearest f x y t u ∙ units_root_overflow f (hypot_square f x y) i top h

  pub hypot-finite : 4 * hypot_square f x y < past_largest f i * past_largest f i → T (finite (hypot f x y))
  hypot-finite h = rw (hypot_is_nearest f x y t u) (units_root_finite f (hypot_square f x y) i top h)

-- ---- where it is finite: so are the operands, and it is nearest, and near
pub finite-hypot : (f : Format) (x y : Float) → T (finite (hypot f x y)) → T (finite x) × T (finite y)
unfolding hypot
finite-hypot f (inf s) y t = absurd t
finite-hypot f nan nan t = absurd t
finite-hypot f nan (inf u) t = absurd t
finite-hypot f nan (fin u n d) t = absurd t
finite-hypot f (fin s m e) nan t = absurd t
finite-hypot f (fin s m e) (inf u) t = absurd t
finite-hypot f (fin s m e) (fin u n d) t = (tt, tt)

module _ (f : Format) (x y : Float) (t : T (finite (hypot f x y))) where
  is_nearest : hypot f x y ≡ nearest_root f (hypot_square f x y) (low f)
  is_nearest = let r = finite-hypot f x y t in hypot_is_nearest f x y r.0 r.1

  finite-nearest : T (finite (nearest_root f (hypot_square f x y) (low f)))
  finite-nearest = subst (λ (z : Float). T (finite z)) is_nearest t

  -- no value of the format is nearer the exact root, and at a tie it is the even one
  pub hypot-nearest : IsUnitsRoot f (hypot_square f x y) (hypot f x y)
  hypot-nearest = rw is_nearest (units-root f (hypot_square f x y) finite-nearest)

  -- the relative law, with no range asked: the exact root is at most e above, for an e that is large against 1 part in 2 ^ prec
  pub hypot_rel : (Q e : ℕ) → 0 < Q → 2 ^ prec f ≡ Q + 1 → 2 * mag f (hypot f x y) + 1 + Q ≤ 2 * (Q * e) → hypot_square f x y ≤ (mag f (hypot f x y) + e) * (mag f (hypot f x y) + e)
  hypot_rel Q e Q-pos E l =
      let n = hypot_square f x y in
      let g = mag f (hypot f x y) in
      let wide : (2 * g + 1) * 2 ^ prec f ≤ 2 * (g + e) * Q = rw E (more g e Q l) in
      quarter_ge (g + e) (2 * (g + e)) n refl (cancel_ge f n (2 * (g + e)) (nearest_root-le f n (low f) (2 * (g + e)) finite-nearest Q Q-pos E (subst (λ (z : Float). (2 * mag f z + 1) * 2 ^ prec f ≤ 2 * (g + e) * Q) is_nearest wide)))
    where
      more : (g e Q : ℕ) → 2 * g + 1 + Q ≤ 2 * (Q * e) → (2 * g + 1) * (Q + 1) ≤ 2 * (g + e) * Q
      more g e Q l = omega arith
