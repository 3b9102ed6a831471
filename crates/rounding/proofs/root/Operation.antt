-- The root of a float: its special cases, and of every value that is not below zero the laws of the nearest root in units.
-- The root of A units is the root of A * 2 ^ low, in units. Zero is its own nearest root, so one equation serves all.
use mathlib.Core.Path.{◌≡◌, refl, sym, ap, ◌∙◌, subst}
use mathlib.Core.Logic.{inl, inr}
use mathlib.Core.Bool.{Bool, true, false, true≢false}
use Prim.Native.Nat.{ℕ, zero, suc, ◌+◌, ◌-◌, ◌*◌, ◌^◌, ◌≤◌, ◌<◌}
use native.Mathlib.Nat.{mul-le-mul_right, mul-pos, le_trans, le_of_eq, le_of_lt, zero-mul}
use native.Mathlib.Omega.{arith}
use lib.IntN.{ℤ}
use lib.Dec.{T}
use lib.Pow.{pow_mono, pow-add}
use lib.Ieee.{Float, nan, inf, fin, Format, prec, emax, low}
use lib.Ieee.Fits.{two, reach}
use lib.Ieee.Scale.{finite}
use Rattle.algebra.proofs.Size.{either}
use Rattle.rounding.specs.Root.{nearest_root, root}
use Rattle.rounding.specs.NearestRoot.{square_of_root}
use Rattle.rounding.specs.Value.{mag, negative, Fin}
use Rattle.rounding.proofs.Value.{fin-finite, mag-zero, mag-below}
use Rattle.rounding.proofs.Unique.{val_unique}
use Rattle.rounding.proofs.root.Error.{nearest_root-near}
use Rattle.rounding.proofs.root.Units.{IsUnitsRoot, RootIs, units-root, units_root_near, spread_ge}

-- ---- the special cases
pub record SpecialRoots (f : Format) : Type 0 where
  pub zeros : (s : Bool) (e : ℤ) → root f (fin s zero e) ≡ fin s zero e
  pub infinity : root f (inf false) ≡ inf false
  pub of_nan : root f nan ≡ nan
  pub minus_infinity : root f (inf true) ≡ nan
  pub below-zero : (m : ℕ) (e : ℤ) → root f (fin true (suc m) e) ≡ nan

pub special_roots : (f : Format) → SpecialRoots f
unfolding root
special_roots f = record { zeros = λ (s : Bool) (e : ℤ). refl; infinity = refl; of_nan = refl; minus_infinity = refl; below-zero = λ (m : ℕ) (e : ℤ). refl }

-- the square of the exact root, in units
abbrev pub root_square : Format → Float → ℕ
root_square f x = mag f x * 2 ^ low f

pub root_is : (f : Format) (m : ℕ) (e : ℤ) → root f (fin false (suc m) e) ≡ nearest_root f (root_square f (fin false (suc m) e)) (low f)
unfolding root mag
root_is f m e = refl

-- ---- every value of the format that is not below zero: its root is finite, nearest, and near
-- its square in units, A * 2 ^ low, leaves room above
root-room : (f : Format) (x : Float) → Fin f x → root_square f x ≤ 2 ^ (low f + emax f) * 2 ^ (low f + emax f)
root-room f x h =
    let l = low f in
    let e = emax f in
    le_trans (mul-le-mul_right (2 ^ l) (le_of_lt (mag-below f x h)))
    (le_trans (le_of_eq (sym (pow-add 2 (l + suc e) l))) (le_trans (pow_mono (enough (prec f) e l (two f) (reach f))) (le_of_eq (pow-add 2 (l + e) (l + e)))))
  where
    enough : (p e l : ℕ) → 2 ≤ p → p ≤ suc e → l + suc e + l ≤ l + e + (l + e)
    enough p e l h k = omega arith

-- ---- zero too is its own nearest root, so one law serves every value that is not below zero
digits_fit : (f : Format) → prec f ≤ low f + emax f
digits_fit f = enough (prec f) (emax f) (two f) (reach f)
  where
    enough : (p e : ℕ) → 2 ≤ p → p ≤ suc e → p ≤ e + p - 2 + e
    enough p e h k = omega arith

zero-root : (f : Format) (e : ℤ) → Fin f (fin false zero e) → nearest_root f 0 (low f) ≡ fin false zero e
unfolding negative
zero-root f e h =
    let z = nearest_root f 0 (low f) in
    let w = fin false zero e in
    let none : square_of_root f 0 ≡ 0 = omega arith in
    let near = nearest_root-near f 0 (low f) 0 (omega (arith, digits_fit f)) (rw none (omega arith)) in
    let r = units-root f 0 (fin-finite f z near.fin) in
    val_unique f z w near.fin h near.sign (elim (either (mag f w) (mag f z)) [
      | inl l ↦ let g : 0 < mag f z = omega arith in absurd (omega (arith, mag-zero f false e, r.below w h l, mul-pos g g))
      | inr l ↦ omega (arith, mag-zero f false e)
    ])

pub root_is_nearest : (f : Format) (x : Float) → Fin f x → negative x ≡ false → root f x ≡ nearest_root f (root_square f x) (low f)
unfolding Fin negative
root_is_nearest f nan h s = absurd h
root_is_nearest f (inf t) h s = absurd h
root_is_nearest f (fin true m e) h s = absurd (true≢false s)
root_is_nearest f (fin false zero e) h s =
    (special_roots f).zeros false e ∙ sym (zero-root f e h) ∙ ap (λ (n : ℕ). nearest_root f n (low f)) (sym (zero-mul (2 ^ low f)) ∙ ap (λ (a : ℕ). a * 2 ^ low f) (sym (mag-zero f false e)))
root_is_nearest f (fin false (suc m) e) h s = root_is f m e

module _ (f : Format) (x : Float) (h : Fin f x) (s : negative x ≡ false) where
  pub root-finite : Fin f (root f x)
  root-finite =
      let i = low f + emax f - prec f in
      let e : prec f + i ≡ low f + emax f = whole (prec f) (low f + emax f) (digits_fit f) in
      let b : 4 * root_square f x ≤ 2 * 2 ^ (prec f + i) * (2 * 2 ^ (prec f + i)) = rw e (omega (arith, root-room f x h)) in
      rw (root_is_nearest f x h s) (nearest_root-near f (root_square f x) (low f) i (le_of_eq e) (spread_ge f (root_square f x) (2 * 2 ^ (prec f + i)) b)).fin
    where
      whole : (p b : ℕ) → p ≤ b → p + (b - p) ≡ b
      whole p b h = omega arith

  finite-nearest : T (finite (nearest_root f (root_square f x) (low f)))
  finite-nearest = subst (λ (z : Float). T (finite z)) (root_is_nearest f x h s) (fin-finite f (root f x) root-finite)

  -- no value of the format is nearer the exact root
  pub root-nearest : IsUnitsRoot f (root_square f x) (root f x)
  root-nearest = rw (root_is_nearest f x h s) (units-root f (root_square f x) finite-nearest)

  -- the absolute law, over the exponent
  pub root-near : (j : ℕ) → prec f + suc j ≤ low f + emax f → root_square f x ≤ 2 ^ (prec f + suc j) * 2 ^ (prec f + suc j) → RootIs f (root_square f x) (root f x) j
  root-near j room b = rw (root_is_nearest f x h s) (units_root_near f (root_square f x) j room b)
