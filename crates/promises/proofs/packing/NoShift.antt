-- Adding -0 changes nothing, not even the sign of a zero: a layout that is not packed is one whose clusters are shifted by -0.
use Prim.Native.Nat.{ℕ, suc, ◌+◌, ◌-◌, ◌*◌, ◌^◌, ◌<◌}
use native.Mathlib.Nat.{mul-pos, mul-one, le_of_lt, zero-mul}
use native.Mathlib.Omega.{arith}
use mathlib.Core.Path.{◌≡◌, refl, sym, ap, ◌∙◌, subst}
use mathlib.Core.Logic.{◌⊎◌, inl, inr}
use mathlib.Core.Bool.{Bool, true, false, cond}
use lib.Dec.{ltb, ltb→lt}
use lib.Pow.{pow_pos}
use lib.Ieee.{Float, nan, inf, fin, Format, binary64, emax, low, up, down, round, sum, add, neg, fits}
use Rattle.algebra.specs.Integer.{nat}
use Rattle.rounding.specs.Value.{mag, negative, val, Fin}
use Rattle.rounding.proofs.Value.{held, mag-below}
use Rattle.rounding.proofs.Unique.{val_unique}
use Rattle.rounding.proofs.Rounded.{RoundOf, round_exact, sign_kept}
use Rattle.rounding.proofs.Add.{add_is, bottom, bottom_pos}
use Rattle.scope.specs.Numbers.{nought}
use Rattle.laws.proofs.Cases.{is_false}

abbrev pub no_shift : Float
no_shift = neg nought

pub no_shift_finite : Fin binary64 no_shift
unfolding Fin neg fits
no_shift_finite = tt

pub no_shift_value : val binary64 no_shift ≡ nat 0
unfolding val neg mag negative
no_shift_value = refl

no_shift_size : mag binary64 no_shift ≡ 0
unfolding neg mag
no_shift_size = refl

-- ---- the sign
not_below_zero : (f : Format) (a b c : ℕ) (s : Bool) → b ≡ 0 → negative (cond (ltb a b) (round f s (b - a) c) (round f false (a - b) c)) ≡ false
not_below_zero f a b c s e = rw (is_false (ltb a b) (λ t. none (ltb→lt a b t))) (sign_kept f false (a - b) c)
  where
    none : a < b → ⊥
    none h = omega arith

sign-stays : (x : Float) → Fin binary64 x → negative (add binary64 x no_shift) ≡ negative x
unfolding add Fin sum negative neg
sign-stays nan p = absurd p
sign-stays (inf s) p = absurd p
sign-stays (fin true m e) p = sign_kept binary64 true (m * up e * 1 + 0 * down e) (down e * 1)
sign-stays (fin false m e) p = not_below_zero binary64 (m * up e * 1) (0 * down e) (down e * 1) true (zero-mul (down e))

-- ---- the size
size-stays : (size a b : ℕ) → b ≡ 0 → (size ≡ a + b) ⊎ ((size + b ≡ a) ⊎ (size + a ≡ b)) → size ≡ a
size-stays size a b z (inl e) = omega arith
size-stays size a b z (inr (inl e)) = omega arith
size-stays size a b z (inr (inr e)) = omega arith

exact : (x : Float) (p : Fin binary64 x) → Fin binary64 (add binary64 x no_shift) × (mag binary64 (add binary64 x no_shift) ≡ mag binary64 x)
exact x p =
    let r = add_is binary64 x no_shift p no_shift_finite in
    let w = held binary64 x p in
    let of : RoundOf binary64 (add binary64 x no_shift) r.sign (mag binary64 x) 1 = record {
      num = r.num;
      den = bottom x * bottom no_shift;
      den_pos = mul-pos (bottom_pos x) (bottom_pos no_shift);
      d-pos = pow_pos 0;
      is = r.is;
      units = mul-one (r.num * 2 ^ low binary64) ∙ r.units ∙ ap (λ (z : ℕ). z * (bottom x * bottom no_shift)) (size-stays r.size (mag binary64 x) (mag binary64 no_shift) no_shift_size r.parts);
    } in
    let e = round_exact of w.digits w.exponent (w.is ∙ sym (mul-one (w.digits * 2 ^ w.exponent))) (le_of_lt w.small) (subst (λ (z : ℕ). z < 2 ^ (low binary64 + suc (emax binary64))) w.is (mag-below binary64 x p)) in
    (e.fin, e.grid ∙ sym w.is)

pub no_shift_lem : (x : Float) → Fin binary64 x → add binary64 x no_shift ≡ x
no_shift_lem x p = val_unique binary64 (add binary64 x no_shift) x (exact x p).0 p (sign-stays x p) (exact x p).1
