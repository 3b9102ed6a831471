-- `val` and `mag` against the kit's `HasValue`: a float that fits its format is a whole number of units, and what is so written has that value.
use mathlib.Core.Path.{◌≡◌, refl, sym, ap, ◌∙◌, subst}
use Prim.Native.Nat.{ℕ, zero, suc, ◌+◌, ◌-◌, ◌*◌, ◌/◌, ◌%◌, ◌^◌, ◌≤◌, ◌<◌}
use native.Mathlib.Nat.{mul_assoc, mul_comm, mul-one, one-mul, zero-mul, zero-div, mul-div_cancel, mul-le-mul_right, lt_of_not-le, not-le_of_lt, le_of_suc-le-suc, lt_of_mul-lt-mul_right, mul-lt-mul_of_pos_right}
use native.Mathlib.Omega.{arith}
use mathlib.Core.Bool.{Bool, true, false, ◌&&◌}
use lib.IntN.{ℤ, pos, negsuc}
use lib.Dec.{T, leb, ltb, eqb, leb→le, ltb→lt, eqb→eq}
use lib.Pow.{pow_pos, pow-lt, pow-add}
use lib.Ieee.{Float, nan, inf, fin, Format, prec, emax, low, up, down, fits, round}
use lib.Ieee.Fits.{and_l, and_r, and_i, up_pos, down_pos, round-fits}
use lib.Ieee.Exact.{HasValue}
use lib.Ieee.Scale.{finite}
use Rattle.algebra.specs.Integer.{nat, ◌≼◌}
use Rattle.rounding.specs.Value.{mag, signed, negative, val, Fin}

-- ---- from the kit's words to these
pub mag_of : (f : Format) (x : Float) (s : Bool) (g : ℕ) → HasValue x s g (2 ^ low f) → mag f x ≡ g
unfolding mag
mag_of f nan s g h = elim h [ ]
mag_of f (inf _) s g h = elim h [ ]
mag_of f (fin t m e) s g h = ap (λ (x : ℕ). x / down e) h.1 ∙ mul-div_cancel g (down_pos e)

pub sign_of : (x : Float) (s : Bool) (g c : ℕ) → HasValue x s g c → negative x ≡ s
unfolding negative
sign_of nan s g c h = elim h [ ]
sign_of (inf _) s g c h = elim h [ ]
sign_of (fin t m e) s g c h = h.0

pub val_of : (f : Format) (x : Float) (s : Bool) (g : ℕ) → HasValue x s g (2 ^ low f) → val f x ≡ signed s g
unfolding val
val_of f x s g h = λ i. signed (sign_of x s g (2 ^ low f) h i) (mag_of f x s g h i)

pub fin_of : (f : Format) (s t : Bool) (num den g c : ℕ) → HasValue (round f s num den) t g c → Fin f (round f s num den)
unfolding Fin
fin_of f s t num den g c h = and_i (finite (round f s num den)) (fits f (round f s num den)) (go (round f s num den) h) (round-fits f s num den)
  where
    go : (x : Float) → HasValue x t g c → T (finite x)
    go nan v = absurd v
    go (inf u) v = absurd v
    go (fin u m e) v = tt

pub fin-finite : (f : Format) (x : Float) → Fin f x → T (finite x)
unfolding Fin
fin-finite f x p = and_l (finite x) (fits f x) p

pub fin_both : (f : Format) (x : Float) → T (finite x) → T (fits f x) → Fin f x
unfolding Fin
fin_both f x p q = and_i (finite x) (fits f x) p q

-- ---- what fits, taken apart
pub pow_le : (a b : ℕ) → 2 ^ a ≤ 2 ^ b → a ≤ b
pow_le a b h = le_of_suc-le-suc (lt_of_not-le (λ (g : suc b ≤ a). not-le_of_lt (pow-lt g) h))

module _ (f : Format) (s : Bool) (m : ℕ) (e : ℤ) (t : T (fits f (fin s (suc m) e))) where
  head : T (eqb (suc m % 2) 1 && ltb (suc m) (2 ^ prec f) && leb (down e) (2 ^ low f))
  head = unfold fits in and_l (eqb (suc m % 2) 1 && ltb (suc m) (2 ^ prec f) && leb (down e) (2 ^ low f)) (ltb (suc m * up e) (2 ^ suc (emax f) * down e)) t

  pub fits-odd : suc m % 2 ≡ 1
  fits-odd = eqb→eq (suc m % 2) 1 (and_l (eqb (suc m % 2) 1) (ltb (suc m) (2 ^ prec f)) (and_l (eqb (suc m % 2) 1 && ltb (suc m) (2 ^ prec f)) (leb (down e) (2 ^ low f)) head))

  pub fits-small : suc m < 2 ^ prec f
  fits-small = ltb→lt (suc m) (2 ^ prec f) (and_r (eqb (suc m % 2) 1) (ltb (suc m) (2 ^ prec f)) (and_l (eqb (suc m % 2) 1 && ltb (suc m) (2 ^ prec f)) (leb (down e) (2 ^ low f)) head))

  fits_whole : down e ≤ 2 ^ low f
  fits_whole = leb→le (down e) (2 ^ low f) (and_r (eqb (suc m % 2) 1 && ltb (suc m) (2 ^ prec f)) (leb (down e) (2 ^ low f)) head)

  fits_below : suc m * up e < 2 ^ suc (emax f) * down e
  fits_below = unfold fits in ltb→lt (suc m * up e) (2 ^ suc (emax f) * down e) (and_r (eqb (suc m % 2) 1 && ltb (suc m) (2 ^ prec f) && leb (down e) (2 ^ low f)) (ltb (suc m * up e) (2 ^ suc (emax f) * down e)) t)

pub fits-zero : (f : Format) (s : Bool) (e : ℤ) → T (fits f (fin s zero e)) → up e * down e ≡ 1
unfolding fits
fits-zero f s e t = eqb→eq (up e * down e) 1 t

pub fits-down : (f : Format) (s : Bool) (m : ℕ) (e : ℤ) → T (fits f (fin s m e)) → down e ≤ 2 ^ low f
fits-down f s zero e t = omega (arith, fits-zero f s e t, mul-le-mul_right (down e) (up_pos e), pow_pos (low f))
fits-down f s (suc m) e t = fits_whole f s m e t

-- ---- and back. The exponent in units is e + low
unfoldable pub place : ℕ → ℤ → ℕ
place l (pos k) = l + k
place l (negsuc k) = l - suc k

pub place_is : (l : ℕ) (e : ℤ) → down e ≤ 2 ^ l → up e * 2 ^ l ≡ 2 ^ place l e * down e
unfolding place
place_is l (pos k) h = mul_comm (2 ^ k) (2 ^ l) ∙ sym (pow-add 2 l k) ∙ sym (mul-one (2 ^ (l + k)))
place_is l (negsuc k) h = one-mul (2 ^ l) ∙ ap (λ (x : ℕ). 2 ^ x) (split (suc k) l (pow_le (suc k) l h)) ∙ pow-add 2 (l - suc k) (suc k)
  where
    split : (a b : ℕ) → a ≤ b → b ≡ b - a + a
    split a b h = omega arith

exact_units : (f : Format) (s : Bool) (m : ℕ) (e : ℤ) → T (fits f (fin s m e)) → m * up e * 2 ^ low f ≡ m * 2 ^ place (low f) e * down e
exact_units f s m e t = mul_assoc m (up e) (2 ^ low f) ∙ ap (λ (x : ℕ). m * x) (place_is (low f) e (fits-down f s m e t)) ∙ sym (mul_assoc m (2 ^ place (low f) e) (down e))

-- a float that fits is m * 2 ^ place units
pub mag_is : (f : Format) (s : Bool) (m : ℕ) (e : ℤ) → T (fits f (fin s m e)) → mag f (fin s m e) ≡ m * 2 ^ place (low f) e
unfolding mag
mag_is f s m e t = ap (λ (x : ℕ). x / down e) (exact_units f s m e t) ∙ mul-div_cancel (m * 2 ^ place (low f) e) (down_pos e)

pub value_of : (f : Format) (x : Float) → Fin f x → HasValue x (negative x) (mag f x) (2 ^ low f)
unfolding Fin negative
value_of f nan h = absurd h
value_of f (inf s) h = absurd h
value_of f (fin s m e) h = (refl, exact_units f s m e h ∙ ap (λ (x : ℕ). x * down e) (sym (mag_is f s m e h)))

-- a size that a format of p digits holds
pub record Held (p w : ℕ) : Type 0 where
  pub digits : ℕ
  pub exponent : ℕ
  pub small : digits < 2 ^ p
  pub is : w ≡ digits * 2 ^ exponent

pub held : (f : Format) (x : Float) → Fin f x → Held (prec f) (mag f x)
unfolding Fin
held f nan h = absurd h
held f (inf s) h = absurd h
held f (fin s zero e) h = record { digits = zero; exponent = place (low f) e; small = pow_pos (prec f); is = mag_is f s zero e h }
held f (fin s (suc m) e) h = record { digits = suc m; exponent = place (low f) e; small = fits-small f s m e h; is = mag_is f s (suc m) e h }

pub mag-zero : (f : Format) (s : Bool) (e : ℤ) → mag f (fin s zero e) ≡ 0
unfolding mag
mag-zero f s e = ap (λ (t : ℕ). t / down e) (ap (λ (t : ℕ). t * 2 ^ low f) (zero-mul (up e)) ∙ zero-mul (2 ^ low f)) ∙ zero-div (down e)

-- a finite size is below the overflow
pub mag-below : (f : Format) (x : Float) → Fin f x → mag f x < 2 ^ (low f + suc (emax f))
unfolding Fin
mag-below f nan h = absurd h
mag-below f (inf s) h = absurd h
mag-below f (fin s zero e) h = subst (λ (z : ℕ). z < 2 ^ (low f + suc (emax f))) (sym (mag-zero f s e)) (pow_pos (low f + suc (emax f)))
mag-below f (fin s (suc m) e) h =
    subst (λ (z : ℕ). mag f (fin s (suc m) e) < z) (sym (pow-add 2 (low f) (suc (emax f))))
    (units_lt (suc m * up e) (down e) (2 ^ low f) (mag f (fin s (suc m) e)) (2 ^ suc (emax f)) (pow_pos (low f)) (value_of f (fin s (suc m) e) h).1 (fits_below f s m e h))
  where
    units_lt : (m d l A B : ℕ) → 0 < l → m * l ≡ A * d → m < B * d → A < l * B
    units_lt m d l A B L p h = lt_of_mul-lt-mul_right d (omega (arith, mul-lt-mul_of_pos_right h L))

-- a value that is not negative is its size
pub val-mag : (f : Format) (x : Float) → negative x ≡ false → val f x ≡ nat (mag f x)
unfolding val
val-mag f x h = ap (λ (s : Bool). signed s (mag f x)) h

-- a value above 0 has the sign false
pub above_zero_sign : (f : Format) (x : Float) → nat 1 ≼ val f x → negative x ≡ false
unfolding val
above_zero_sign f x h = go (negative x) (mag f x) h
  where
    go : (s : Bool) (a : ℕ) → nat 1 ≼ signed s a → s ≡ false
    go false a h = refl
    go true a h = absurd (omega arith)
