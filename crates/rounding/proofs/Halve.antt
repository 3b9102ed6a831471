-- Halving and doubling. Doubling is exact below the overflow. Halving is exact but for half of a unit, and exact where the size is even: a size that is not
-- has so few digits that none is dropped.
use mathlib.Core.Path.{◌≡◌, refl, sym, ap, ◌∙◌, subst}
use Prim.Native.Nat.{ℕ, zero, suc, ◌+◌, ◌*◌, ◌^◌, ◌≤◌, ◌<◌}
use native.Mathlib.Nat.{le_of_lt, le_of_mul-le-mul_right, mul-le-mul_right, mul-one, mul_left_comm, add-zero, pow-succ'}
use native.Mathlib.Omega.{arith}
use mathlib.Core.Bool.{Bool, true, false}
use lib.Dec.{lit≤}
use lib.Pow.{pow_pos}
use lib.Ieee.{Float, Format, binary32, binary64, prec, emax, low, mul, div, unlike}
use Rattle.algebra.specs.Integer.{Z, nat, Near, ◌⊕◌, ◌⊗◌}
use Rattle.rounding.specs.Value.{mag, signed, negative, val, Fin}
use Rattle.rounding.proofs.Value.{Held, held, mag-below}
use Rattle.rounding.proofs.Rounded.{RoundOf, round-near, round_exact, round-sign}
use Rattle.rounding.proofs.Multiply.{mul_is}
use Rattle.rounding.proofs.Divide.{div_is}

keep_left : (t : Bool) → unlike false t ≡ t
keep_left true = refl
keep_left false = refl

keep_right : (t : Bool) → unlike t false ≡ t
keep_right true = refl
keep_right false = refl

-- ---- z is half of a units, with the sign s
pub record Halved (f : Format) (z : Float) (s : Bool) (a : ℕ) : Type 0 where
  pub fin : Fin f z
  pub near : Near (val f z ⊕ val f z) (signed s a) 1
  pub sign : negative z ≡ s

even-near : (s : Bool) (g : ℕ) → Near (signed s g ⊕ signed s g) (signed s (2 * g)) 1
even-near false g = omega arith
even-near true g = omega arith

odd-near : (s : Bool) (z : Z) (a b d : ℕ) → 0 < d → 2 * b ≡ a * d → Near ((z ⊕ z) ⊗ nat d) (signed s b ⊕ signed s b) (1 * d) → Near (z ⊕ z) (signed s a) 1
odd-near false z a b d D h r = record { above = le_of_mul-le-mul_right {k = d} (omega arith) D; below = le_of_mul-le-mul_right {k = d} (omega arith) D }
odd-near true z a b d D h r = record { above = le_of_mul-le-mul_right {k = d} (omega arith) D; below = le_of_mul-le-mul_right {k = d} (omega arith) D }

-- b / d is half of a
module _ {f : Format} {z : Float} {s : Bool} {b d : ℕ} (r : RoundOf f z s b d) (a : ℕ) (h : 2 * b ≡ a * d) (small : a < 2 ^ (low f + suc (emax f))) where
  even-half : (c j : ℕ) → c < 2 ^ prec f → a ≡ 2 * (c * 2 ^ j) → Halved f z s a
  even-half c j C A =
      let e = round_exact r c j (eq-half b (c * 2 ^ j) d a h A) (le_of_lt C) (omega arith) in
      record {
        fin = e.fin;
        near = subst (λ (v : Z). Near (v ⊕ v) (signed s a) 1) (sym e.value) (subst (λ (t : ℕ). Near (signed s (c * 2 ^ j) ⊕ signed s (c * 2 ^ j)) (signed s t) 1) (sym A) (even-near s (c * 2 ^ j)));
        sign = round-sign r;
      }
    where
      eq-half : (b g d a : ℕ) → 2 * b ≡ a * d → a ≡ 2 * g → b ≡ g * d
      eq-half b g d a h e = omega (arith, ap (λ (t : ℕ). t * d) e)

  odd-half : a < 2 ^ prec f → Halved f z s a
  odd-half A =
      let n = round-near r 0 (omega (arith, mul-le-mul_right d (le_of_lt A), ap (λ (t : ℕ). 2 ^ t * d) (add-zero (prec f)))) (room f) in
      record { fin = n.fin; near = odd-near s (val f z) a b d r.d-pos h n.near; sign = round-sign r }
    where
      room : (f : Format) → prec f + 0 ≤ low f + emax f
      room binary32 = lit≤ tt
      room binary64 = lit≤ tt

  halved : Held (prec f) a → Halved f z s a
  halved w = go w.exponent w.is
    where
      go : (i : ℕ) → a ≡ w.digits * 2 ^ i → Halved f z s a
      go zero e = odd-half (subst (λ (t : ℕ). t < 2 ^ prec f) (sym (e ∙ mul-one w.digits)) w.small)
      go (suc j) e = even-half w.digits j w.small (e ∙ ap (λ (t : ℕ). w.digits * t) (pow-succ' 2 j) ∙ mul_left_comm w.digits 2 (2 ^ j))

-- ---- as it is written: a factor of one half, or a divisor of two
pub over_two : (f : Format) (x y : Float) → Fin f x → Fin f y → negative y ≡ false → mag f y ≡ 2 * 2 ^ low f → Halved f (div f x y) (negative x) (mag f x)
over_two f x y p q s h =
    subst (λ (t : Bool). Halved f (div f x y) t (mag f x)) (ap (λ (t : Bool). unlike (negative x) t) s ∙ keep_right (negative x))
    (halved (div_is f x y p q (omega (arith, pow_pos (low f)))) (mag f x) (omega (arith, ap (λ (t : ℕ). mag f x * t) h)) (mag-below f x p) (held f x p))

-- ---- doubling by a factor of two
pub twice : (f : Format) (y x : Float) → Fin f y → Fin f x → negative y ≡ false → mag f y ≡ 2 * 2 ^ low f → 2 * mag f x < 2 ^ (low f + suc (emax f))
    → Fin f (mul f y x) × (val f (mul f y x) ≡ signed (negative x) (2 * mag f x))
twice f y x q p s h small =
    let w = held f x p in
    let A : mag f y * mag f x ≡ w.digits * 2 ^ suc w.exponent * 2 ^ low f = doubled (mag f y) (mag f x) (2 ^ low f) w.digits w.exponent h w.is in
    let e : w.digits * 2 ^ suc w.exponent ≡ 2 * mag f x = next w.digits w.exponent ∙ ap (λ (t : ℕ). 2 * t) (sym w.is) in
    let r = round_exact (mul_is f y x q p) w.digits (suc w.exponent) A (le_of_lt w.small) (subst (λ (t : ℕ). t < 2 ^ (low f + suc (emax f))) (sym e) small) in
    (r.fin, r.value ∙ (λ i. signed ((ap (λ (t : Bool). unlike t (negative x)) s ∙ keep_left (negative x)) i) (e i)))
  where
    next : (c i : ℕ) → c * 2 ^ suc i ≡ 2 * (c * 2 ^ i)
    next c i = ap (λ (t : ℕ). c * t) (pow-succ' 2 i) ∙ mul_left_comm c 2 (2 ^ i)

    doubled : (y x l c i : ℕ) → y ≡ 2 * l → x ≡ c * 2 ^ i → y * x ≡ c * 2 ^ suc i * l
    doubled y x l c i h k = rw (h, k, next c i) (omega arith)
