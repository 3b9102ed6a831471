-- The order of floats is the order of their values, both ways.
use mathlib.Core.Path.{◌≡◌, ap}
use mathlib.Core.Logic.{◌⊎◌, inl, inr, ◌↔◌}
use Prim.Native.Nat.{ℕ, ◌+◌, ◌*◌, ◌^◌, ◌≤◌, ◌<◌}
use native.Mathlib.Nat.{mul-pos, lt_of_mul-lt-mul_right, mul-lt-mul_of_pos_right, eq_of_mul-eq-mul_right, eq-or-lt_of_le}
use native.Mathlib.Omega.{arith}
use mathlib.Core.Bool.{Bool, true, false, ◌&&◌, ◌||◌}
use lib.IntN.{ℤ}
use lib.Dec.{T, eqb, eqb→eq, ltb→lt, lt→ltb}
use lib.Pow.{pow_pos}
use lib.Ieee.{Float, nan, inf, fin, Format, low, up, down, lt, le, eq, below, level}
use lib.Ieee.Fits.{and_l, and_r, and_i, eq→eqb, down_pos}
use Rattle.algebra.specs.Integer.{◌≈◌, ◌≺◌, ◌≼◌}
use Rattle.rounding.specs.Value.{mag, signed, negative, val, Fin}
use Rattle.rounding.proofs.Value.{value_of, val-mag}
use Rattle.rounding.proofs.Add.{over_left, over_right}

-- ---- a * l = A * c: a / c is A units
scale_lt : (a b c A B l : ℕ) → 0 < l → a * l ≡ A * c → b * l ≡ B * c → a < b → A < B
scale_lt a b c A B l L p q h = lt_of_mul-lt-mul_right c (omega (arith, mul-lt-mul_of_pos_right h L))

scale_eq : (a b c A B l : ℕ) → 0 < c → a * l ≡ A * c → b * l ≡ B * c → a ≡ b → A ≡ B
scale_eq a b c A B l C p q h = eq_of_mul-eq-mul_right c C A B (omega (arith, ap (λ (z : ℕ). z * l) h))

flip : (a c A l : ℕ) → a * l ≡ A * c → A * c ≡ a * l
flip a c A l p = omega arith

module _ (a b c A B l : ℕ) (C : 0 < c) (L : 0 < l) (p : a * l ≡ A * c) (q : b * l ≡ B * c) where
  below_is : (s t : Bool) → T (below s a t b) ↔ (signed s A ≺ signed t B)
  below_is false false = (
    λ h. let x = scale_lt a b c A B l L p q (ltb→lt a b h) in omega arith,
    λ h. lt→ltb a b (scale_lt A B l a b c C (flip a c A l p) (flip b c B l q) (omega arith)),
  )
  below_is false true = (λ h. absurd h, λ h. absurd (omega arith))
  below_is true false = (
    λ h. let x = scale_lt 0 (a + b) c 0 (A + B) l L (omega arith) (omega arith) (ltb→lt 0 (a + b) h) in omega arith,
    λ h. lt→ltb 0 (a + b) (scale_lt 0 (A + B) l 0 (a + b) c C (omega arith) (omega arith) (omega arith)),
  )
  below_is true true = (
    λ h. let x = scale_lt b a c B A l L q p (ltb→lt b a h) in omega arith,
    λ h. lt→ltb b a (scale_lt B A l b a c C (flip b c B l q) (flip a c A l p) (omega arith)),
  )

  -- where the signs agree, and where they do not
  same_sign : T (eqb a b && true) ↔ (A ≡ B)
  same_sign = (
    λ h. scale_eq a b c A B l C p q (eqb→eq a b (and_l (eqb a b) true h)),
    λ h. and_i (eqb a b) true (eq→eqb (scale_eq A B l a b c L (flip a c A l p) (flip b c B l q) h)) tt,
  )

  other_sign : T (eqb a b && eqb a 0) ↔ (A + B ≡ 0)
  other_sign = (
    λ h.
        let x = scale_eq a b c A B l C p q (eqb→eq a b (and_l (eqb a b) (eqb a 0) h)) in
        let y = scale_eq a 0 c A 0 l C p (omega arith) (eqb→eq a 0 (and_r (eqb a b) (eqb a 0) h)) in
        omega arith,
    λ h. and_i (eqb a b) (eqb a 0) (eq→eqb (scale_eq A B l a b c L (flip a c A l p) (flip b c B l q) (omega arith))) (eq→eqb (scale_eq A 0 l a 0 c L (flip a c A l p) (omega arith) (omega arith))),
  )

  level_is : (s t : Bool) → T (level s a t b) ↔ (signed s A ≈ signed t B)
  level_is false false = (λ h. let x = same_sign.0 h in omega arith, λ h. same_sign.1 (omega arith))
  level_is false true = (λ h. let x = other_sign.0 h in omega arith, λ h. other_sign.1 (omega arith))
  level_is true false = (λ h. let x = other_sign.0 h in omega arith, λ h. other_sign.1 (omega arith))
  level_is true true = (λ h. let x = same_sign.0 h in omega arith, λ h. same_sign.1 (omega arith))

-- ---- the laws
-- what holds of two finite floats over their common denominator, which is a * 2 ^ low = A * c and b * 2 ^ low = B * c, holds of their values
on_finite : (f : Format) (P : Float → Float → Type 0)
    → ((s t : Bool) (m n : ℕ) (e d : ℤ) → (c : ℕ) → 0 < c → m * up e * down d * 2 ^ low f ≡ mag f (fin s m e) * c → n * up d * down e * 2 ^ low f ≡ mag f (fin t n d) * c → P (fin s m e) (fin t n d))
    → (x y : Float) → Fin f x → Fin f y → P x y
unfolding Fin
on_finite f P h nan y p q = absurd p
on_finite f P h (inf s) y p q = absurd p
on_finite f P h (fin s m e) nan p q = absurd q
on_finite f P h (fin s m e) (inf t) p q = absurd q
on_finite f P h (fin s m e) (fin t n d) p q =
    h s t m n e d (down e * down d) (mul-pos (down_pos e) (down_pos d))
    (over_left (m * up e) (down e) (2 ^ low f) (mag f (fin s m e)) (down d) (value_of f (fin s m e) p).1)
    (over_right (n * up d) (down d) (2 ^ low f) (mag f (fin t n d)) (down e) (value_of f (fin t n d) q).1)

pub lt_is : (f : Format) (x y : Float) → Fin f x → Fin f y → T (lt x y) ↔ (val f x ≺ val f y)
unfolding lt val
lt_is f =
    on_finite f (λ x y. T (lt x y) ↔ (val f x ≺ val f y))
    (λ s t m n e d c C p q. below_is (m * up e * down d) (n * up d * down e) c (mag f (fin s m e)) (mag f (fin t n d)) (2 ^ low f) C (pow_pos (low f)) p q s t)

pub eq_is : (f : Format) (x y : Float) → Fin f x → Fin f y → T (eq x y) ↔ (val f x ≈ val f y)
unfolding eq val
eq_is f =
    on_finite f (λ x y. T (eq x y) ↔ (val f x ≈ val f y))
    (λ s t m n e d c C p q. level_is (m * up e * down d) (n * up d * down e) c (mag f (fin s m e)) (mag f (fin t n d)) (2 ^ low f) C (pow_pos (low f)) p q s t)

or_split : (a b : Bool) → T (a || b) → T a ⊎ T b
or_split true b t = inl tt
or_split false b t = inr t

or_left : (a b : Bool) → T a → T (a || b)
or_left true b t = tt
or_left false b t = absurd t

or_right : (a b : Bool) → T b → T (a || b)
or_right true b t = tt
or_right false b t = t

pub le_is : (f : Format) (x y : Float) → Fin f x → Fin f y → T (le x y) ↔ (val f x ≼ val f y)
unfolding le
le_is f x y p q = (
  λ h. elim (or_split (lt x y) (eq x y) h) [ inl u ↦ let z = (lt_is f x y p q).0 u in omega arith | inr u ↦ let z = (eq_is f x y p q).0 u in omega arith ],
  λ h. elim (eq-or-lt_of_le h) [ inl u ↦ or_right (lt x y) (eq x y) ((eq_is f x y p q).1 u) | inr u ↦ or_left (lt x y) (eq x y) ((lt_is f x y p q).1 u) ],
)

pub lt-le : (x y : Float) → T (lt x y) → T (le x y)
unfolding le
lt-le x y = or_left (lt x y) (eq x y)

-- ---- of two numbers that are not negative it is the order of their sizes
module _ (f : Format) (x y : Float) (p : Fin f x) (q : Fin f y) (s : negative x ≡ false) (t : negative y ≡ false) where
  pub lt_sizes : T (lt x y) → mag f x < mag f y
  lt_sizes h = let l = rw (val-mag f x s, val-mag f y t) at ((lt_is f x y p q).0 h) in omega arith

  pub le_sizes : T (le x y) ↔ (mag f x ≤ mag f y)
  le_sizes = let o = rw (val-mag f x s, val-mag f y t) at (le_is f x y p q) in (λ h. let l = o.0 h in omega arith, λ h. o.1 (omega arith))
