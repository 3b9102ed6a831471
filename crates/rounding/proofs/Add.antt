-- Sum and difference: each is one rounding of the exact sum, which is a whole number of units; on a common grid nothing is lost.
use mathlib.Core.Path.{◌≡◌, refl, sym, ap, ◌∙◌, subst}
use mathlib.Core.Logic.{◌⊎◌, inl, inr}
use Prim.Native.Nat.{ℕ, ◌+◌, ◌-◌, ◌*◌, ◌^◌, ◌≤◌, ◌<◌}
use native.Mathlib.Nat.{le_of_lt, mul-le-mul_right, le_of_mul-le-mul_right, mul-pos, mul-one, sub-add_cancel}
use native.Mathlib.Omega.{arith}
use mathlib.Core.Bool.{Bool, true, false, not, cond, true≢false}
use lib.Dec.{T, ltb, ltb→lt, nltb→le}
use lib.Pow.{pow_pos}
use lib.Ieee.{Float, nan, inf, fin, Format, prec, emax, low, up, down, round, sum, add, sub, neg}
use lib.Ieee.Fits.{down_pos}
use lib.Ieee.Scale.{finite}
use Rattle.algebra.specs.Integer.{Z, nat, Within, ◌⊕◌, ◌⊖◌, ◌≈◌}
use Rattle.algebra.proofs.Size as algebra
use Rattle.rounding.specs.Value.{mag, signed, negative, val, Fin}
use Rattle.rounding.proofs.Value.{value_of, val-mag}
use Rattle.rounding.proofs.Rounded.{RoundOf, Rounded, Relative, recast, round-near, round_relative, round-below, sign_kept}
use Rattle.rounding.proofs.Negate.{neg-val, neg-fin}

-- ---- two fractions a / c and b / c, which are A and B units
order : (a b c A B l : ℕ) → 0 < c → a * l ≡ A * c → b * l ≡ B * c → b ≤ a → B ≤ A
order a b c A B l C p q h = le_of_mul-le-mul_right {k = c} (omega (arith, mul-le-mul_right l h)) C

differ : (a b c A B l : ℕ) → a * l ≡ A * c → b * l ≡ B * c → b ≤ a → B ≤ A → (a - b) * l ≡ (A - B) * c
differ a b c A B l p q h k = omega (arith, ap (λ (z : ℕ). z * l) (sub-add_cancel h), ap (λ (z : ℕ). z * c) (sub-add_cancel k))

-- ---- z is one rounding of num / c, which is `size` units and has the exact value v
pub record Summed (f : Format) (z : Float) (c A B : ℕ) (v : Z) : Type 0 where
  pub sign : Bool
  pub num : ℕ
  pub size : ℕ
  pub is : z ≡ round f sign num c
  pub units : num * 2 ^ low f ≡ size * c
  pub value : signed sign size ≈ v
  pub parts : (size ≡ A + B) ⊎ ((size + B ≡ A) ⊎ (size + A ≡ B))

module _ (f : Format) (a b c A B : ℕ) (C : 0 < c) (p : a * 2 ^ low f ≡ A * c) (q : b * 2 ^ low f ≡ B * c) where
  more : (s : Bool) (v : Z) → b ≤ a → (B ≤ A → signed s (A - B) ≈ v) → Summed f (round f s (a - b) c) c A B v
  more s v h w =
      let g : B ≤ A = order a b c A B (2 ^ low f) C p q h in
      record { sign = s; num = a - b; size = A - B; is = refl; units = differ a b c A B (2 ^ low f) p q h g; value = w g; parts = inr (inl (omega arith)) }

  less : (s : Bool) (v : Z) → a ≤ b → (A ≤ B → signed s (B - A) ≈ v) → Summed f (round f s (b - a) c) c A B v
  less s v h w =
      let g : A ≤ B = order b a c B A (2 ^ low f) C q p h in
      record { sign = s; num = b - a; size = B - A; is = refl; units = differ b a c B A (2 ^ low f) q p h g; value = w g; parts = inr (inr (omega arith)) }

  sum_is : (s t : Bool) → Summed f (sum f s a t b c) c A B (signed s A ⊕ signed t B)
  unfolding sum
  sum_is false false = record { sign = false; num = a + b; size = A + B; is = refl; units = omega arith; value = omega arith; parts = inl refl }
  sum_is true true = record { sign = true; num = a + b; size = A + B; is = refl; units = omega arith; value = omega arith; parts = inl refl }
  sum_is false true = go (ltb a b) (ltb→lt a b) (nltb→le a b)
    where
      go : (u : Bool) → (T u → a < b) → (T (not u) → b ≤ a) → Summed f (cond u (round f true (b - a) c) (round f false (a - b) c)) c A B (signed false A ⊕ signed true B)
      go true l g = less true (signed false A ⊕ signed true B) (le_of_lt (l tt)) (omega arith)
      go false l g = more false (signed false A ⊕ signed true B) (g tt) (omega arith)
  sum_is true false = go (ltb a b) (ltb b a) (ltb→lt a b) (nltb→le a b) (nltb→le b a)
    where
      go : (u v : Bool) → (T u → a < b) → (T (not u) → b ≤ a) → (T (not v) → a ≤ b)
          → Summed f (cond u (round f false (b - a) c) (round f v (a - b) c)) c A B (signed true A ⊕ signed false B)
      go true v l g g' = less false (signed true A ⊕ signed false B) (le_of_lt (l tt)) (omega arith)
      go false true l g g' = more true (signed true A ⊕ signed false B) (g tt) (omega arith)
      go false false l g g' = more false (signed true A ⊕ signed false B) (g tt) (let w' : A ≤ B = order b a c B A (2 ^ low f) C q p (g' tt) in omega arith)

-- ---- two floats over their common denominator
pub bottom : Float → ℕ
bottom nan = 1
bottom (inf s) = 1
bottom (fin s m e) = down e

pub bottom_pos : (x : Float) → 0 < bottom x
unfolding bottom
bottom_pos nan = pow_pos 0
bottom_pos (inf s) = pow_pos 0
bottom_pos (fin s m e) = down_pos e

-- m * up e / down e is A units, so m * up e * d / (down e * d) is too
pub over_left : (m e l A d : ℕ) → m * l ≡ A * e → m * d * l ≡ A * (e * d)
over_left m e l A d h = omega (arith, ap (λ (z : ℕ). z * d) h)

pub over_right : (m e l A d : ℕ) → m * l ≡ A * e → m * d * l ≡ A * (d * e)
over_right m e l A d h = omega (arith, ap (λ (z : ℕ). z * d) h)

pub add_is : (f : Format) (x y : Float) → Fin f x → Fin f y → Summed f (add f x y) (bottom x * bottom y) (mag f x) (mag f y) (val f x ⊕ val f y)
unfolding add val Fin bottom
add_is f nan y p q = absurd p
add_is f (inf s) y p q = absurd p
add_is f (fin s m e) nan p q = absurd q
add_is f (fin s m e) (inf t) p q = absurd q
add_is f (fin s m e) (fin t n d) p q =
    sum_is f (m * up e * down d) (n * up d * down e) (down e * down d) (mag f (fin s m e)) (mag f (fin t n d)) (mul-pos (down_pos e) (down_pos d))
    (over_left (m * up e) (down e) (2 ^ low f) (mag f (fin s m e)) (down d) (value_of f (fin s m e) p).1)
    (over_right (n * up d) (down d) (2 ^ low f) (mag f (fin t n d)) (down e) (value_of f (fin t n d) q).1)
    s t

pub signed-size : (s : Bool) (a b : ℕ) (v : Z) → signed s a ≈ v → Within v b → a ≤ b
signed-size false a b v h w = omega arith
signed-size true a b v h w = omega arith

-- ---- the laws
sum-round : (f : Format) (x y : Float) (p : Fin f x) (q : Fin f y) → RoundOf f (add f x y) (add_is f x y p q).sign (add_is f x y p q).size 1
sum-round f x y p q =
    let r = add_is f x y p q in
    record { num = r.num; den = bottom x * bottom y; den_pos = mul-pos (bottom_pos x) (bottom_pos y); d-pos = pow_pos 0; is = r.is; units = mul-one (r.num * 2 ^ low f) ∙ r.units }

pub add-near : (f : Format) (x y : Float) (k : ℕ) → Fin f x → Fin f y → prec f + k ≤ low f + emax f → Within (val f x ⊕ val f y) (2 ^ (prec f + k))
    → Rounded f (add f x y) (val f x ⊕ val f y) 1 k
add-near f x y k p q o h =
    let r = add_is f x y p q in
    let a = signed-size r.sign r.size (2 ^ (prec f + k)) (val f x ⊕ val f y) r.value h in
    recast r.value (round-near (sum-round f x y p q) k (omega arith) o)

-- no range asked: the result is finite
pub add_relative : (f : Format) (x y : Float) → Fin f x → Fin f y → T (finite (add f x y)) → Relative f (add f x y) (algebra.size (val f x ⊕ val f y)) 1
add_relative f x y p q t =
    let r = add_is f x y p q in
    subst (λ (a : ℕ). Relative f (add f x y) a 1) (same_size r.sign r.size (val f x ⊕ val f y) r.value) (round_relative (sum-round f x y p q) t)
  where
    same_size : (s : Bool) (a : ℕ) (v : Z) → signed s a ≈ v → a ≡ algebra.size v
    same_size false a v h = elim (algebra.size_cases v) [ inl k ↦ omega arith | inr k ↦ omega arith ]
    same_size true a v h = elim (algebra.size_cases v) [ inl k ↦ omega arith | inr k ↦ omega arith ]

-- ---- the difference is the sum with the opposite
module _ (f : Format) (x y : Float) (p : Fin f x) (q : Fin f y) where
  pub sub-near : (k : ℕ) → prec f + k ≤ low f + emax f → Within (val f x ⊖ val f y) (2 ^ (prec f + k)) → Rounded f (sub f x y) (val f x ⊖ val f y) 1 k
  sub-near k o h =
      unfold sub in
      subst (λ (z : Z). Rounded f (add f x (neg y)) (val f x ⊕ z) 1 k) (neg-val f y)
      (add-near f x (neg y) k p (neg-fin f y q) o (subst (λ (z : Z). Within (val f x ⊕ z) (2 ^ (prec f + k))) (sym (neg-val f y)) h))

  pub sub_relative : T (finite (sub f x y)) → Relative f (sub f x y) (algebra.size (val f x ⊖ val f y)) 1
  sub_relative t = unfold sub in subst (λ (z : Z). Relative f (add f x (neg y)) (algebra.size (val f x ⊕ z)) 1) (neg-val f y) (add_relative f x (neg y) p (neg-fin f y q) t)

-- ---- a sum of two floats that are not negative is not negative, finite or not: a NaN counts as not negative
pub add-sign : (f : Format) (x y : Float) → negative x ≡ false → negative y ≡ false → negative (add f x y) ≡ false
unfolding add sum negative
add-sign f nan y h k = refl
add-sign f (inf s) nan h k = refl
add-sign f (inf true) (inf t) h k = absurd (true≢false h)
add-sign f (inf false) (inf true) h k = absurd (true≢false k)
add-sign f (inf false) (inf false) h k = refl
add-sign f (inf s) (fin t n d) h k = h
add-sign f (fin s m e) nan h k = refl
add-sign f (fin s m e) (inf t) h k = k
add-sign f (fin true m e) (fin t n d) h k = absurd (true≢false h)
add-sign f (fin false m e) (fin true n d) h k = absurd (true≢false k)
add-sign f (fin false m e) (fin false n d) h k = sign_kept f false (m * up e * down d + n * up d * down e) (down e * down d)

-- so its size is the rounding of the sum of theirs
module _ (f : Format) (x y : Float) (p : Fin f x) (q : Fin f y) (s : negative x ≡ false) (t : negative y ≡ false) where
  pub sizes_summed : RoundOf f (add f x y) (add_is f x y p q).sign (mag f x + mag f y) 1
  sizes_summed =
      let r = add_is f x y p q in
      subst (λ (a : ℕ). RoundOf f (add f x y) r.sign a 1) (size_is r.sign r.size (mag f x) (mag f y) (rw (val-mag f x s, val-mag f y t) at r.value)) (sum-round f x y p q)
    where
      size_is : (s : Bool) (a x y : ℕ) → signed s a ≈ nat x ⊕ nat y → a ≡ x + y
      size_is true a x y h = omega arith
      size_is false a x y h = omega arith

  pub sum_relative : T (finite (add f x y)) → Relative f (add f x y) (mag f x + mag f y) 1
  sum_relative = round_relative sizes_summed

  pub sum_below : (k : ℕ) → mag f x + mag f y ≤ 2 ^ (prec f + k) * 1 → prec f + k ≤ low f + emax f → Relative f (add f x y) (mag f x + mag f y) 1
  sum_below = round-below sizes_summed
