-- For every f64 a sum does not depend on the order of its terms, a difference turned round has the same size, and hypot depends on sizes alone.
use Prim.Native.Nat.{ℕ, zero, suc, ◌+◌, ◌-◌, ◌*◌, ◌^◌}
use native.Mathlib.Omega.{arith}
use native.Mathlib.Nat.{mul_comm, add_comm}
use native.Mathlib.Decide.{dec_lt}
use mathlib.Core.Path.{◌≡◌, refl, sym, ap, ap₂, ◌∙◌}
use mathlib.Core.Bool.{Bool, true, false, not, cond, not-not}
use lib.Dec.{ltb}
use lib.Ieee.{Float, nan, inf, fin, Format, neg, add, sub, sum, round, units, odd, up, down, low, prec, emax}
use borrow.Author.Tests.{lt-ltb, le-ltb}
use Rattle.rounding.specs.Root.{hypot}
use Rattle.rounding.proofs.root.Hypot.{special_hypots, hypot_swapped, hypot_negated}
use Rattle.scope.specs.Numbers.{abs}

-- ---- sums

opposite_comm : (f : Format) (a b c : ℕ) → sum f true a false b c ≡ sum f false b true a c
unfolding sum
opposite_comm f a b c =
    elim (dec_lt a b) [
      | yes l ↦ rw (lt-ltb a b l, le-ltb b a (omega arith))
      | no g ↦ elim (dec_lt b a) [
        | yes l ↦ rw (lt-ltb b a l, le-ltb a b (omega arith))
        | no h ↦ let e : a ≡ b = omega arith in rw (e, le-ltb b b (omega arith))
      ]
    ]

sum_comm : (f : Format) (s : Bool) (a : ℕ) (t : Bool) (b c : ℕ) → sum f s a t b c ≡ sum f t b s a c
unfolding sum
sum_comm f true a true b c = rw (add_comm a b)
sum_comm f false a false b c = rw (add_comm a b)
sum_comm f true a false b c = opposite_comm f a b c
sum_comm f false a true b c = sym (opposite_comm f b a c)

pub add_swapped : (f : Format) (x y : Float) → add f x y ≡ add f y x
unfolding add
add_swapped f nan nan = refl
add_swapped f nan (inf t) = refl
add_swapped f nan (fin t n d) = refl
add_swapped f (inf s) nan = refl
add_swapped f (inf true) (inf true) = refl
add_swapped f (inf true) (inf false) = refl
add_swapped f (inf false) (inf true) = refl
add_swapped f (inf false) (inf false) = refl
add_swapped f (inf s) (fin t n d) = refl
add_swapped f (fin s m e) nan = refl
add_swapped f (fin s m e) (inf t) = refl
add_swapped f (fin s m e) (fin t n d) =
    sum_comm f s (m * up e * down d) t (n * up d * down e) (down e * down d) ∙ ap (sum f t (n * up d * down e) s (m * up e * down d)) (mul_comm (down e) (down d))

-- ---- sizes: no sign has a part in them

abs-cond : (b : Bool) (x y z w : Float) → abs x ≡ abs z → abs y ≡ abs w → abs (cond b x y) ≡ abs (cond b z w)
abs-cond true x y z w p q = p
abs-cond false x y z w p q = q

abs-odd : (d : ℕ) (s t : Bool) (q k l : ℕ) → abs (odd d s q k l) ≡ abs (odd d t q k l)
unfolding odd abs
abs-odd d s t zero k l = refl
abs-odd d s t (suc q) k l = refl

abs-units : (f : Format) (s t : Bool) (q k : ℕ) → abs (units f s q k) ≡ abs (units f t q k)
unfolding units abs
abs-units f s t q k =
    abs-cond (ltb (q * 2 ^ k) (2 ^ (low f + suc (emax f)))) (odd (suc (prec f)) s q k (low f)) (inf s) (odd (suc (prec f)) t q k (low f)) (inf t)
    (abs-odd (suc (prec f)) s t q k (low f)) refl

abs-round : (f : Format) (s t : Bool) (a c : ℕ) → abs (round f s a c) ≡ abs (round f t a c)
unfolding round
abs-round f s t a c = abs-units f s t _ _

abs-sum : (f : Format) (s : Bool) (a : ℕ) (t : Bool) (b c : ℕ) → abs (sum f s a t b c) ≡ abs (sum f (not s) a (not t) b c)
unfolding sum
abs-sum f true a true b c = abs-round f true false (a + b) c
abs-sum f false a false b c = abs-round f false true (a + b) c
abs-sum f true a false b c = abs-cond (ltb a b) _ _ _ _ (abs-round f _ _ (b - a) c) (abs-round f _ _ (a - b) c)
abs-sum f false a true b c = abs-cond (ltb a b) _ _ _ _ (abs-round f _ _ (b - a) c) (abs-round f _ _ (a - b) c)

abs-add : (f : Format) (x y : Float) → abs (add f x y) ≡ abs (add f (neg x) (neg y))
unfolding add neg abs
abs-add f nan y = refl
abs-add f (inf s) nan = refl
abs-add f (inf true) (inf true) = refl
abs-add f (inf true) (inf false) = refl
abs-add f (inf false) (inf true) = refl
abs-add f (inf false) (inf false) = refl
abs-add f (inf s) (fin t n d) = refl
abs-add f (fin s m e) nan = refl
abs-add f (fin s m e) (inf t) = refl
abs-add f (fin s m e) (fin t n d) = abs-sum f s (m * up e * down d) t (n * up d * down e) (down e * down d)

neg-neg : (x : Float) → neg (neg x) ≡ x
unfolding neg
neg-neg nan = refl
neg-neg (inf s) = ap (λ (t : Bool). inf t) (not-not s)
neg-neg (fin s m e) = ap (λ (t : Bool). fin t m e) (not-not s)

pub difference_swapped : (f : Format) (x y : Float) → abs (sub f x y) ≡ abs (sub f y x)
unfolding sub
difference_swapped f x y = abs-add f x (neg y) ∙ ap (λ (z : Float). abs (add f (neg x) z)) (neg-neg y) ∙ ap abs (add_swapped f (neg x) y)

-- ---- hypot takes only the sizes

size-first : (f : Format) (x y : Float) → hypot f x y ≡ hypot f (abs x) y
unfolding abs neg
size-first f nan y = refl
size-first f (inf s) y = (special_hypots f).infinity-first s y ∙ sym ((special_hypots f).infinity-first false y)
size-first f (fin true m e) y = sym (hypot_negated f (fin true m e) y)
size-first f (fin false m e) y = refl

hypot_of_sizes : (f : Format) (x y : Float) → hypot f x y ≡ hypot f (abs x) (abs y)
hypot_of_sizes f x y = size-first f x y ∙ hypot_swapped f (abs x) y ∙ size-first f y (abs x) ∙ hypot_swapped f (abs y) (abs x)

pub hypot_of_same_sizes : (f : Format) (x y z w : Float) → abs x ≡ abs z → abs y ≡ abs w → hypot f x y ≡ hypot f z w
hypot_of_same_sizes f x y z w h k = hypot_of_sizes f x y ∙ ap₂ (hypot f) h k ∙ sym (hypot_of_sizes f z w)
