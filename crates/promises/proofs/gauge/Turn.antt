-- The turn's cosine and sine: c² + s² is 1 within 2^-49, and dx*s + dy*c, where the second centre comes out, is 0 within 2^-52 of their sizes, for any two
-- finite lengths that are not both 0, however small.
-- Of a = dx/m and b = dy/m one is 1 in size but for 2^-54, so their root h is not small, and what each rounding adds is small against it.
use mathlib.Core.Path.{◌≡◌, refl, ap, ◌∙◌, subst}
use mathlib.Core.Logic.{◌⊎◌, inl, inr}
use mathlib.Core.Bool.{Bool, true, false, ◌&&◌}
use Prim.Native.Nat.{ℕ, ◌+◌, ◌-◌, ◌*◌, ◌^◌, ◌≤◌, ◌<◌}
use native.Mathlib.Nat.{mul-le-mul, mul-le-mul_right, mul-le-mul_left, le_of_mul-le-mul_right, mul-pos, le_trans}
use native.Mathlib.Omega.{arith}
use lib.Dec.{T, lit≤}
use lib.Ieee.{Float, binary64, neg, eq, fits, unlike}
use Rattle.algebra.specs.Integer.{Z, ◌⊕◌, ◌⊖◌, ◌⊗◌, ◌≈◌, nat, opp, Within, Near}
use Rattle.algebra.proofs.Size.{either, within-mul, within_difference}
use Rattle.algebra.proofs.Squares.{square_le}
use Rattle.rounding.specs.Value.{mag, negative, signed, val, Fin}
use Rattle.rounding.specs.Scale.{pow2}
use Rattle.rounding.specs.Root.{root}
use Rattle.rounding.specs.Extremes.{maximum}
use Rattle.rounding.proofs.Value.{val-mag}
use Rattle.rounding.proofs.Double.{Close, add64, mul64, div64, pow2_scale}
use Rattle.rounding.proofs.Add.{add-sign}
use Rattle.rounding.proofs.Multiply.{square-sign}
use Rattle.rounding.proofs.root.Operation.{root-near}
use Rattle.rounding.proofs.Negate.{neg-mag, neg-val, neg-fin}
use Rattle.rounding.proofs.Order.{eq_is}
use Rattle.rounding.proofs.Extremes.{maximum_one_of, maximum-either, maximum_greatest}
use Rattle.scope.specs.Numbers.{◌+ᶠ◌, ◌*ᶠ◌, ◌/ᶠ◌, nought, abs}
use Rattle.scope.specs.Gauge.{Turn, turn, level}
use Rattle.scope.specs.Promises.{units, square}
use Rattle.laws.proofs.Cases.{and_iff, or_iff}
use Rattle.promises.proofs.numbers.Magnitude.{one-pos, mag-le, within-mag, mag-square, close_sizes, abs-fin, abs_mag, abs-sign}
use Rattle.promises.proofs.gauge.Carried.{Unit-turn}

abbrev size : Float → ℕ
size x = mag binary64 x

-- ---- over ℕ: L is 1, e is 2^-54, all in units. c is a / h
module _ (c h a L e : ℕ) (l : a ≤ L) (above : c * h ≤ a * L + 2 * (e * h)) where
  quotient_square_above : c * c * (h * h) ≤ a * a * (L * L) + 4 * (e * h * (L * L)) + 4 * (e * e * (h * h))
  quotient_square_above = omega (arith, mul-le-mul above above, mul-le-mul_left (4 * (e * h * L)) l)

  quotient_square_below : a * L ≤ c * h + 2 * (e * h) → a * a * (L * L) ≤ c * c * (h * h) + 4 * (e * h * (L * L)) + 12 * (e * e * (h * h))
  quotient_square_below below = omega (arith, mul-le-mul below below, mul-le-mul_left (4 * (e * h)) above, mul-le-mul_left (4 * (e * h * L)) l)

-- T is a² + b², S its rounded value, h the rounded root, K is c² + s²
module _ (L e : ℕ) (fine : 1000 * e ≤ L) where
  -- x, one of a and b, is 1 but for e
  root_not_small : (T S h x : ℕ) → L ≤ x + e → x ≤ L → x * x ≤ T → T ≤ S * L + 4 * (e * L) → S * L ≤ (h + 2 * e) * (h + 2 * e) → 3 * L ≤ 4 * h
  root_not_small T S h x full l t s r =
      let z : 3 * L + 8 * e ≤ 4 * h + 8 * e =
      square_le (3 * L + 8 * e) (4 * h + 8 * e) (omega (arith, mul-le-mul full full, mul-le-mul_left e l, mul-le-mul_left e fine, mul-le-mul_left L fine)) in
      omega arith

  module _ (K T S h : ℕ) (tall : 3 * L ≤ 4 * h) (L-pos : 0 < L) where
    tall-square : L * L * 9 ≤ 16 * (h * h)
    tall-square = omega (arith, mul-le-mul tall tall)

    square-pos : 0 < h * h
    square-pos = omega (arith, tall-square, mul-pos L-pos L-pos)

    turn_square_above : h * h * K ≤ L * L * T + 8 * (e * h * (L * L)) + 8 * (e * e * (h * h)) → T ≤ S * L + 4 * (e * L) → S * L ≤ (h + 2 * e) * (h + 2 * e) → K ≤ L * L + 32 * (e * L)
    turn_square_above k t s =
        le_of_mul-le-mul_right {k = h * h}
        (omega (arith, k, mul-le-mul_left (L * L) t, mul-le-mul_left (L * L) s, mul-le-mul_left (4 * (e * h * L)) tall, mul-le-mul_left (e * L) tall-square, mul-le-mul_left (e * e) tall-square, mul-le-mul_left (e * h * h) fine))
        square-pos

    turn_square_below : (g : ℕ) → h ≡ g + 2 * e → g * g ≤ S * L → L * L * T ≤ h * h * K + 8 * (e * h * (L * L)) + 24 * (e * e * (h * h)) → S * L ≤ T + 4 * (e * L) → L * L ≤ K + 32 * (e * L)
    turn_square_below g q s k t =
        let w : h * h ≤ S * L + 4 * (e * h) = omega (arith, ap (λ (z : ℕ). z * z) q, ap (λ (z : ℕ). e * z) q) in
        le_of_mul-le-mul_right {k = h * h}
        (omega (arith, k, mul-le-mul_left (L * L) t, mul-le-mul_left (L * L) w, mul-le-mul_left (4 * (e * h * L)) tall, mul-le-mul_left (e * L) tall-square, mul-le-mul_left (e * e) tall-square, mul-le-mul_left (e * h * h) fine))
        square-pos

-- ---- a rounded quotient times its divisor
quotient_times : (x y : Float) {e b : ℕ} → Close (x /ᶠ y) (signed (unlike (negative x) (negative y)) (size x * pow2 60)) (size y) e b
    → Near (units (x /ᶠ y) ⊗ units y) (units x ⊗ nat (pow2 60)) (e * size y)
unfolding val
quotient_times x y {e} r = go (negative x) (negative y) (size x) (size y) (units (x /ᶠ y)) r.near
  where
    go : (s t : Bool) (A B : ℕ) (z : Z) → Near (z ⊗ nat B) (signed (unlike s t) (A * pow2 60)) (e * B) → Near (z ⊗ signed t B) (signed s A ⊗ nat (pow2 60)) (e * B)
    go false false A B z h = omega arith
    go false true A B z h = omega arith
    go true false A B z h = omega arith
    go true true A B z h = omega arith

-- ---- a and b: quotients of size at most 1
record Ratio (x m a : Float) : Type 0 where
  fin : Fin binary64 a
  times : Near (units a ⊗ units m) (units x ⊗ nat (pow2 60)) (pow2 6 * size m)
  small : size a ≤ pow2 60
  full : size m ≡ size x → pow2 60 ≤ size a + pow2 6

ratio : (x m : Float) → Fin binary64 x → Fin binary64 m → 0 < size m → size x ≤ size m → Ratio x m (x /ᶠ m)
ratio x m p q some l =
    let r = div64 6 tt x m p q some (omega (arith, mul-le-mul_left (pow2 60) l)) in
    let sizes = close_sizes (unlike (negative x) (negative m)) (size x * pow2 60) refl r in
    record { fin = r.fin; times = quotient_times x m r; small = mag-le (x /ᶠ m) (pow2 60) r.within; full = λ h. cancel (size (x /ᶠ m)) (size m) (pow2 60) (pow2 6) (size x) some sizes.1 h }
  where
    cancel : (A M L e D : ℕ) → 0 < M → D * L ≤ A * M + e * M → M ≡ D → L ≤ A + e
    cancel A M L e D p h q = le_of_mul-le-mul_right {k = M} (omega (arith, ap (λ (z : ℕ). z * L) q)) p

record Squared (a z : Float) : Type 0 where
  fin : Fin binary64 z
  sign : negative z ≡ false
  above : size z * pow2 60 ≤ size a * size a + pow2 6 * pow2 60
  below : size a * size a ≤ size z * pow2 60 + pow2 6 * pow2 60
  small : size z ≤ pow2 60

squared : (a : Float) → Fin binary64 a → size a ≤ pow2 60 → Squared a (a *ᶠ a)
squared a p l =
    let w = within-mag a (pow2 60) l in
    let r = mul64 6 tt a a p p (within-mul w w) in
    let sizes = close_sizes false (size a * size a) (mag-square a) r in
    record { fin = r.fin; sign = square-sign binary64 a; above = sizes.0; below = sizes.1; small = mag-le (a *ᶠ a) (pow2 60) r.within }

-- ---- h: S is a² + b² within 2^-52, and h its root within 2^-53
record Rooted (S h : Float) : Type 0 where
  fin : Fin binary64 h
  above : (size h - 2 * pow2 6) * (size h - 2 * pow2 6) ≤ size S * pow2 60
  below : size S * pow2 60 ≤ (size h + 2 * pow2 6) * (size h + 2 * pow2 6)

rooted : (S : Float) → Fin binary64 S → negative S ≡ false → size S ≤ 2 * pow2 60 → Rooted S (root binary64 S)
unfolding pow2
rooted S p s l =
    let r = root-near binary64 S p s 1021 (lit≤ tt) (le_trans (mul-le-mul_right (2 ^ 1074) l) (lit≤ tt)) in
    record { fin = r.fin; above = r.above; below = r.below }

abbrev hypotenuse : Float → Float → Float
hypotenuse a b = root binary64 (a *ᶠ a +ᶠ b *ᶠ b)

record Hypotenuse (a b h : Float) : Type 0 where
  sum : ℕ
  fin : Fin binary64 h
  sum_below : size a * size a + size b * size b ≤ sum * pow2 60 + 4 * (pow2 6 * pow2 60)
  sum-above : sum * pow2 60 ≤ size a * size a + size b * size b + 4 * (pow2 6 * pow2 60)
  above : (size h - 2 * pow2 6) * (size h - 2 * pow2 6) ≤ sum * pow2 60
  below : sum * pow2 60 ≤ (size h + 2 * pow2 6) * (size h + 2 * pow2 6)

sum_of_squares : (A B S x y L e : ℕ) → S ≤ x + y + 2 * e → x + y ≤ S + 2 * e → x * L ≤ A + e * L → A ≤ x * L + e * L → y * L ≤ B + e * L → B ≤ y * L + e * L
    → (A + B ≤ S * L + 4 * (e * L)) × (S * L ≤ A + B + 4 * (e * L))
sum_of_squares A B S x y L e h k a a' b b' = (omega (arith, mul-le-mul_right L k), omega (arith, mul-le-mul_right L h))

module _ (a b : Float) (p : Fin binary64 a) (q : Fin binary64 b) (la : size a ≤ pow2 60) (lb : size b ≤ pow2 60) where
  hypotenuse_near : Hypotenuse a b (hypotenuse a b)
  hypotenuse_near =
      let x = squared a p la in
      let y = squared b q lb in
      let aa = a *ᶠ a in
      let bb = b *ᶠ b in
      let S = aa +ᶠ bb in
      let vx = val-mag binary64 aa x.sign in
      let vy = val-mag binary64 bb y.sign in
      let sign = add-sign binary64 aa bb x.sign y.sign in
      let r = add64 7 tt aa bb x.fin y.fin (rw (vx, vy) (omega (arith, x.small, y.small, pow2_scale 60 1))) in
      let near = close_sizes false (size aa + size bb) (rw (vx, vy) refl) r in
      let z = rooted S r.fin sign (omega (arith, mag-le S (pow2 61) r.within, pow2_scale 60 1)) in
      let sums =
      sum_of_squares (size a * size a) (size b * size b) (size S) (size aa) (size bb) (pow2 60) (pow2 6)
      (omega (arith, near.0, pow2_scale 6 1)) (omega (arith, near.1, pow2_scale 6 1)) x.above x.below y.above y.below in
      record { sum = size S; fin = z.fin; sum_below = sums.0; sum-above = sums.1; above = z.above; below = z.below }

-- ---- cosine and sine
-- c² + s² is within 2^-49 of 1, and each is at most 1 + 2^-49 in size
pub record Turned (t : Turn) : Type 0 where
  pub fin-cosine : Fin binary64 t.cosine
  pub fin-sine : Fin binary64 t.sine
  pub unit : Unit-turn (units t.cosine) (units t.sine)
  pub cosine-small : Within (units t.cosine) (pow2 60 + pow2 11)
  pub sine-small : Within (units t.sine) (pow2 60 + pow2 11)

record Cosine (a h c : Float) : Type 0 where
  fin : Fin binary64 c
  times : Near (units c ⊗ units h) (units a ⊗ nat (pow2 60)) (2 * pow2 6 * size h)
  above : size c * size h ≤ size a * pow2 60 + 2 * (pow2 6 * size h)
  below : size a * pow2 60 ≤ size c * size h + 2 * (pow2 6 * size h)

digit_small : 1000 * pow2 6 ≤ pow2 60
unfolding pow2
digit_small = lit≤ tt

over_root : (a h : Float) → Fin binary64 a → Fin binary64 h → size a ≤ pow2 60 → 3 * pow2 60 ≤ 4 * size h → Cosine a h (a /ᶠ h)
over_root a h p q l tall =
    let some = one-pos in
    let r = div64 7 tt a h p q (omega arith) (omega (arith, mul-le-mul_left (pow2 60) l, mul-le-mul_left (pow2 60) tall, ap (λ (z : ℕ). z * size h) (pow2_scale 60 1))) in
    let sizes = close_sizes (unlike (negative a) (negative h)) (size a * pow2 60) refl r in
    let double = ap (λ (z : ℕ). z * size h) (pow2_scale 6 1) in
    record { fin = r.fin; times = subst (λ (e : ℕ). Near (units (a /ᶠ h) ⊗ units h) (units a ⊗ nat (pow2 60)) (e * size h)) (pow2_scale 6 1) (quotient_times a h r); above = omega (arith, sizes.0, double); below = omega (arith, sizes.1, double) }

unit_of : (A B : Z) (x y m e f : ℕ) → A ≈ nat x → B ≈ nat y → f ≡ e → x + y ≤ m + e → m ≤ x + y + e → Near (A ⊕ B) (nat m) f
unit_of A B x y m e f h k q u d = omega arith

-- c² ≤ 1 + f gives c ≤ 1 + f
part_small : (c s L e f : ℕ) → c * c + s * s ≤ L * L + 32 * (e * L) → f ≡ 32 * e → c ≤ L + f
part_small c s L e f h q = square_le c (L + f) (omega (arith, ap (λ (z : ℕ). z * L) q))

module _ (a b : Float) (p : Fin binary64 a) (q : Fin binary64 b) (la : size a ≤ pow2 60) (lb : size b ≤ pow2 60) where
  hypotenuse_not_small : (x : Float) → pow2 60 ≤ size x + pow2 6 → size x ≤ pow2 60 → size x * size x ≤ size a * size a + size b * size b → 3 * pow2 60 ≤ 4 * size (hypotenuse a b)
  hypotenuse_not_small x full l t =
      let h = hypotenuse_near a b p q la lb in
      root_not_small (pow2 60) (pow2 6) digit_small (size a * size a + size b * size b) h.sum (size (hypotenuse a b)) (size x) full l t h.sum_below h.below

  quotients_turned : 3 * pow2 60 ≤ 4 * size (hypotenuse a b) → Turned (record { cosine = a /ᶠ hypotenuse a b; sine = neg (b /ᶠ hypotenuse a b) })
  quotients_turned tall =
      let L = pow2 60 in
      let e = pow2 6 in
      let root = hypotenuse_near a b p q la lb in
      let h = hypotenuse a b in
      let c = a /ᶠ h in
      let s = b /ᶠ h in
      let C = over_root a h p root.fin la tall in
      let S = over_root b h q root.fin lb tall in
      let T = size a * size a + size b * size b in
      let K = size c * size c + size s * size s in
      let H = size h in
      let above : K ≤ L * L + 32 * (e * L) =
      turn_square_above L e digit_small K T root.sum H tall one-pos
      (omega (arith, quotient_square_above (size c) H (size a) L e la C.above, quotient_square_above (size s) H (size b) L e lb S.above))
      root.sum_below root.below in
      let below : L * L ≤ K + 32 * (e * L) =
      turn_square_below L e digit_small K T root.sum H tall one-pos (H - 2 * e) (omega (arith, tall, digit_small, one-pos)) root.above
      (omega (arith, quotient_square_below (size c) H (size a) L e la C.above C.below, quotient_square_below (size s) H (size b) L e lb S.above S.below))
      root.sum-above in
      record {
        fin-cosine = C.fin;
        fin-sine = neg-fin binary64 s S.fin;
        unit = unit_of (square (units c)) (square (units (neg s))) (size c * size c) (size s * size s) (L * L) (32 * (e * L)) (pow2 11 * L)
            (mag-square c) (rw (neg-mag binary64 s) at (mag-square (neg s))) (omega (arith, ap (λ (z : ℕ). z * L) (pow2_scale 6 5))) above below;
        cosine-small = within-mag c (L + pow2 11) (part_small (size c) (size s) L e (pow2 11) above (pow2_scale 6 5));
        sine-small = within-mag (neg s) (L + pow2 11) (rw (neg-mag binary64 s) (part_small (size s) (size c) L e (pow2 11) (omega (arith, above)) (pow2_scale 6 5)));
      }

-- ---- where the second centre comes out
within_over : (X : Z) (y : Float) (k : ℕ) → 0 < size y → Within (X ⊗ units y) (k * size y) → Within X k
unfolding val
within_over X y k some h = go (negative y) (size y) some h
  where
    go : (t : Bool) (B : ℕ) → 0 < B → Within (X ⊗ signed t B) (k * B) → Within X k
    go false B p h = record { above = le_of_mul-le-mul_right {k = B} (omega arith) p; below = le_of_mul-le-mul_right {k = B} (omega arith) p }
    go true B p h = record { above = le_of_mul-le-mul_right {k = B} (omega arith) p; below = le_of_mul-le-mul_right {k = B} (omega arith) p }

-- Two numbers A and B divided by one H, each quotient within f, then multiplied crosswise by Q and P: what stands between the products was there before, times
-- L, or is of the roundings.
crossed : (A B C S P Q H : Z) (L f h a b w : ℕ) → Near (C ⊗ H) (A ⊗ nat L) (f * h) → Near (S ⊗ H) (B ⊗ nat L) (f * h) → Within P a → Within Q b → Within (Q ⊗ A ⊖ P ⊗ B) w
    → Within ((Q ⊗ C ⊖ P ⊗ S) ⊗ H) (w * L + (a + b) * (f * h))
crossed A B C S P Q H L f h a b w c s p q before =
    let u = C ⊗ H ⊖ A ⊗ nat L in
    let v = S ⊗ H ⊖ B ⊗ nat L in
    add (Q ⊗ C) (P ⊗ S) (Q ⊗ A) (P ⊗ B) (Q ⊗ u) (P ⊗ v) (f * h) (apart Q C A) (apart P S B) before (within-mul q (within_difference c)) (within-mul p (within_difference s))
  where
    apart : (Q C A : Z) → Q ⊗ C ⊗ H ≈ Q ⊗ A ⊗ nat L ⊕ Q ⊗ (C ⊗ H ⊖ A ⊗ nat L)
    apart Q C A = omega arith

    add : (X Y X' Y' U W : Z) (g : ℕ) → X ⊗ H ≈ X' ⊗ nat L ⊕ U → Y ⊗ H ≈ Y' ⊗ nat L ⊕ W → Within (X' ⊖ Y') w → Within U (b * g) → Within W (a * g) → Within ((X ⊖ Y) ⊗ H) (w * L + (a + b) * g)
    add X Y X' Y' U W g x y z u v = omega (arith, mul-le-mul_right L z.above, mul-le-mul_right L z.below)

-- ---- m is any f64 of the size of the larger
module _ (dx dy m : Float) (p : Fin binary64 dx) (q : Fin binary64 dy) (o : Fin binary64 m) (some : 0 < size m) (lx : size dx ≤ size m) (ly : size dy ≤ size m)
    (w : (size m ≡ size dx) ⊎ (size m ≡ size dy)) where
  abbrev x : Float
  x = dx /ᶠ m

  abbrev y : Float
  y = dy /ᶠ m

  abbrev h : Float
  h = hypotenuse x y

  ratio_x : Ratio dx m x
  ratio_x = ratio dx m p o some lx

  ratio_y : Ratio dy m y
  ratio_y = ratio dy m q o some ly

  tall : 3 * pow2 60 ≤ 4 * size h
  tall = elim w [
    | inl e ↦ hypotenuse_not_small x y ratio_x.fin ratio_y.fin ratio_x.small ratio_y.small x (ratio_x.full e) ratio_x.small (omega arith)
    | inr e ↦ hypotenuse_not_small x y ratio_x.fin ratio_y.fin ratio_x.small ratio_y.small y (ratio_y.full e) ratio_y.small (omega arith)
  ]

  turned_by : Turned (record { cosine = x /ᶠ h; sine = neg (y /ᶠ h) })
  turned_by = quotients_turned x y ratio_x.fin ratio_y.fin ratio_x.small ratio_y.small tall

  levelled_by : Within (units dy ⊗ units (x /ᶠ h) ⊕ units dx ⊗ units (neg (y /ᶠ h))) (4 * (pow2 6 * (size dx + size dy)))
  levelled_by =
      let root = hypotenuse_near x y ratio_x.fin ratio_y.fin ratio_x.small ratio_y.small in
      let C = over_root x h ratio_x.fin root.fin ratio_x.small tall in
      let S = over_root y h ratio_y.fin root.fin ratio_y.small tall in
      let P = units dx in
      let Q = units dy in
      let wp = within-mag dx (size dx) (omega arith) in
      let wq = within-mag dy (size dy) (omega arith) in
      let ratios =
      within_over (Q ⊗ units x ⊖ P ⊗ units y) m (pow2 6 * (size dx + size dy)) some
      (ratios_over ((Q ⊗ units x ⊖ P ⊗ units y) ⊗ units m) (size dx) (size dy) (pow2 6) (size m) (pow2 60)
      (crossed P Q (units x) (units y) P Q (units m) (pow2 60) (pow2 6) (size m) (size dx) (size dy) 0 ratio_x.times ratio_y.times wp wq (omega arith))) in
      rw (neg-val binary64 (y /ᶠ h))
      (opposite Q (units (x /ᶠ h)) P (units (y /ᶠ h)) (4 * (pow2 6 * (size dx + size dy)))
      (within_over (Q ⊗ units (x /ᶠ h) ⊖ P ⊗ units (y /ᶠ h)) h (4 * (pow2 6 * (size dx + size dy))) (omega (arith, tall, one-pos))
      (quotients_over ((Q ⊗ units (x /ᶠ h) ⊖ P ⊗ units (y /ᶠ h)) ⊗ units h) (size dx) (size dy) (pow2 6) (size h) (pow2 60) tall
      (crossed (units x) (units y) (units (x /ᶠ h)) (units (y /ᶠ h)) P Q (units h) (pow2 60) (2 * pow2 6) (size h) (size dx) (size dy) (pow2 6 * (size dx + size dy)) C.times S.times wp wq ratios))))
    where
      ratios_over : (X : Z) (a b e m L : ℕ) → Within X (0 * L + (a + b) * (e * m)) → Within X (e * (a + b) * m)
      ratios_over X a b e m L h = omega arith

      quotients_over : (X : Z) (a b e h L : ℕ) → 3 * L ≤ 4 * h → Within X (e * (a + b) * L + (a + b) * (2 * e * h)) → Within X (4 * (e * (a + b)) * h)
      quotients_over X a b e h L l k = omega (arith, mul-le-mul_left (e * (a + b)) l)

      opposite : (q c p s : Z) (k : ℕ) → Within (q ⊗ c ⊖ p ⊗ s) k → Within (q ⊗ c ⊕ p ⊗ opp s) k
      opposite q c p s k h = omega arith

-- ---- the turn
module _ (dx dy : Float) (p : Fin binary64 dx) (q : Fin binary64 dy) (some : 0 < size dx + size dy) where
  abbrev larger : Float
  larger = maximum (abs dx) (abs dy)

  larger-finite : Fin binary64 larger
  larger-finite = maximum-either (λ (u : Float). Fin binary64 u) (abs dx) (abs dy) (abs-fin dx p) (abs-fin dy q)

  larger_is_one : (size larger ≡ size dx) ⊎ (size larger ≡ size dy)
  larger_is_one = elim (maximum_one_of (abs dx) (abs dy)) [ inl e ↦ inl (ap (mag binary64) e ∙ abs_mag dx) | inr e ↦ inr (ap (mag binary64) e ∙ abs_mag dy) ]

  larger-above : (size dx ≤ size larger) × (size dy ≤ size larger)
  larger-above =
      let g = maximum_greatest binary64 (abs dx) (abs dy) (abs-fin dx p) (abs-fin dy q) in
      let sign = maximum-either (λ (u : Float). negative u ≡ false) (abs dx) (abs dy) (abs-sign dx) (abs-sign dy) in
      let above = rw (val-mag binary64 (abs dx) (abs-sign dx), val-mag binary64 (abs dy) (abs-sign dy), val-mag binary64 larger sign) at g in
      (omega (arith, abs_mag dx), omega (arith, abs_mag dy))

  larger-some : 0 < size larger
  larger-some = omega (arith, larger-above.0, larger-above.1)

  pub turn_is_unit : Turned (turn dx dy)
  unfolding turn
  turn_is_unit = turned_by dx dy larger p q larger-finite larger-some larger-above.0 larger-above.1 larger_is_one

  pub turn_levels : Within (units dy ⊗ units (turn dx dy).cosine ⊕ units dx ⊗ units (turn dx dy).sine) (4 * (pow2 6 * (size dx + size dy)))
  unfolding turn
  turn_levels = levelled_by dx dy larger p q larger-finite larger-some larger-above.0 larger-above.1 larger_is_one

-- ---- 01's test for no turn, read the other way
pub nought-fin : Fin binary64 nought
unfolding Fin fits
nought-fin = tt

pub nought-value : units nought ≡ nat 0
unfolding val mag negative
nought-value = refl

zero_is_nought : (x : Float) → Fin binary64 x → size x ≡ 0 → T (eq x nought)
zero_is_nought x p h = (eq_is binary64 x nought p nought-fin).1 (rw nought-value (omega (arith, within-mag x 0 (omega arith))))

pub not_level_some : (dx dy : Float) → Fin binary64 dx → Fin binary64 dy → ¬ T (level dx dy) → 0 < size dx + size dy
unfolding level
not_level_some dx dy p q h = elim (either 0 (size dx + size dy)) [
  | inl l ↦ l
  | inr l ↦ absurd (h ((or_iff (eq dx nought && eq dy nought) _).1 (inl ((and_iff (eq dx nought) (eq dy nought)).1 (zero_is_nought dx p (omega arith), zero_is_nought dy q (omega arith))))))
]
