-- The laws of the distance that the promises rest on: it is never negative, a finite one has finite coordinates, and the exact distance is at most it plus 3 * 2^-32.
-- Whatever rests on the distance uses these three, and `distance_swapped` of Overlap.antt, and never its definition.
use mathlib.Core.Path.{◌≡◌, refl, subst}
use mathlib.Core.Bool.{false}
use Prim.Native.Nat.{ℕ, ◌+◌, ◌-◌, ◌*◌, ◌^◌, ◌≤◌, ◌<◌}
use native.Mathlib.Nat.{mul-le-mul, mul-le-mul_left}
use native.Mathlib.Omega.{arith}
use lib.Dec.{T, lit≤}
use lib.Ieee.{Float, Format, binary64, prec, sub}
use lib.Ieee.Scale.{finite}
use Rattle.algebra.specs.Integer.{Z, nat, ◌⊕◌, ◌⊖◌, ◌≈◌, ◌≼◌}
use Rattle.algebra.proofs.Size.{size, size-square}
use Rattle.algebra.proofs.Squares.{square_le}
use Rattle.rounding.specs.Value.{mag, negative, val, Fin}
use Rattle.rounding.specs.Scale.{pow2}
use Rattle.rounding.specs.Root.{hypot}
use Rattle.rounding.proofs.Add.{sub_relative}
use Rattle.rounding.proofs.root.Hypot.{hypot_not_negative, finite-hypot, hypot-nearest, hypot_rel}
use Rattle.rounding.proofs.Finite.{finite-sub}
use Rattle.shapes.specs.declared.point.Point.{Point}
use Rattle.scope.specs.Numbers.{◌-ᶠ◌}
use Rattle.scope.specs.Distance.{distance}
use Rattle.scope.specs.Promises.{units, square}
use Rattle.promises.proofs.numbers.Magnitude.{relative_covers}

-- ---- the sign
pub distance_not_negative : (p q : Point) → negative (distance p q) ≡ false
unfolding distance
distance_not_negative p q = hypot_not_negative binary64 (p.x -ᶠ q.x) (p.y -ᶠ q.y)

-- ---- read backwards: a finite distance
pub record FiniteDistance (p q : Point) : Type 0 where
  pub fin : Fin binary64 (distance p q)
  pub p-x : T (finite p.x)
  pub p-y : T (finite p.y)
  pub q_x : T (finite q.x)
  pub q_y : T (finite q.y)

pub distance-finite : (p q : Point) → T (finite (distance p q)) → FiniteDistance p q
unfolding distance
distance-finite p q t =
    let x = p.x -ᶠ q.x in
    let y = p.y -ᶠ q.y in
    let differences = finite-hypot binary64 x y t in
    let xs = finite-sub binary64 p.x q.x differences.0 in
    let ys = finite-sub binary64 p.y q.y differences.1 in
    record { fin = (hypot-nearest binary64 x y t).fin; p-x = xs.0; p-y = ys.0; q_x = xs.1; q_y = ys.1 }

-- ---- X and Y the rounded differences, w above the root of their squares, a and b the exact differences
differences_cover : (a b X Y w e : ℕ) → a ≤ X + e → b ≤ Y + e → X ≤ w → Y ≤ w → X * X + Y * Y ≤ w * w → a * a + b * b ≤ (w + 2 * e) * (w + 2 * e)
differences_cover a b X Y w e h k x y l = omega (arith, mul-le-mul h h, mul-le-mul k k, mul-le-mul_left e x, mul-le-mul_left e y)

-- ---- in any format: B bounds the distance, and e is large against one part in 2^prec of B
module _ (f : Format) (B Q e : ℕ) (Q-pos : 0 < Q) (E : 2 ^ prec f ≡ Q + 1) (wide : B + e + 2 ^ prec f ≤ Q * e)
    (a b c d : Float) (fa : Fin f a) (fb : Fin f b) (fc : Fin f c) (fd : Fin f d)
    (t : T (finite (hypot f (sub f a c) (sub f b d)))) (small : mag f (hypot f (sub f a c) (sub f b d)) ≤ B) where
  hypot_of_differences_covers : size (val f a ⊖ val f c) * size (val f a ⊖ val f c) + size (val f b ⊖ val f d) * size (val f b ⊖ val f d)
      ≤ (mag f (hypot f (sub f a c) (sub f b d)) + 3 * e) * (mag f (hypot f (sub f a c) (sub f b d)) + 3 * e)
  hypot_of_differences_covers =
      let X = sub f a c in
      let Y = sub f b d in
      let w = mag f (hypot f X Y) + e in
      let finites = finite-hypot f X Y t in
      let rounded : mag f X * mag f X + mag f Y * mag f Y ≤ w * w = hypot_rel f X Y t Q e Q-pos E (omega arith) in
      let lX : mag f X ≤ w = square_le (mag f X) w (omega arith) in
      let lY : mag f Y ≤ w = square_le (mag f Y) w (omega arith) in
      let dx = relative_covers f X (size (val f a ⊖ val f c)) Q e Q-pos E (sub_relative f a c fa fc finites.0) (omega arith) in
      let dy = relative_covers f Y (size (val f b ⊖ val f d)) Q e Q-pos E (sub_relative f b d fb fd finites.1) (omega arith) in
      subst (λ (n : ℕ). size (val f a ⊖ val f c) * size (val f a ⊖ val f c) + size (val f b ⊖ val f d) * size (val f b ⊖ val f d) ≤ n * n) (three (mag f (hypot f X Y)) e)
      (differences_cover (size (val f a ⊖ val f c)) (size (val f b ⊖ val f d)) (mag f X) (mag f Y) w e dx dy lX lY rounded)
    where
      three : (g e : ℕ) → g + e + 2 * e ≡ g + 3 * e
      three g e = omega arith

-- ---- f64, for a distance up to 2^20 + 2^-32
wide64 : pow2 80 + pow2 28 + pow2 28 + 2 ^ prec binary64 ≤ (2 ^ 53 - 1) * pow2 28
unfolding pow2
wide64 = lit≤ tt

covered : (A B : Z) (a b n : ℕ) → A ≈ nat a → B ≈ nat b → a + b ≤ n → A ⊕ B ≼ nat n
covered A B a b n h k l = omega arith

pub distance-covers : (p q : Point) → Fin binary64 p.x → Fin binary64 p.y → Fin binary64 q.x → Fin binary64 q.y → T (finite (distance p q)) → mag binary64 (distance p q) ≤ pow2 80 + pow2 28
    → square (units p.x ⊖ units q.x) ⊕ square (units p.y ⊖ units q.y) ≼ nat ((mag binary64 (distance p q) + 3 * pow2 28) * (mag binary64 (distance p q) + 3 * pow2 28))
unfolding distance
distance-covers p q px py qx qy t l =
    let a = units p.x ⊖ units q.x in
    let b = units p.y ⊖ units q.y in
    covered (square a) (square b) (size a * size a) (size b * size b) _ (size-square a) (size-square b)
    (hypot_of_differences_covers binary64 (pow2 80 + pow2 28) (2 ^ 53 - 1) (pow2 28) (lit≤ tt) refl wide64 p.x p.y q.x q.y px py qx qy t l)
