-- A turn by a nearly orthogonal matrix M: |M v|² = κ |v|² exactly, so what is M v up to a small error on each axis has v's length in the sense of document 01.
-- All is in squares, so that no root is taken and one step serves.
use mathlib.Core.Path.{◌≡◌, refl, ap, subst}
use mathlib.Core.Logic.{inl, inr}
use mathlib.Core.Bool.{Bool, true, false}
use mathlib.Core.List.{[], ◌∷◌}
use Prim.Native.Nat.{ℕ, ◌+◌, ◌-◌, ◌*◌, ◌≤◌, ◌<◌}
use native.Mathlib.Nat.{mul-le-mul, mul-le-mul_right, mul-le-mul_left, le_of_mul-le-mul_right, mul-pos}
use native.Mathlib.Omega.{arith}
use Rattle.algebra.specs.Integer.{Z, ◌⊕◌, ◌⊖◌, ◌⊗◌, ◌≼◌, ◌≈◌, nat, opp, Within, Near}
use Rattle.algebra.proofs.Ring.{var, lit, ◌:+◌, ◌:-◌, ◌:*◌, ring}
use Rattle.algebra.proofs.Size.{either, size, size-square, size-within, size-le, within_difference}
use Rattle.algebra.proofs.Squares.{square_le, twice_product_le, cauchy_schwarz}
use Rattle.scope.specs.Promises.{square, Exceeds≤, Alike}

-- ---- over ℕ
-- x and y are the squares before and after, m is 1 squared, h bounds the error on each axis;
-- `stretch` is |κ - 1| x, and `slip` the product of the turned vector and the error
record Compared (m h x y : ℕ) : Type 0 where
  stretch : ℕ
  slip : ℕ
  stretch_small : 64 * (stretch * stretch) ≤ m * m * (h * h * x)
  slip_small : 4 * (slip * slip) ≤ 9 * (m * m * (h * h * x))
  above : m * y ≤ m * x + stretch + 2 * slip + 2 * (m * (h * h))
  below : m * x ≤ m * y + stretch + 2 * slip

module _ (m h x a c : ℕ) (m-pos : 0 < m) (a_small : 64 * (a * a) ≤ m * m * (h * h * x)) (c-small : 4 * (c * c) ≤ 9 * (m * m * (h * h * x))) where
  excess_small : (g : ℕ) → m * g ≤ a + 2 * c → g * g ≤ 19 * (h * h * x)
  excess_small g k = le_of_mul-le-mul_right {k = m * m} (omega (arith, mul-le-mul k k, twice_product_le a (2 * c))) (mul-pos m-pos m-pos)

  growth_small : (g t : ℕ) → 4 * h ≤ t → m * g ≤ a + 2 * c → g * g ≤ 4 * (t * t) * x
  growth_small g t l k = omega (arith, excess_small g k, mul-le-mul_right x (mul-le-mul l l))

  -- x is more than t² here, so y is more than half of it
  loss_small : (g t y : ℕ) → 8 * h ≤ t → x ≡ y + t * t + g → m * g ≤ a + 2 * c → m * x ≤ m * y + a + 2 * c → g * g ≤ 4 * (t * t) * y
  loss_small g t y l q k r =
      let far : 64 * (h * h) ≤ x = omega (arith, mul-le-mul l l) in
      let far-scaled = mul-le-mul_left (m * m) (mul-le-mul_right x far) in
      let stretched : 64 * a ≤ m * x = square_le (64 * a) (m * x) (omega arith) in
      let slipped : 16 * c ≤ 3 * (m * x) = square_le (16 * c) (3 * (m * x)) (omega arith) in
      let half : x ≤ 2 * y = le_of_mul-le-mul_right {k = m} (omega arith) m-pos in
      omega (arith, excess_small g k, mul-le-mul_right y (mul-le-mul l l), mul-le-mul_left (h * h) half)

-- ---- whole numbers as natural ones
two-squares : (a b : Z) → square a ⊕ square b ≈ nat (size a * size a + size b * size b)
two-squares a b = omega (arith, size-square a, size-square b)

product_of : (A B : Z) (x y : ℕ) → A ≈ nat x → B ≈ nat y → A ⊗ B ≈ nat (x * y)
product_of A B x y h k = omega (arith, ap (λ (z : ℕ). z * B.p) h, ap (λ (z : ℕ). z * B.n) h, ap (λ (z : ℕ). x * z) k)

same_natural : (A : Z) (x y : ℕ) → A ≈ nat x → A ≈ nat y → x ≡ y
same_natural A x y h k = omega arith

-- document 01's words from those over ℕ
exceeds : (t : ℕ) (d e : Z) (x y : ℕ) → d ≈ nat x → e ≈ nat y → ((g : ℕ) → x ≡ y + t * t + g → g * g ≤ 4 * (t * t) * y) → Exceeds≤ t d e
exceeds t d e x y h k f = elim (either (y + t * t) x) [
  | inl l ↦ inr (more (d ⊖ e ⊖ nat (t * t)) (x - y - t * t) (omega arith) (f (x - y - t * t) (omega arith)))
  | inr l ↦ inl (omega arith)
]
  where
    more : (D : Z) (g : ℕ) → D ≈ nat g → g * g ≤ 4 * (t * t) * y → square D ≼ nat (4 * (t * t)) ⊗ e
    more D g w l = omega (arith, product_of D D g g w w, product_of (nat (4 * (t * t))) e (4 * (t * t)) y refl k)

-- ---- identities
-- P² + Q² around (X, Y)
split-squares : (P X Q Y : Z) → square P ⊕ square Q ≈ (square X ⊕ square Y) ⊕ nat 2 ⊗ (X ⊗ (P ⊖ X) ⊕ Y ⊗ (Q ⊖ Y)) ⊕ (square (P ⊖ X) ⊕ square (Q ⊖ Y))
split-squares P X Q Y =
    let p = var 0 in let u = var 1 in let q = var 2 in let v = var 3 in
    ring (P ∷ X ∷ Q ∷ Y ∷ []) (p :* p :+ q :* q) ((u :* u :+ v :* v) :+ lit 2 :* (u :* (p :- u) :+ v :* (q :- v)) :+ ((p :- u) :* (p :- u) :+ (q :- v) :* (q :- v))) tt

-- |M v|² = κ |v|²
pub turn_scales_square : (c s a b : Z) → square (c ⊗ a ⊖ s ⊗ b) ⊕ square (s ⊗ a ⊕ c ⊗ b) ≈ (square c ⊕ square s) ⊗ (square a ⊕ square b)
turn_scales_square c s a b =
    let x = var 0 in let y = var 1 in let z = var 2 in let w = var 3 in
    ring (c ∷ s ∷ a ∷ b ∷ []) ((x :* z :- y :* w) :* (x :* z :- y :* w) :+ (y :* z :+ x :* w) :* (y :* z :+ x :* w)) ((x :* x :+ y :* y) :* (z :* z :+ w :* w)) tt

scaled_square : (p : Z) (L : ℕ) → square (p ⊗ nat L) ≈ nat (L * L * (size p * size p))
scaled_square p L = go p (size p) (size-square p)
  where
    go : (p : Z) (x : ℕ) → square p ≈ nat (x * x) → square (p ⊗ nat L) ≈ nat (L * L * (x * x))
    go p x h = omega (arith, ap (λ (z : ℕ). z * (L * L)) h)

-- an axis as it is, or mirrored
abbrev pub flip : Bool → Z → Z
flip false a = a
flip true a = opp a

flip_square : (σ : Bool) (A : Z) → square (flip σ A) ≈ square A
flip_square false A = refl
flip_square true A = omega arith

flipped_squares : (σ τ : Bool) (X Y T : Z) → square X ⊕ square Y ≈ T → square (flip σ X) ⊕ square (flip τ Y) ≈ T
flipped_squares σ τ X Y T h = go (square (flip σ X)) (square X) (square (flip τ Y)) (square Y) (flip_square σ X) (flip_square τ Y) h
  where
    go : (A B C D : Z) → A ≈ B → C ≈ D → B ⊕ D ≈ T → A ⊕ C ≈ T
    go A B C D h k l = omega arith

-- ---- sizes of the two terms
stretch_le : (m h δ B x : ℕ) → 12 * (δ * B) ≤ m * h → x ≤ 2 * (B * B) → 64 * (δ * x * (δ * x)) ≤ m * m * (h * h * x)
stretch_le m h δ B x w l = omega (arith, mul-le-mul_right x (mul-le-mul w w), mul-le-mul_left (δ * δ * x) l)

slip_le : (m h δ K F c x : ℕ) → 8 * δ ≤ m → K ≤ m + δ → F ≤ 2 * (m * (h * h)) → c * c ≤ K * x * F → 4 * (c * c) ≤ 9 * (m * m * (h * h * x))
slip_le m h δ K F c x f k l w = let near-one : 8 * K ≤ 9 * m = omega arith in omega (arith, mul-le-mul_right x (mul-le-mul near-one l))

slip_square_le : (X Y u w : Z) → size (X ⊗ u ⊕ Y ⊗ w) * size (X ⊗ u ⊕ Y ⊗ w) ≤ (size X * size X + size Y * size Y) * (size u * size u + size w * size w)
slip_square_le X Y u w =
    go (square (X ⊗ u ⊕ Y ⊗ w)) ((square X ⊕ square Y) ⊗ (square u ⊕ square w)) (size (X ⊗ u ⊕ Y ⊗ w) * size (X ⊗ u ⊕ Y ⊗ w)) ((size X * size X + size Y * size Y) * (size u * size u + size w * size w))
    (size-square (X ⊗ u ⊕ Y ⊗ w))
    (product_of (square X ⊕ square Y) (square u ⊕ square w) (size X * size X + size Y * size Y) (size u * size u + size w * size w) (two-squares X Y) (two-squares u w))
    (cauchy_schwarz X Y u w)
  where
    go : (A B : Z) (x y : ℕ) → A ≈ nat x → B ≈ nat y → A ≼ B → x ≤ y
    go A B x y h k l = omega arith

squares-le : (u w n : ℕ) → u ≤ n → w ≤ n → u * u + w * w ≤ 2 * (n * n)
squares-le u w n h k = omega (arith, mul-le-mul h h, mul-le-mul k k)

sum_bounds : (P Q T C F : Z) (e d c f : ℕ) → P ⊕ Q ≈ T ⊕ nat 2 ⊗ C ⊕ F → P ⊕ Q ≈ nat e → T ≈ nat d → Within C c → F ≈ nat f → (e ≤ d + 2 * c + f) × (d + f ≤ e + 2 * c)
sum_bounds P Q T C F e d c f h p t w q = omega arith

joined : (A B : Z) (m x y : ℕ) → A ≈ nat (m * x) → B ≈ nat (m * y) → A ⊕ B ≈ nat (m * (x + y))
joined A B m x y h k = omega arith

same_as : (A B : Z) (k : ℕ) → A ≈ B → B ≈ nat k → A ≈ nat k
same_as A B k h l = omega arith

-- ---- (a, b) before and (p, q) after, in units. L is 1; κ is within δ of 1, a and b within B, p and q within h of the turned vector, an axis mirrored or not.
module _ (L h δ B : ℕ) (L-pos : 0 < L) (fine : 8 * δ ≤ L * L) (wide : 12 * (δ * B) ≤ L * L * h) (σ τ : Bool) (c s a b p q : Z)
    (κ : Near (square c ⊕ square s) (nat (L * L)) δ) (wa : Within a B) (wb : Within b B)
    (along : Near (p ⊗ nat L) (flip σ (c ⊗ a ⊖ s ⊗ b)) (h * L)) (across : Near (q ⊗ nat L) (flip τ (s ⊗ a ⊕ c ⊗ b)) (h * L)) where
  compared : Compared (L * L) h (size a * size a + size b * size b) (size p * size p + size q * size q)
  compared =
      let m = L * L in
      let X = flip σ (c ⊗ a ⊖ s ⊗ b) in
      let Y = flip τ (s ⊗ a ⊕ c ⊗ b) in
      let P = p ⊗ nat L in
      let Q = q ⊗ nat L in
      let u = P ⊖ X in
      let w = Q ⊖ Y in
      let K = size c * size c + size s * size s in
      let x = size a * size a + size b * size b in
      let y = size p * size p + size q * size q in
      let F = size u * size u + size w * size w in
      let C = X ⊗ u ⊕ Y ⊗ w in
      let k = two-squares c s in
      let K-above : K ≤ m + δ = omega (arith, k) in
      let K-below : m ≤ K + δ = omega (arith, k) in
      let turned : square X ⊕ square Y ≈ nat (K * x) =
      same_as (square X ⊕ square Y) ((square c ⊕ square s) ⊗ (square a ⊕ square b)) (K * x)
      (flipped_squares σ τ (c ⊗ a ⊖ s ⊗ b) (s ⊗ a ⊕ c ⊗ b) ((square c ⊕ square s) ⊗ (square a ⊕ square b)) (turn_scales_square c s a b))
      (product_of (square c ⊕ square s) (square a ⊕ square b) K x k (two-squares a b)) in
      let errors = squares-le (size u) (size w) (h * L) (size-le u (h * L) (within_difference along)) (size-le w (h * L) (within_difference across)) in
      let F-small : F ≤ 2 * (m * (h * h)) = omega (arith, errors) in
      let sums =
      sum_bounds (square P) (square Q) (square X ⊕ square Y) C (square u ⊕ square w) (m * y) (K * x) (size C) F
      (split-squares P X Q Y) (joined (square P) (square Q) m (size p * size p) (size q * size q) (scaled_square p L) (scaled_square q L)) turned (size-within C) (two-squares u w) in
      record {
        stretch = δ * x;
        slip = size C;
        stretch_small = stretch_le m h δ B x wide (squares-le (size a) (size b) B (size-le a B wa) (size-le b B wb));
        slip_small = slip_le m h δ K F (size C) x fine K-above F-small
            (subst (λ (z : ℕ). size C * size C ≤ z * F) (same_natural (square X ⊕ square Y) (size X * size X + size Y * size Y) (K * x) (two-squares X Y) turned) (slip_square_le X Y u w));
        above = omega (arith, sums.0, F-small, mul-le-mul_right x K-above);
        below = omega (arith, sums.1, mul-le-mul_right x K-below);
      }

  pub turn_grows_little : (t : ℕ) → 4 * h ≤ t → Exceeds≤ t (square p ⊕ square q) (square a ⊕ square b)
  turn_grows_little t l =
      let m = L * L in
      let r = compared in
      exceeds t (square p ⊕ square q) (square a ⊕ square b) (size p * size p + size q * size q) (size a * size a + size b * size b) (two-squares p q) (two-squares a b)
      (λ g e. growth_small m h (size a * size a + size b * size b) r.stretch r.slip (mul-pos L-pos L-pos) r.stretch_small r.slip_small g t l
      (omega (arith, r.above, ap (λ (z : ℕ). m * z) e, mul-le-mul_left m (mul-le-mul l l))))

  turn_shrinks_little : (t : ℕ) → 8 * h ≤ t → Exceeds≤ t (square a ⊕ square b) (square p ⊕ square q)
  turn_shrinks_little t l =
      let m = L * L in
      let r = compared in
      exceeds t (square a ⊕ square b) (square p ⊕ square q) (size a * size a + size b * size b) (size p * size p + size q * size q) (two-squares a b) (two-squares p q)
      (λ g e. loss_small m h (size a * size a + size b * size b) r.stretch r.slip (mul-pos L-pos L-pos) r.stretch_small r.slip_small g t (size p * size p + size q * size q) l e
      (omega (arith, r.below, ap (λ (z : ℕ). m * z) e)) r.below)

  pub turn_keeps_distance : (t : ℕ) → 8 * h ≤ t → Alike t (square a ⊕ square b) (square p ⊕ square q)
  turn_keeps_distance t l = record { shrunk = turn_shrinks_little t l; grown = turn_grows_little t (omega arith) }
