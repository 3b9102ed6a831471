-- A child inside its parent's circle up to k stays inside up to k + t, where the distance of the centres grows by at most t; and it stands near its parent on each axis.
use mathlib.Core.Path.{◌≡◌, refl, ap}
use mathlib.Core.Logic.{inl, inr}
use Prim.Native.Nat.{ℕ, ◌+◌, ◌-◌, ◌*◌, ◌≤◌}
use native.Mathlib.Nat.{mul-le-mul, mul-le-mul_left}
use native.Mathlib.Omega.{arith}
use Rattle.algebra.specs.Integer.{Z, nat, Within, ◌⊕◌, ◌⊖◌, ◌⊗◌, ◌≈◌, ◌≼◌}
use Rattle.algebra.proofs.Size.{either, size, size-square, size-within}
use Rattle.algebra.proofs.Squares.{square_le}
use Rattle.scope.specs.Promises.{square, Exceeds≤, ReachesWithin}

pub natural_square : (W : Z) (s : ℕ) → W ≈ nat s → square W ≈ nat (s * s)
natural_square W s h = omega (arith, ap (λ (z : ℕ). z * W.p) h, ap (λ (z : ℕ). z * W.n) h, ap (λ (z : ℕ). s * z) h)

-- d ≤ s², and e - d - t² is g with g² ≤ 4 t² d: e ≤ (s + t)²
pub grown-le : (d e : Z) (s t : ℕ) → d ≼ nat (s * s) → Exceeds≤ t e d → e ≼ nat ((s + t) * (s + t))
grown-le d e s t h (inl k) = omega arith
grown-le d e s t h (inr k) = go (e ⊖ d ⊖ nat (t * t)) refl refl k
  where
    go : (D : Z) → D.p ≡ (e ⊖ d ⊖ nat (t * t)).p → D.n ≡ (e ⊖ d ⊖ nat (t * t)).n → square D ≼ nat (4 * (t * t)) ⊗ d → e ≼ nat ((s + t) * (s + t))
    go D p q l = elim (either D.n D.p) [
      | inr i ↦ omega arith
      | inl i ↦
          let g = D.p - D.n in
          let r : D ≈ nat g = omega arith in
          let w : g ≤ 2 * (t * s) = square_le g (2 * (t * s)) (omega (arith, natural_square D g r, l, mul-le-mul_left (4 * (t * t)) h)) in
          omega arith
    ]

same_bound : (X d : Z) (n : ℕ) → X ≈ nat n → d ≼ X → d ≼ nat n
same_bound X d n h k = omega arith

pub wider_bound : (X e : Z) (m n : ℕ) → X ≈ nat n → e ≼ nat m → m ≤ n → e ≼ X
wider_bound X e m n h k l = omega arith

pub reach_grows_little : (R r d e : Z) (k t u : ℕ) → k + t ≤ u → ReachesWithin k R r d → Exceeds≤ t e d → ReachesWithin u R r e
reach_grows_little R r d e k t u l a b =
    let W = R ⊕ nat k ⊖ r in
    let s = W.p - W.n in
    let room = a.room in
    let w = natural_square W s (omega arith) in
    let x = grown-le d e s t (same_bound (square W) d (s * s) w a.covers) b in
    let W-after = R ⊕ nat u ⊖ r in
    let s-after = s + (u - k) in
    let i : s + t ≤ s-after = omega arith in
    record { room = omega arith; covers = wider_bound (square W-after) e ((s + t) * (s + t)) (s-after * s-after) (natural_square W-after s-after (omega arith)) x (mul-le-mul i i) }

-- ---- a square bounds each of its two parts
pub part_le : (a b : Z) (n : ℕ) → square a ⊕ square b ≼ nat (n * n) → Within a n
part_le a b n h = grow a (size a) n (size-within a) (square_le (size a) n (omega (arith, size-square a, size-square b)))
  where
    grow : (a : Z) (m n : ℕ) → Within a m → m ≤ n → Within a n
    grow a m n h l = omega arith

pub reach_bounds_axes : (t : ℕ) (R r a b : Z) (n : ℕ) → ReachesWithin t R r (square a ⊕ square b) → R ⊕ nat t ≼ r ⊕ nat n → Within a n × Within b n
reach_bounds_axes t R r a b n h l =
    let W = R ⊕ nat t ⊖ r in
    let room = h.room in
    let s = W.p - W.n in
    let i : s ≤ n = omega arith in
    let g = bound (square W) (square a ⊕ square b) (s * s) (n * n) (natural_square W s (omega arith)) h.covers (mul-le-mul i i) in
    (part_le a b n g, part_le b a n (omega arith))
  where
    bound : (X D : Z) (m n : ℕ) → X ≈ nat m → D ≼ X → m ≤ n → D ≼ nat n
    bound X D m n h k l = omega arith
