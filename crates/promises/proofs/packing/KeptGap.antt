-- The gap of two circles as scope states it, from the space between their boxes on one side; two circles that are shifted by one number keep that space and the
-- room that they take.
use Prim.Native.Nat.{ℕ, ◌+◌, ◌*◌, ◌≤◌}
use native.Mathlib.Omega.{arith}
use mathlib.Core.Path.{◌≡◌}
use mathlib.Core.Logic.{◌⊎◌, inl, inr, ⊎_elim}
use lib.Dec.{leb, leb→le, le→leb}
use lib.Ieee.{Float}
use Rattle.algebra.specs.Integer.{Z, nat, Near, ◌⊕◌, ◌⊖◌, ◌≼◌}
use Rattle.algebra.proofs.Size.{either}
use Rattle.rounding.specs.Scale.{pow2}
use Rattle.shapes.specs.declared.point.Point.{Point}
use Rattle.shapes.specs.declared.circle.Circle.{Circle}
use Rattle.scope.specs.Promises.{units, x_axis, y_axis, lower, upper, larger, gap_on, Apart}
use Rattle.laws.proofs.Cases.{tested, is_true, is_false}
use Rattle.promises.proofs.numbers.Bounded.{joined}
use Rattle.promises.proofs.packing.Shift.{IsSum}
use Rattle.promises.proofs.packing.BoxSides.{Spans}

-- on an axis the box of circle b lies above that of circle a by the padding, up to e
abbrev pub Above : ℕ → Float → (Point → Float) → Circle → Circle → Type 0
Above e pad axis a b = units pad ≼ (units (axis b.center) ⊖ units b.radius) ⊖ (units (axis a.center) ⊕ units a.radius) ⊕ nat e

-- on an axis they are the padding apart, up to e
abbrev pub ApartOn : ℕ → Float → (Point → Float) → Circle → Circle → Type 0
ApartOn e pad axis a b = Above e pad axis a b ⊎ Above e pad axis b a

-- ---- the larger of two differences
larger_bounds : (a b : Z) → (a ≼ larger a b) × (b ≼ larger a b)
unfolding larger
larger_bounds a b = elim (tested (leb (a.p + b.n) (b.p + a.n))) [
  | yes t ↦ let h = leb→le (a.p + b.n) (b.p + a.n) t in rw (is_true (leb (a.p + b.n) (b.p + a.n)) t) (omega arith, omega arith)
  | no t ↦ rw (is_false (leb (a.p + b.n) (b.p + a.n)) t) (omega arith, elim (either (b.p + a.n) (a.p + b.n)) [ inl h ↦ omega arith | inr h ↦ absurd (t (le→leb (a.p + b.n) (b.p + a.n) h)) ])
]

pub larger-above : (g a b : Z) → (g ≼ a) ⊎ (g ≼ b) → g ≼ larger a b
larger-above g a b (inl h) = joined g a (larger a b) h (larger_bounds a b).0
larger-above g a b (inr h) = joined g b (larger a b) h (larger_bounds a b).1

-- ---- two circles shifted by one number keep the space between their boxes, up to two roundings
module _ (o : ℕ) (K : Float) (axis : Point → Float) (a b a' b' : Circle) (p : IsSum o K (axis a.center) (axis a'.center)) (q : IsSum o K (axis b.center) (axis b'.center))
    (e : a'.radius ≡ a.radius) (f : b'.radius ≡ b.radius) where
  space_kept : Near (lower axis b' ⊖ upper axis a') (lower axis b ⊖ upper axis a) (2 * pow2 o)
  space_kept = rw (e, f) (go (units K) (units (axis a.center)) (units a.radius) (units (axis b.center)) (units b.radius) (units (axis a'.center)) (units (axis b'.center)) p.near q.near)
    where
      go : (k x r y q x' y' : Z) → Near x' (x ⊕ k) (pow2 o) → Near y' (y ⊕ k) (pow2 o) → Near ((y' ⊖ q) ⊖ (x' ⊕ r)) ((y ⊖ q) ⊖ (x ⊕ r)) (2 * pow2 o)
      go k x r y q x' y' h1 h2 = omega arith

  -- so their gap
  pub kept_above : (s t : ℕ) → s + 2 * pow2 o ≤ t → (pad : Float) → Above s pad axis a b → units pad ⊖ nat t ≼ lower axis b' ⊖ upper axis a'
  kept_above s t fits pad h = go (units pad) (lower axis b ⊖ upper axis a) (lower axis b' ⊖ upper axis a') space_kept h
    where
      go : (g z z' : Z) → Near z' z (2 * pow2 o) → g ≼ z ⊕ nat s → g ⊖ nat t ≼ z'
      go g z z' h1 h2 = omega arith

  -- and the room that they take
  pub kept-span : (w : ℕ) → Spans w axis a b → Spans (w + 2 * pow2 o) axis a' b'
  kept-span w h = go (upper axis a) (lower axis b) (upper axis a') (lower axis b') space_kept h
    where
      go : (x y x' y' : Z) → Near (y' ⊖ x') (y ⊖ x) (2 * pow2 o) → x ⊖ y ≼ nat w → x' ⊖ y' ≼ nat (w + 2 * pow2 o)
      go x y x' y' h1 h2 = omega arith

-- ---- at a larger bound
looser : (p g : Z) (t u : ℕ) → t ≤ u → p ⊖ nat t ≼ g → p ⊖ nat u ≼ g
looser p g t u l h = omega arith

pub apart_looser : {t u : ℕ} → t ≤ u → (pad : Float) (a b : Circle) → Apart t pad a b → Apart u pad a b
apart_looser {t} {u} l pad a b h = ⊎_elim (λ g. inl (looser (units pad) (gap_on x_axis a b) t u l g)) (λ g. inr (looser (units pad) (gap_on y_axis a b) t u l g)) h
