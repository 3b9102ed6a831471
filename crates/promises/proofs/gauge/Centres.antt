-- The box of a cluster's centres, on one axis: its ends are folds of the centres, so each is that of a member and bounds them all, and the middle that the mirror
-- takes is finite, in range, and half of their sum up to a rounding.
use mathlib.Core.Path.{◌≡◌, refl}
use mathlib.Core.Bool.{Bool, true, false}
use mathlib.Core.List.{List}
use Prim.Native.Nat.{ℕ, ◌*◌, ◌<◌}
use native.Mathlib.Omega.{arith}
use lib.Dec.{T}
use lib.ListN.{length}
use lib.Ieee.{Float, inf}
use Rattle.algebra.specs.Integer.{Z, Within, Near, ◌⊕◌}
use Rattle.rounding.specs.Scale.{pow2}
use Rattle.rounding.specs.Extremes.{minimum, maximum}
use Rattle.rounding.proofs.Double.{add64, pow2_scale}
use Rattle.shapes.specs.declared.bounds.Bounds.{Bounds}
use Rattle.shapes.specs.declared.circle.Circle.{Circle}
use Rattle.shapes.specs.Boxes.{union_of}
use Rattle.scope.specs.Numbers.{◌+ᶠ◌}
use Rattle.scope.specs.Runs.{gather}
use Rattle.scope.specs.Links.{circle}
use Rattle.scope.specs.Gauge.{nothing, point_box, centres_box, middle, middle_x, middle_y}
use Rattle.scope.specs.Promises.{units}
use Rattle.promises.proofs.numbers.Bounded.{Bounded, half_is, middle_is}
use Rattle.promises.proofs.packing.Folds.{Up, Down, Extreme, gather_part, attained_has, minimum_extreme, maximum_extreme}

-- ---- the middle of some centres; so that of the box of a cluster's centres
abbrev pub middle_of : (ℕ → Bool) → ℕ → (ℕ → Float) → Float
middle_of member n x = middle (gather minimum (inf false) member n x) (gather maximum (inf true) member n x)

module _ (member : ℕ → Bool) (cs : List Circle) where
  end_is : (op : Float → Float → Float) (end : Bounds → Float) → ((a b : Bounds) → end (union_of a b) ≡ op (end a) (end b))
      → end (centres_box member cs) ≡ gather op (end nothing) member (length cs) (λ k. end (point_box (circle cs k).center))
  unfolding centres_box
  end_is op end h = gather_part union_of op end end h nothing member (length cs) (λ k. point_box (circle cs k).center)

  pub middle_x_is : middle_x (centres_box member cs) ≡ middle_of member (length cs) (λ k. (circle cs k).center.x)
  unfolding nothing
  middle_x_is = rw (end_is minimum (λ b. b.x_min) (λ a b. refl), end_is maximum (λ b. b.x_max) (λ a b. refl))

  pub middle_y_is : middle_y (centres_box member cs) ≡ middle_of member (length cs) (λ k. (circle cs k).center.y)
  unfolding nothing
  middle_y_is = rw (end_is minimum (λ b. b.y_min) (λ a b. refl), end_is maximum (λ b. b.y_max) (λ a b. refl))

-- ---- centres within 2^25, of which i is a member's
module _ (member : ℕ → Bool) (n : ℕ) (x : ℕ → Float) (inside : (k : ℕ) → k < n → T (member k) → Bounded (pow2 85) (x k)) (i : ℕ) (l : i < n) (t : T (member i)) where
  abbrev lo : Float
  lo = gather minimum (inf false) member n x

  abbrev hi : Float
  hi = gather maximum (inf true) member n x

  pub lowest : Extreme Down member n x lo
  lowest = minimum_extreme member n x (λ k h u. (inside k h u).fin) i l t

  pub highest : Extreme Up member n x hi
  highest = maximum_extreme member n x (λ k h u. (inside k h u).fin) i l t

  lo_bounded : Bounded (pow2 85) lo
  lo_bounded = attained_has (Bounded (pow2 85)) lowest.attained inside

  hi_bounded : Bounded (pow2 85) hi
  hi_bounded = attained_has (Bounded (pow2 85)) highest.attained inside

  pub middle-near : Near (units (middle_of member n x) ⊕ units (middle_of member n x)) (units lo ⊕ units hi) (2 * pow2 32)
  middle-near = (middle_is 32 tt (pow2 85) (omega (arith, pow2_scale 85 1)) lo hi lo_bounded hi_bounded).1

  -- a rounded sum does not leave the range that the exact one is in, nor does its half
  pub middle-inside : Bounded (pow2 85) (middle_of member n x)
  middle-inside =
      let s = add64 32 tt lo hi lo_bounded.fin hi_bounded.fin (omega (arith, lo_bounded.within, hi_bounded.within, pow2_scale 85 1)) in
      let h = half_is (lo +ᶠ hi) s.fin in
      record { fin = h.fin; within = half-within (units (middle lo hi)) (units (lo +ᶠ hi)) h.near s.within }
    where
      half-within : (z s : Z) → Near (z ⊕ z) s 1 → Within s (pow2 86) → Within z (pow2 85)
      half-within z s h w = omega (arith, pow2_scale 85 1)
