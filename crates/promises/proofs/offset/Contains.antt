-- Where `contains` says yes, all of the child's coordinates are finite and the exact distance of the centres is at most R - r + 2^-30. Of the distance only its laws are used.
use mathlib.Core.Path.{◌≡◌, refl}
use mathlib.Core.Bool.{true, false, true≢false}
use Prim.Native.Nat.{ℕ, ◌+◌, ◌-◌, ◌*◌, ◌^◌, ◌≤◌}
use native.Mathlib.Nat.{mul-le-mul, le_trans}
use native.Mathlib.Omega.{arith}
use lib.Dec.{T, lit≤}
use lib.Ieee.{Float, nan, inf, fin, Format, binary64, prec, add, lt, eq, le, fits}
use lib.Ieee.Fits.{add-fits}
use lib.Ieee.Scale.{finite}
use Rattle.algebra.specs.Integer.{Z, nat, Within, ◌⊕◌, ◌⊖◌, ◌≼◌}
use Rattle.rounding.specs.Value.{mag, negative, Fin}
use Rattle.rounding.specs.Scale.{pow2}
use Rattle.rounding.proofs.Value.{fin_both, fin-finite, val-mag}
use Rattle.rounding.proofs.Double.{pow2_scale}
use Rattle.rounding.proofs.Finite.{finite-below}
use Rattle.rounding.proofs.Add.{add_relative, add-sign}
use Rattle.rounding.proofs.Order.{le_is}
use Rattle.shapes.specs.declared.circle.Circle.{Circle}
use Rattle.shapes.specs.Lift.{lift}
use Rattle.scope.specs.Numbers.{◌+ᶠ◌}
use Rattle.scope.specs.Distance.{distance, contains}
use Rattle.scope.specs.Promises.{units, square, squared_distance, ReachesWithin}
use Rattle.promises.proofs.offset.Reach.{natural_square, wider_bound, reach_bounds_axes}
use Rattle.promises.proofs.offset.Distance.{distance_not_negative, distance-finite, distance-covers}
use Rattle.promises.proofs.numbers.Magnitude.{size_of_sum, relative_covers}
use Rattle.promises.proofs.gauge.Carried.{StandsWithin, centre_bound}

-- ---- g + r ≤ R, read backwards
first_part_finite : (f : Format) (g r R : Float) → negative g ≡ false → T (finite r) → T (finite R) → T (le (add f g r) R) → T (finite g)
unfolding add le lt eq negative
first_part_finite f nan r R s p q t = absurd t
first_part_finite f (inf true) r R s p q t = absurd (true≢false s)
first_part_finite f (inf false) nan R s p q t = absurd p
first_part_finite f (inf false) (inf u) R s p q t = absurd p
first_part_finite f (inf false) (fin u m e) nan s p q t = absurd q
first_part_finite f (inf false) (fin u m e) (inf w) s p q t = absurd q
first_part_finite f (inf false) (fin u m e) (fin w n d) s p q t = absurd t
first_part_finite f (fin u m e) r R s p q t = tt

-- ---- the sum's rounding, for an R up to 2^20
sum-wide : pow2 80 + 2 ^ prec binary64 ≤ (2 ^ 53 - 1) * pow2 28
unfolding pow2
sum-wide = lit≤ tt

sum_below : (g r R : Float) → Fin binary64 g → Fin binary64 r → Fin binary64 R → negative g ≡ false → negative r ≡ false → negative R ≡ false → mag binary64 R ≤ pow2 80
    → T (le (g +ᶠ r) R) → mag binary64 g + mag binary64 r ≤ mag binary64 R + pow2 28
sum_below g r R fg fr fR sg sr sR wR t =
    let z = g +ᶠ r in
    let sz = add-sign binary64 g r sg sr in
    let tz = finite-below z R sz (fin-finite binary64 R fR) t in
    let fz = fin_both binary64 z tz (add-fits binary64 g r) in
    let z-below = rw (val-mag binary64 z sz, val-mag binary64 R sR) at ((le_is binary64 z R fz fR).0 t) in
    let parts = size_of_sum (units g) (units r) (mag binary64 g) (mag binary64 r) (val-mag binary64 g sg) (val-mag binary64 r sr) in
    let sum = relative_covers binary64 z _ (2 ^ 53 - 1) (pow2 28) (lit≤ tt) refl (add_relative binary64 g r fg fr tz) (le_trans (wider (mag binary64 z) (mag binary64 R) (2 ^ prec binary64) (omega arith) wR) sum-wide) in
    omega arith
  where
    wider : (z R P : ℕ) → z ≤ R → R ≤ pow2 80 → z + P ≤ pow2 80 + P
    wider z R P h k = omega arith

pub record InsideParent (parent child : Circle) : Type 0 where
  pub fin-x : Fin binary64 child.center.x
  pub fin-y : Fin binary64 child.center.y
  pub reach : ReachesWithin (pow2 30) (units parent.radius) (units child.radius) (squared_distance parent child)

-- g, the distance, with g + r ≤ R + a and D ≤ (g + 3a)²
reach_of : (D : Z) (g r R a k : ℕ) → 4 * a ≤ k → g + r ≤ R + a → D ≼ nat ((g + 3 * a) * (g + 3 * a)) → ReachesWithin k (nat R) (nat r) D
reach_of D g r R a k l h c =
    let W = nat R ⊕ nat k ⊖ nat r in
    let w = R + k - r in
    let i : g + 3 * a ≤ w = omega arith in
    record { room = omega arith; covers = wider_bound (square W) D ((g + 3 * a) * (g + 3 * a)) (w * w) (natural_square W w (omega arith)) c (mul-le-mul i i) }

error_room : 4 * pow2 28 ≤ pow2 30
unfolding pow2
error_room = lit≤ tt

distance-small : (g r R a b : ℕ) → g + r ≤ R + a → R ≤ b → g ≤ b + a
distance-small g r R a b h l = omega arith

-- the parent's numbers are finite, its radius at most 2^20; the child's radius is finite and not negative, and its coordinates are f64 of any kind
module _ (parent child : Circle) (fx : Fin binary64 parent.center.x) (fy : Fin binary64 parent.center.y) (fR : Fin binary64 parent.radius) (fr : Fin binary64 child.radius)
    (tx : T (fits binary64 child.center.x)) (ty : T (fits binary64 child.center.y)) (sR : negative parent.radius ≡ false) (sr : negative child.radius ≡ false)
    (wR : mag binary64 parent.radius ≤ pow2 80) (t : T (contains parent child)) where
  pub contains_sound : InsideParent parent child
  unfolding contains
  contains_sound =
      let p = parent.center in
      let q = child.center in
      let R = parent.radius in
      let r = child.radius in
      let g = distance p q in
      let sg = distance_not_negative p q in
      let tg = first_part_finite binary64 g r R sg (fin-finite binary64 r fr) (fin-finite binary64 R fR) t in
      let d = distance-finite p q tg in
      let qx = fin_both binary64 q.x d.q_x tx in
      let qy = fin_both binary64 q.y d.q_y ty in
      let sum = sum_below g r R d.fin fr fR sg sr sR wR t in
      let covers = distance-covers p q fx fy qx qy tg (distance-small (mag binary64 g) (mag binary64 r) (mag binary64 R) (pow2 28) (pow2 80) sum wR) in
      record {
        fin-x = qx;
        fin-y = qy;
        reach = rw (val-mag binary64 R sR, val-mag binary64 r sr) (reach_of (squared_distance parent child) (mag binary64 g) (mag binary64 r) (mag binary64 R) (pow2 28) (pow2 30) error_room sum covers);
      }

  -- so the child's centre is within 2^20 + 2^-30 of its parent's on each axis, and within 2^21 + 2^-30 of the origin if its parent's is within 2^20
  pub contained-near : Within (units parent.center.x ⊖ units child.center.x) (pow2 80 + pow2 30) × Within (units parent.center.y ⊖ units child.center.y) (pow2 80 + pow2 30)
  contained-near =
      let R = parent.radius in
      let r = child.radius in
      reach_bounds_axes (pow2 30) (units R) (units r) (units parent.center.x ⊖ units child.center.x) (units parent.center.y ⊖ units child.center.y) (pow2 80 + pow2 30) contains_sound.reach
      (rw (val-mag binary64 R sR, val-mag binary64 r sr) (omega arith))

  pub contained-placed : Within (units parent.center.x) (pow2 80) → Within (units parent.center.y) (pow2 80) → lift child.radius ≡ child.radius → StandsWithin centre_bound child
  contained-placed wx wy l = record {
    fin-x = contains_sound.fin-x;
    fin-y = contains_sound.fin-y;
    within-x = beside (units parent.center.x) (units child.center.x) wx contained-near.0;
    within-y = beside (units parent.center.y) (units child.center.y) wy contained-near.1;
    lifted = l;
  }
    where
      beside : (p q : Z) → Within p (pow2 80) → Within (p ⊖ q) (pow2 80 + pow2 30) → Within q centre_bound
      beside p q h k = omega (arith, pow2_scale 80 1)
