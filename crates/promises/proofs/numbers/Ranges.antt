-- What document 01's ranges say of a number in units: an accepted coordinate is finite and within 2^20, an accepted radius is finite, above 0, at most 2^20 and kept by the lift.
use mathlib.Core.Path.{◌≡◌}
use mathlib.Core.Bool.{false}
use Prim.Native.Nat.{◌≤◌, ◌<◌}
use native.Mathlib.Omega.{arith}
use lib.Dec.{T}
use lib.IntN.{pos}
use lib.Ieee.{Float, fin, binary64, neg, fits}
use Rattle.algebra.specs.Integer.{Z, nat, opp, Within}
use Rattle.rounding.specs.Value.{mag, negative, val, Fin}
use Rattle.rounding.specs.Scale.{pow2}
use Rattle.rounding.proofs.Double.{pow2-le}
use Rattle.shapes.specs.declared.circle.Circle.{Circle}
use Rattle.shapes.specs.Lift.{lift}
use Rattle.scope.specs.Limits.{coordinate_ok, radius_ok}
use Rattle.scope.specs.Promises.{units}
use Rattle.laws.proofs.Between.{Between, within-between, smallest-positive, radius-size}
use Rattle.promises.proofs.numbers.InRange.{radius_lifted}
use Rattle.promises.proofs.gauge.Carried.{StandsWithin, centre_bound}

-- ---- coordinates
pub record Coordinate (x : Float) : Type 0 where
  pub fin : Fin binary64 x
  pub within : Within (units x) (pow2 80)

coordinate_between : (x : Float) → T (fits binary64 x) → T (coordinate_ok x) → Between (opp (nat (pow2 80))) (nat (pow2 80)) x
unfolding coordinate_ok Fin fits neg val mag negative pow2
coordinate_between x t h = within-between (neg (fin false 1 (pos 20))) (fin false 1 (pos 20)) x tt tt t h

pub coordinate_accepted : (x : Float) → T (fits binary64 x) → T (coordinate_ok x) → Coordinate x
coordinate_accepted x t h =
    let b = coordinate_between x t h in
    let lo = b.from in
    let hi = b.to in
    record { fin = b.fin; within = omega arith }

-- ---- radii
pub record Radius (r : Float) : Type 0 where
  pub fin : Fin binary64 r
  pub sign : negative r ≡ false
  pub positive : 0 < mag binary64 r
  pub small : mag binary64 r ≤ pow2 80
  pub lifted : lift r ≡ r

pub radius-accepted : (r : Float) → T (fits binary64 r) → T (radius_ok r) → Radius r
radius-accepted r t h =
    let b = radius-size r t h in
    record { fin = b.fin; sign = b.sign; positive = omega (arith, smallest-positive, b.from); small = b.to; lifted = radius_lifted r h }

-- ---- an accepted circle
pub record Sound (c : Circle) : Type 0 where
  pub x : Coordinate c.center.x
  pub y : Coordinate c.center.y
  pub radius : Radius c.radius

-- its floats are f64, and 01's two ranges hold
pub circle-accepted : (c : Circle) → T (fits binary64 c.center.x) → T (fits binary64 c.center.y) → T (fits binary64 c.radius)
    → T (coordinate_ok c.center.x) → T (coordinate_ok c.center.y) → T (radius_ok c.radius) → Sound c
circle-accepted c fx fy fr x y r = record { x = coordinate_accepted c.center.x fx x; y = coordinate_accepted c.center.y fy y; radius = radius-accepted c.radius fr r }

pub sound_placed : (c : Circle) → Sound c → StandsWithin centre_bound c
sound_placed c s = record {
  fin-x = s.x.fin;
  fin-y = s.y.fin;
  within-x = wider (units c.center.x) s.x.within;
  within-y = wider (units c.center.y) s.y.within;
  lifted = s.radius.lifted;
}
  where
    wider : (x : Z) → Within x (pow2 80) → Within x centre_bound
    wider x h = omega (arith, pow2-le 80 81 tt)
