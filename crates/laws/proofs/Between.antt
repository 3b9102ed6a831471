-- What passes the test of a range is finite and lies between its ends, in units. So an accepted radius is above 0, and its size lies between 2^-20 and 2^20.
use mathlib.Core.Path.{◌≡◌}
use mathlib.Core.Bool.{true, false}
use Prim.Native.Nat.{◌≤◌}
use native.Mathlib.Omega.{arith}
use lib.Dec.{T, lit≤}
use lib.Ieee.{Float, nan, inf, fin, binary64, le, lt, eq, fits}
use lib.Ieee.Scale.{finite}
use Rattle.algebra.specs.Integer.{Z, nat, ◌≼◌}
use Rattle.rounding.specs.Value.{mag, negative, val, Fin}
use Rattle.rounding.specs.Scale.{pow2}
use Rattle.rounding.proofs.Value.{fin_both, val-mag, above_zero_sign}
use Rattle.rounding.proofs.Order.{le_is}
use Rattle.shapes.specs.Limits.{smallest_radius, largest_radius}
use Rattle.scope.specs.Limits.{within, radius_ok}
use Rattle.scope.specs.Promises.{units}
use Rattle.laws.proofs.Cases.{and_iff}

-- between two finite numbers lies no infinity and no NaN
between-finite : (lo hi x : Float) → Fin binary64 lo → Fin binary64 hi → T (le lo x) → T (le x hi) → T (finite x)
unfolding Fin le lt eq
between-finite nan hi x p q h k = absurd p
between-finite (inf s) hi x p q h k = absurd p
between-finite (fin s m e) nan x p q h k = absurd q
between-finite (fin s m e) (inf t) x p q h k = absurd q
between-finite (fin s m e) (fin t n d) nan p q h k = absurd h
between-finite (fin s m e) (fin t n d) (inf true) p q h k = absurd h
between-finite (fin s m e) (fin t n d) (inf false) p q h k = absurd k
between-finite (fin s m e) (fin t n d) (fin u c g) p q h k = tt

pub record Between (lo hi : Z) (x : Float) : Type 0 where
  pub fin : Fin binary64 x
  pub from : lo ≼ units x
  pub to : units x ≼ hi

pub within-between : (lo hi x : Float) → Fin binary64 lo → Fin binary64 hi → T (fits binary64 x) → T (within lo hi x) → Between (units lo) (units hi) x
unfolding within
within-between lo hi x p q f t =
    let h = (and_iff (le lo x) (le x hi)).0 t in
    let F = fin_both binary64 x (between-finite lo hi x p q h.0 h.1) f in
    record { fin = F; from = (le_is binary64 lo x p F).0 h.0; to = (le_is binary64 x hi F q).0 h.1 }

-- ---- radii: 2^-20 to 2^20
pub radius-between : (r : Float) → T (fits binary64 r) → T (radius_ok r) → Between (nat (pow2 40)) (nat (pow2 80)) r
unfolding radius_ok smallest_radius largest_radius Fin fits val mag negative pow2
radius-between r f t = within-between smallest_radius largest_radius r tt tt f t

pub record RadiusSize (r : Float) : Type 0 where
  pub fin : Fin binary64 r
  pub sign : negative r ≡ false
  pub from : pow2 40 ≤ mag binary64 r
  pub to : mag binary64 r ≤ pow2 80

pub smallest-positive : 1 ≤ pow2 40
unfolding pow2
smallest-positive = lit≤ tt

pub radius-size : (r : Float) → T (fits binary64 r) → T (radius_ok r) → RadiusSize r
radius-size r t h =
    let b = radius-between r t h in
    let lo = b.from in
    let s = above_zero_sign binary64 r (omega (arith, smallest-positive)) in
    let lower = rw (val-mag binary64 r s) at lo in
    let upper = rw (val-mag binary64 r s) at b.to in
    record { fin = b.fin; sign = s; from = omega arith; to = omega arith }
