-- The ranges of radii and of the factor read as bounds in units.
use Prim.Native.Nat.{ℕ}
use native.Mathlib.Omega.{arith}
use mathlib.Core.Path.{◌≡◌}
use mathlib.Core.Bool.{◌&&◌}
use lib.Dec.{T}
use lib.Ieee.{Float, binary64, le, fits}
use Rattle.algebra.specs.Integer.{Z, nat, Within, ◌≼◌}
use Rattle.rounding.specs.Value.{mag, negative, val, Fin}
use Rattle.rounding.specs.Scale.{pow2}
use Rattle.rounding.proofs.Order.{le_is}
use Rattle.shapes.specs.Limits.{smallest_radius, largest_radius}
use Rattle.shapes.specs.Lift.{lift}
use Rattle.shapes.proofs.Lift.{lift_keeps_accepted}
use Rattle.scope.specs.Numbers.{nought, one}
use Rattle.scope.specs.Limits.{within, radius_ok, factor_ok}
use Rattle.scope.specs.Promises.{units}
use Rattle.laws.proofs.Cases.{and_iff, is_true}
use Rattle.laws.proofs.Between.{Between, within-between, radius-between}
use Rattle.promises.proofs.numbers.Bounded.{Bounded}

-- what lies between 0 and the upper end passes the range's test
pub passes_from_nought : (hi x : Float) → Fin binary64 hi → Fin binary64 x → nat 0 ≼ units x → units x ≼ units hi → T (within nought hi x)
unfolding within Fin fits val mag negative
passes_from_nought hi x q p low high = (and_iff (le nought x) (le x hi)).1 ((le_is binary64 nought x tt p).1 low, (le_is binary64 x hi p q).1 high)

-- ---- radii: 2^-20 to 2^20
pub radius_bounded : (r : Float) → T (fits binary64 r) → T (radius_ok r) → Bounded (pow2 80) r
radius_bounded r f t = let b = radius-between r f t in record { fin = b.fin; within = small (units r) (pow2 40) (pow2 80) b.from b.to }
  where
    small : (a : Z) (l h : ℕ) → nat l ≼ a → a ≼ nat h → Within a h
    small a l h p q = omega arith

pub radius_at_least : (r : Float) → T (fits binary64 r) → T (radius_ok r) → nat (pow2 40) ≼ units r
radius_at_least r f t = (radius-between r f t).from

pub radius_lifted : (r : Float) → T (radius_ok r) → lift r ≡ r
unfolding radius_ok within
radius_lifted r t = lift_keeps_accepted r (is_true (le smallest_radius r && le r largest_radius) t)

-- ---- the factor: 0 to 1
factor-between : (x : Float) → T (fits binary64 x) → T (factor_ok x) → Between (nat 0) (nat (pow2 60)) x
unfolding factor_ok Fin fits val mag negative pow2
factor-between x f t = within-between nought one x tt tt f t

pub factor_bounded : (x : Float) → T (fits binary64 x) → T (factor_ok x) → Bounded (pow2 60) x
factor_bounded x f t = let b = factor-between x f t in record { fin = b.fin; within = small (units x) (pow2 60) b.from b.to }
  where
    small : (a : Z) (h : ℕ) → nat 0 ≼ a → a ≼ nat h → Within a h
    small a h p q = omega arith

pub factor_not_negative : (x : Float) → T (fits binary64 x) → T (factor_ok x) → nat 0 ≼ units x
factor_not_negative x f t = (factor-between x f t).from
