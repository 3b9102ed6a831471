-- A step of packing or centring: a number is added to a coordinate, rounded once. Packing adds one of the cluster, the centring one of the layout.
use Prim.Native.Nat.{ℕ, ◌+◌}
use mathlib.Core.Path.{◌≡◌}
use lib.Dec.{T, leb}
use lib.Ieee.{Float, binary64, add}
use Rattle.algebra.specs.Integer.{Within, Near, ◌⊕◌}
use Rattle.rounding.specs.Value.{Fin}
use Rattle.rounding.specs.Scale.{pow2}
use Rattle.rounding.proofs.Double.{add64}
use Rattle.shapes.specs.declared.circle.Circle.{Circle}
use Rattle.scope.specs.Promises.{units}
use Rattle.promises.proofs.numbers.Bounded.{near_of}

-- y is x + K, rounded once, and the exact sum lies within the range of exponent i
pub record ShiftedBy (i : ℕ) (K x y : Float) : Type 0 where
  pub fin : Fin binary64 K
  pub room : Within (units x ⊕ units K) (pow2 (54 + i))
  pub is : y ≡ add binary64 x K

pub record IsSum (i : ℕ) (K x y : Float) : Type 0 where
  pub fin : Fin binary64 y
  pub near : Near (units y) (units x ⊕ units K) (pow2 i)
  pub within : Within (units y) (pow2 (54 + i))

pub shifted_is_sum : (i : ℕ) → T (leb i 1029) → {K x y : Float} → Fin binary64 x → ShiftedBy i K x y → IsSum i K x y
shifted_is_sum i t {K} {x} {y} p s =
    let r = add64 i t x K p s.fin s.room in
    rw s.is (record { fin = r.fin; near = near_of r.near; within = r.within })

-- the circle `out` is the circle c with dx and dy added to its centre
pub record Step (i : ℕ) (dx dy : Float) (c out : Circle) : Type 0 where
  pub x : ShiftedBy i dx c.center.x out.center.x
  pub y : ShiftedBy i dy c.center.y out.center.y
  pub radius : out.radius ≡ c.radius
