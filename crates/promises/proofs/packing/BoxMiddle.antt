-- After the centring the exact box of the circles has its middle near the origin: twice the middle is off by at most two roundings of ends and four of answers.
use Prim.Native.Nat.{ℕ, ◌+◌, ◌*◌, ◌<◌}
use native.Mathlib.Omega.{arith}
use mathlib.Core.Path.{◌≡◌}
use mathlib.Core.List.{List}
use lib.ListN.{length}
use lib.Ieee.{Float, binary64, neg}
use Rattle.algebra.specs.Integer.{Z, nat, opp, Within, Near, ◌⊕◌, ◌⊖◌, ◌≼◌}
use Rattle.rounding.specs.Scale.{pow2}
use Rattle.rounding.proofs.Negate.{neg-val}
use Rattle.shapes.specs.declared.point.Point.{Point}
use Rattle.shapes.specs.declared.circle.Circle.{Circle}
use Rattle.scope.specs.Runs.{always}
use Rattle.scope.specs.Links.{circle}
use Rattle.scope.specs.Gauge.{middle}
use Rattle.scope.specs.Promises.{units, lower, upper, Range}
use Rattle.promises.proofs.numbers.RangeOf.{range_of_lem, range_for}
use Rattle.promises.proofs.packing.BoxSides.{at, box-holds, low_of_member, high_of_member}
use Rattle.promises.proofs.packing.Centred.{CentringRoom, OnAxis, middle-near}
use Rattle.promises.proofs.packing.Shift.{IsSum}

-- the exact box of n circles on an axis
abbrev pub BoxOf : (Point → Float) → ℕ → List Circle → Type 0
BoxOf axis n cs = Range (λ j. j < n) (λ j. lower axis (circle cs j)) (λ j. upper axis (circle cs j))

pub box_of : (axis : Point → Float) (n : ℕ) (cs : List Circle) → 0 < n → BoxOf axis n cs
box_of axis n cs some = range_for (λ k p. p.0) (λ k l. (l, tt)) (range_of_lem always n (λ j. lower axis (circle cs j)) (λ j. upper axis (circle cs j)) 0 (some, tt))

-- ---- `out` is `cs` with the opposite of the middle of its box added, each sum rounded once
module _ {i o B R X : ℕ} (room : CentringRoom i o B R X) {axis : Point → Float} {cs : List Circle} {lo hi : Float} (A : OnAxis B R axis cs lo hi) (out : List Circle)
    (radius : (j : ℕ) → j < length cs → (circle out j).radius ≡ (circle cs j).radius)
    (sums : (j : ℕ) → j < length cs → IsSum o (neg (middle lo hi)) (at axis cs j) (at axis out j)) where
  lower-near : (j : ℕ) → j < length cs → Near (lower axis (circle out j)) (units (at axis cs j) ⊖ units (circle cs j).radius ⊕ units (neg (middle lo hi))) (pow2 o)
  lower-near j l = rw (radius j l) (same (units (at axis out j)) (units (at axis cs j)) (units (circle cs j).radius) (units (neg (middle lo hi))) (sums j l).near)
    where
      same : (y x r k : Z) → Near y (x ⊕ k) (pow2 o) → Near (y ⊖ r) (x ⊖ r ⊕ k) (pow2 o)
      same y x r k h = omega arith

  upper-near : (j : ℕ) → j < length cs → Near (upper axis (circle out j)) (units (at axis cs j) ⊕ units (circle cs j).radius ⊕ units (neg (middle lo hi))) (pow2 o)
  upper-near j l = rw (radius j l) (same (units (at axis out j)) (units (at axis cs j)) (units (circle cs j).radius) (units (neg (middle lo hi))) (sums j l).near)
    where
      same : (y x r k : Z) → Near y (x ⊕ k) (pow2 o) → Near (y ⊕ r) (x ⊕ r ⊕ k) (pow2 o)
      same y x r k h = omega arith

  module _ (box : BoxOf axis (length cs) out) where
    abbrev a : ℕ
    a = box.lo_taken.0

    abbrev b : ℕ
    b = box.hi_taken.0

    a_below : a < length cs
    a_below = box.lo_taken.1

    b-below : b < length cs
    b-below = box.hi_taken.1

    low_end-near : Near box.lo (units lo ⊕ units (neg (middle lo hi))) (pow2 i + pow2 o)
    low_end-near =
        let c = low_of_member i room.ti B R X room.ends_fit room.positions A.centres A.radii A.ends a a_below tt in
        between box.lo (units lo) (units (neg (middle lo hi))) (units (at axis cs a) ⊖ units (circle cs a).radius) (units (at axis cs c.0) ⊖ units (circle cs c.0).radius) (lower axis (circle out a)) (lower axis (circle out c.0))
        (lower-near a a_below) (lower-near c.0 c.1) box.lo_taken.2 (box.lo_bounds c.0 c.1) (box-holds i room.ti B R X room.ends_fit room.positions A.centres A.radii A.ends a a_below tt).left c.3
      where
        between : (l lo k x y x' y' : Z) → Near x' (x ⊕ k) (pow2 o) → Near y' (y ⊕ k) (pow2 o) → x' ≼ l → l ≼ y' → lo ≼ x ⊕ nat (pow2 i) → Near lo y (pow2 i) → Near l (lo ⊕ k) (pow2 i + pow2 o)
        between l lo k x y x' y' h1 h2 h3 h4 h5 h6 = omega arith

    high_end-near : Near box.hi (units hi ⊕ units (neg (middle lo hi))) (pow2 i + pow2 o)
    high_end-near =
        let c = high_of_member i room.ti B R X room.ends_fit room.positions A.centres A.radii A.ends b b-below tt in
        between box.hi (units hi) (units (neg (middle lo hi))) (units (at axis cs b) ⊕ units (circle cs b).radius) (units (at axis cs c.0) ⊕ units (circle cs c.0).radius) (upper axis (circle out b)) (upper axis (circle out c.0))
        (upper-near b b-below) (upper-near c.0 c.1) box.hi_taken.2 (box.hi_bounds c.0 c.1) (box-holds i room.ti B R X room.ends_fit room.positions A.centres A.radii A.ends b b-below tt).right c.3
      where
        between : (g hi k x y x' y' : Z) → Near x' (x ⊕ k) (pow2 o) → Near y' (y ⊕ k) (pow2 o) → g ≼ x' → y' ≼ g → x ≼ hi ⊕ nat (pow2 i) → Near hi y (pow2 i) → Near g (hi ⊕ k) (pow2 i + pow2 o)
        between g hi k x y x' y' h1 h2 h3 h4 h5 h6 = omega arith

    pub middle_near_origin : Within (box.lo ⊕ box.hi) (2 * pow2 i + 4 * pow2 o)
    middle_near_origin = sum box.lo box.hi (units lo) (units hi) (units (middle lo hi)) (units (neg (middle lo hi))) (neg-val binary64 (middle lo hi)) low_end-near high_end-near (middle-near room A a a_below)
      where
        sum : (l g lo hi m k : Z) → k ≡ opp m → Near l (lo ⊕ k) (pow2 i + pow2 o) → Near g (hi ⊕ k) (pow2 i + pow2 o) → Near (m ⊕ m) (lo ⊕ hi) (2 * pow2 o) → Within (l ⊕ g) (2 * pow2 i + 4 * pow2 o)
        sum l g lo hi m k e h1 h2 h3 = let h = rw e at h1 in let h' = rw e at h2 in omega arith
