-- The centring on one axis: every circle is shifted by one number of the layout, the opposite of the middle of the box of all circles.
use Prim.Native.Nat.{ℕ, ◌+◌, ◌*◌, ◌≤◌, ◌<◌}
use native.Mathlib.Omega.{arith}
use mathlib.Core.Path.{◌≡◌, refl}
use mathlib.Core.List.{List}
use lib.Dec.{T, leb}
use lib.ListN.{length}
use lib.Ieee.{Float, binary64, add, neg}
use Rattle.algebra.specs.Integer.{Z, Within, Near, ◌⊕◌}
use Rattle.rounding.specs.Scale.{pow2}
use Rattle.shapes.specs.declared.point.Point.{Point}
use Rattle.shapes.specs.declared.circle.Circle.{Circle}
use Rattle.scope.specs.Runs.{always}
use Rattle.scope.specs.Links.{circle}
use Rattle.scope.specs.Offset.{translated}
use Rattle.scope.specs.Gauge.{middle, middle_x, middle_y}
use Rattle.scope.specs.Padding.{box_all}
use Rattle.scope.specs.Centring.{all_translated, centred_layout}
use Rattle.scope.specs.Links.{nowhere}
use Rattle.scope.specs.Promises.{units}
use Rattle.laws.proofs.Runs.{get_or_tab, length-tab}
use Rattle.promises.proofs.numbers.Bounded.{Bounded, opposite, middle_is, middle_bounded}
use Rattle.promises.proofs.packing.BoxSides.{at, EndsOf, low_bounded, high_bounded}
use Rattle.promises.proofs.packing.Shift.{ShiftedBy}

-- ---- the circles
module _ (cs : List Circle) where
  pub centred-length : length (centred_layout cs) ≡ length cs
  unfolding centred_layout all_translated
  centred-length = length-tab (length cs) (λ i. translated (circle cs i) (neg (middle_x (box_all always cs))) (neg (middle_y (box_all always cs))))

  pub centred_at : (j : ℕ) → j < length cs → circle (centred_layout cs) j ≡ translated (circle cs j) (neg (middle_x (box_all always cs))) (neg (middle_y (box_all always cs)))
  unfolding centred_layout all_translated
  centred_at j l = get_or_tab (length cs) (λ i. translated (circle cs i) (neg (middle_x (box_all always cs))) (neg (middle_y (box_all always cs)))) j nowhere l

-- ---- what the centring asks: centres are within B, radii within R, the ends of the box of all within X; ends are rounded at exponent i, answers at o
pub record CentringRoom (i o B R X : ℕ) : Type 0 where
  pub ti : T (leb i 1029)
  pub to : T (leb o 1029)
  pub ends_fit : B + R + pow2 i ≤ X
  pub positions : X ≤ pow2 (54 + i)
  pub answers : 2 * X + pow2 o ≤ pow2 (54 + o)

-- one axis of the circles, and the ends of their box there
pub record OnAxis (B R : ℕ) (axis : Point → Float) (cs : List Circle) (lo hi : Float) : Type 0 where
  pub centres : (j : ℕ) → j < length cs → Bounded B (at axis cs j)
  pub radii : (j : ℕ) → j < length cs → Bounded R (circle cs j).radius
  pub ends : EndsOf axis cs always lo hi

module _ {i o B R X : ℕ} (room : CentringRoom i o B R X) {axis : Point → Float} {cs : List Circle} {lo hi : Float} (A : OnAxis B R axis cs lo hi) (j : ℕ) (l : j < length cs) where
  pub low_end_bounded : Bounded X lo
  low_end_bounded = low_bounded i room.ti B R X room.ends_fit room.positions A.centres A.radii A.ends j l tt

  pub high_end_bounded : Bounded X hi
  high_end_bounded = high_bounded i room.ti B R X room.ends_fit room.positions A.centres A.radii A.ends j l tt

  twice : 2 * X ≤ pow2 (54 + o)
  twice = omega (arith, room.answers)

  pub centring_bounded : Bounded (X + pow2 o) (neg (middle lo hi))
  centring_bounded = opposite (middle_bounded o room.to X twice lo hi low_end_bounded high_end_bounded)

  pub middle-near : Near (units (middle lo hi) ⊕ units (middle lo hi)) (units lo ⊕ units hi) (2 * pow2 o)
  middle-near = (middle_is o room.to X twice lo hi low_end_bounded high_end_bounded).1

  pub centring_shift : ShiftedBy o (neg (middle lo hi)) (at axis cs j) (add binary64 (at axis cs j) (neg (middle lo hi)))
  centring_shift = record { fin = centring_bounded.fin; room = sum (units (at axis cs j)) (units (neg (middle lo hi))) (A.centres j l).within centring_bounded.within; is = refl }
    where
      sum : (x c : Z) → Within x B → Within c (X + pow2 o) → Within (x ⊕ c) (pow2 (54 + o))
      sum x c h k = omega (arith, room.ends_fit, room.answers)
