-- The box of some circles, one axis at a time: it holds each of them up to one rounding, and its side is not negative and at most the room that they take with
-- three roundings.
use Prim.Native.Nat.{ℕ, ◌+◌, ◌*◌, ◌≤◌, ◌<◌}
use native.Mathlib.Omega.{arith}
use mathlib.Core.Path.{◌≡◌, refl, ap, ◌∙◌, subst, sym}
use mathlib.Core.Bool.{Bool, true, false}
use mathlib.Core.List.{List}
use lib.Dec.{T, leb}
use lib.ListN.{length}
use lib.Ieee.{Float, inf, binary64, add, sub, neg}
use Rattle.algebra.specs.Integer.{Z, nat, Within, Near, ◌⊕◌, ◌⊖◌, ◌≼◌, ◌≺◌}
use Rattle.rounding.specs.Value.{negative, Fin}
use Rattle.rounding.specs.Scale.{pow2}
use Rattle.rounding.specs.Extremes.{minimum, maximum}
use Rattle.rounding.proofs.Negate.{neg-val, neg-fin}
use Rattle.rounding.proofs.Rounded.{sign_kept}
use Rattle.rounding.proofs.Add.{add_is, bottom}
use Rattle.rounding.proofs.Double.{Close, add64, sub64}
use Rattle.shapes.specs.declared.point.Point.{Point}
use Rattle.shapes.specs.declared.bounds.Bounds.{Bounds}
use Rattle.shapes.specs.declared.circle.Circle.{Circle}
use Rattle.shapes.specs.Boxes.{circle_box, union_of}
use Rattle.scope.specs.Runs.{gather}
use Rattle.scope.specs.Links.{circle}
use Rattle.scope.specs.Gauge.{nothing}
use Rattle.scope.specs.Padding.{box_all}
use Rattle.scope.specs.Promises.{units, x_axis, y_axis, lower, upper}
use Rattle.promises.proofs.packing.Folds.{gather_part, attained_has, Extreme, Up, Down, minimum_extreme, maximum_extreme}
use Rattle.promises.proofs.numbers.Bounded.{Bounded, Upto, near_of, positive-sign}

-- ---- the ends of a box are folds of the circles' ends
module _ (axis : Point → Float) (cs : List Circle) where
  abbrev pub at : ℕ → Float
  at i = axis (circle cs i).center

  abbrev pub low_at : ℕ → Float
  low_at i = sub binary64 (at i) (circle cs i).radius

  abbrev pub high_at : ℕ → Float
  high_at i = add binary64 (at i) (circle cs i).radius

  pub record EndsOf (member : ℕ → Bool) (lo hi : Float) : Type 0 where
    pub low_is : lo ≡ gather minimum (inf false) member (length cs) low_at
    pub high_is : hi ≡ gather maximum (inf true) member (length cs) high_at

module _ (member : ℕ → Bool) (cs : List Circle) where
  end_is : (op : Float → Float → Float) (end : Bounds → Float) → ((a b : Bounds) → end (union_of a b) ≡ op (end a) (end b))
      → end (box_all member cs) ≡ gather op (end nothing) member (length cs) (λ i. end (circle_box (circle cs i)))
  unfolding box_all
  end_is op end h = gather_part union_of op end end h nothing member (length cs) (λ i. circle_box (circle cs i))

  pub x-ends : EndsOf x_axis cs member (box_all member cs).x_min (box_all member cs).x_max
  unfolding nothing
  x-ends = record { low_is = end_is minimum (λ b. b.x_min) (λ a b. refl); high_is = end_is maximum (λ b. b.x_max) (λ a b. refl) }

  pub y-ends : EndsOf y_axis cs member (box_all member cs).y_min (box_all member cs).y_max
  unfolding nothing
  y-ends = record { low_is = end_is minimum (λ b. b.y_min) (λ a b. refl); high_is = end_is maximum (λ b. b.y_max) (λ a b. refl) }

-- ---- each end is that of a member and bounds those of all members, as they are rounded
module _ {axis : Point → Float} {cs : List Circle} {member : ℕ → Bool} {lo hi : Float} (ends : EndsOf axis cs member lo hi) (j : ℕ) (l : j < length cs) (m : T (member j)) where
  pub low_is_least : ((a : ℕ) → a < length cs → T (member a) → Fin binary64 (low_at axis cs a)) → Extreme Down member (length cs) (low_at axis cs) lo
  low_is_least finite = rw ends.low_is (minimum_extreme member (length cs) (low_at axis cs) finite j l m)

  pub high_is_greatest : ((a : ℕ) → a < length cs → T (member a) → Fin binary64 (high_at axis cs a)) → Extreme Up member (length cs) (high_at axis cs) hi
  high_is_greatest finite = rw ends.high_is (maximum_extreme member (length cs) (high_at axis cs) finite j l m)

-- ---- a difference is not negative, -0 left out, where its first number lies above the second
sum-sign : (x y : Float) → Fin binary64 x → Fin binary64 y → nat 0 ≺ units x ⊕ units y → negative (add binary64 x y) ≡ false
sum-sign x y p q h =
    let r = add_is binary64 x y p q in
    ap negative r.is ∙ sign_kept binary64 r.sign r.num (bottom x * bottom y) ∙ positive-sign r.sign r.size (units x ⊕ units y) r.value h

difference_sign : (hi lo : Float) → Fin binary64 hi → Fin binary64 lo → units lo ≺ units hi → negative (sub binary64 hi lo) ≡ false
unfolding sub
difference_sign hi lo p q h = sum-sign hi (neg lo) p (neg-fin binary64 lo q) (rw (neg-val binary64 lo) (omega arith))

-- on an axis circles a and b take a room of at most w, from the lower end of b to the upper end of a
abbrev pub Spans : ℕ → (Point → Float) → Circle → Circle → Type 0
Spans w axis a b = upper axis a ⊖ lower axis b ≼ nat w

-- so do n circles
abbrev pub AllSpan : ℕ → (Point → Float) → ℕ → List Circle → Type 0
AllSpan w axis n cs = (j m : ℕ) → j < n → m < n → Spans w axis (circle cs j) (circle cs m)

-- ---- the box lo .. hi holds the circle x ± r up to u
pub record BoxHolds (u : ℕ) (lo hi x r : Z) : Type 0 where
  pub left : lo ≼ x ⊖ r ⊕ nat u
  pub right : x ⊕ r ≼ hi ⊕ nat u

-- centres within B, radii within R, so ends within X
module _ {axis : Point → Float} {cs : List Circle} {member : ℕ → Bool} {lo hi : Float} (i : ℕ) (t : T (leb i 1029)) (B R X : ℕ) (fits : B + R + pow2 i ≤ X) (room : X ≤ pow2 (54 + i))
    (xs : (j : ℕ) → j < length cs → Bounded B (at axis cs j)) (rs : (j : ℕ) → j < length cs → Bounded R (circle cs j).radius) (ends : EndsOf axis cs member lo hi) where
  high_close : (j : ℕ) → j < length cs → Close (high_at axis cs j) (units (at axis cs j) ⊕ units (circle cs j).radius) 1 (pow2 i) (pow2 (54 + i))
  high_close j l = let a = (xs j l).within in let b = (rs j l).within in add64 i t (at axis cs j) (circle cs j).radius (xs j l).fin (rs j l).fin (omega arith)

  low_close : (j : ℕ) → j < length cs → Close (low_at axis cs j) (units (at axis cs j) ⊖ units (circle cs j).radius) 1 (pow2 i) (pow2 (54 + i))
  low_close j l = let a = (xs j l).within in let b = (rs j l).within in sub64 i t (at axis cs j) (circle cs j).radius (xs j l).fin (rs j l).fin (omega arith)

  high_at_bounded : (j : ℕ) → j < length cs → Bounded X (high_at axis cs j)
  high_at_bounded j l = record { fin = (high_close j l).fin; within = sum (units (high_at axis cs j)) (units (at axis cs j)) (units (circle cs j).radius) (near_of (high_close j l).near) (xs j l).within (rs j l).within }
    where
      sum : (z a b : Z) → Near z (a ⊕ b) (pow2 i) → Within a B → Within b R → Within z X
      sum z a b h k l = omega arith

  low_at_bounded : (j : ℕ) → j < length cs → Bounded X (low_at axis cs j)
  low_at_bounded j l = record { fin = (low_close j l).fin; within = difference (units (low_at axis cs j)) (units (at axis cs j)) (units (circle cs j).radius) (near_of (low_close j l).near) (xs j l).within (rs j l).within }
    where
      difference : (z a b : Z) → Near z (a ⊖ b) (pow2 i) → Within a B → Within b R → Within z X
      difference z a b h k l = omega arith

  -- some circle is a member
  module _ (j : ℕ) (l : j < length cs) (m : T (member j)) where
    high_extreme : Extreme Up member (length cs) (high_at axis cs) hi
    high_extreme = high_is_greatest ends j l m (λ a la u. (high_close a la).fin)

    low_extreme : Extreme Down member (length cs) (low_at axis cs) lo
    low_extreme = low_is_least ends j l m (λ a la u. (low_close a la).fin)

    pub high_bounded : Bounded X hi
    high_bounded = attained_has (Bounded X) high_extreme.attained (λ a la u. high_at_bounded a la)

    pub low_bounded : Bounded X lo
    low_bounded = attained_has (Bounded X) low_extreme.attained (λ a la u. low_at_bounded a la)

    pub box-holds : BoxHolds (pow2 i) (units lo) (units hi) (units (at axis cs j)) (units (circle cs j).radius)
    box-holds = ends_hold (units lo) (units hi) (units (at axis cs j)) (units (circle cs j).radius) (units (low_at axis cs j)) (units (high_at axis cs j)) (near_of (low_close j l).near) (near_of (high_close j l).near)
        (low_extreme.bounds j l m) (high_extreme.bounds j l m)
      where
        ends_hold : (lo hi x r a b : Z) → Near a (x ⊖ r) (pow2 i) → Near b (x ⊕ r) (pow2 i) → lo ≼ a → b ≼ hi → BoxHolds (pow2 i) lo hi x r
        ends_hold lo hi x r a b h k m n = omega arith

    -- each end is that of a member, up to one rounding
    pub high_of_member : (c : ℕ) × (c < length cs) × T (member c) × Near (units hi) (units (at axis cs c) ⊕ units (circle cs c).radius) (pow2 i)
    high_of_member = let a = high_extreme.attained in (a.at, a.below, a.takes, subst (λ (e : Float). Near (units e) (units (at axis cs a.at) ⊕ units (circle cs a.at).radius) (pow2 i)) (sym a.is) (near_of (high_close a.at a.below).near))

    pub low_of_member : (c : ℕ) × (c < length cs) × T (member c) × Near (units lo) (units (at axis cs c) ⊖ units (circle cs c).radius) (pow2 i)
    low_of_member = let a = low_extreme.attained in (a.at, a.below, a.takes, subst (λ (e : Float). Near (units e) (units (at axis cs a.at) ⊖ units (circle cs a.at).radius) (pow2 i)) (sym a.is) (near_of (low_close a.at a.below).near))

    -- ---- the side
    module _ (twice : 2 * X ≤ pow2 (54 + i)) where
      side_close : Close (sub binary64 hi lo) (units hi ⊖ units lo) 1 (pow2 i) (pow2 (54 + i))
      side_close = let a = high_bounded.within in let b = low_bounded.within in sub64 i t hi lo high_bounded.fin low_bounded.fin (omega arith)

      pub side_near : Near (units (sub binary64 hi lo)) (units hi ⊖ units lo) (pow2 i)
      side_near = near_of side_close.near

      -- a radius above one rounding makes the side positive, and it is at most the room that the members take on the axis with three roundings
      pub side_upto : (w : ℕ) → nat (pow2 i) ≺ units (circle cs j).radius → ((a b : ℕ) → a < length cs → b < length cs → T (member a) → T (member b) → Spans w axis (circle cs a) (circle cs b))
          → Upto (w + 3 * pow2 i) (sub binary64 hi lo)
      side_upto w thick spans =
          let a = high_of_member in
          let b = low_of_member in
          let above = apart (units lo) (units hi) (units (at axis cs j)) (units (circle cs j).radius) box-holds thick in
          record {
            fin = side_close.fin;
            sign = difference_sign hi lo high_bounded.fin low_bounded.fin above;
            within = spread (units (sub binary64 hi lo)) (units hi) (units lo) (upper axis (circle cs a.0)) (lower axis (circle cs b.0)) side_near a.3 b.3 above (spans a.0 b.0 a.1 b.1 a.2 b.2);
          }
        where
          apart : (lo hi x r : Z) → BoxHolds (pow2 i) lo hi x r → nat (pow2 i) ≺ r → lo ≺ hi
          apart lo hi x r h k = omega arith

          spread : (s hi lo x y : Z) → Near s (hi ⊖ lo) (pow2 i) → Near hi x (pow2 i) → Near lo y (pow2 i) → lo ≺ hi → x ⊖ y ≼ nat w → Within s (w + 3 * pow2 i)
          spread s hi lo x y h1 h2 h3 h4 h5 = omega arith
