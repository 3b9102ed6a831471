-- The boxes of the clusters: where centres of one cluster are at most D apart on each axis, both sides are positive and at most D with two radii and three
-- roundings. So areas are positive too.
use Prim.Native.Nat.{ℕ, ◌+◌, ◌*◌, ◌≤◌, ◌<◌}
use native.Mathlib.Omega.{arith}
use mathlib.Core.Path.{◌≡◌, ◌∙◌, subst, sym}
use mathlib.Core.List.{List}
use lib.Dec.{T, leb, eqb, eqb→eq, eqb_refl}
use lib.ListN.{get_or, length}
use lib.Ieee.{Float, binary64, sub}
use Rattle.algebra.specs.Integer.{Z, nat, Within, ◌⊕◌, ◌⊖◌, ◌≼◌, ◌≺◌}
use Rattle.rounding.specs.Scale.{pow2}
use Rattle.shapes.specs.declared.point.Point.{Point}
use Rattle.shapes.specs.declared.circle.Circle.{Circle}
use Rattle.shapes.specs.declared.rectangle.Rectangle.{Rectangle}
use Rattle.scope.specs.Links.{circle}
use Rattle.scope.specs.Gauge.{in_cluster}
use Rattle.scope.specs.Packing.{rectangle_area, width_at, height_at}
use Rattle.scope.specs.Padding.{boxes}
use Rattle.scope.specs.Promises.{units, x_axis, y_axis}
use Rattle.promises.proofs.numbers.Bounded.{Bounded, Upto, further}
use Rattle.promises.proofs.packing.BoxSides.{at, Spans, EndsOf, x-ends, y-ends, side_upto}
use Rattle.promises.proofs.packing.Sizes.{area_upto}
use Rattle.promises.proofs.packing.PackedCircles.{width_is, height_is}
use Rattle.promises.proofs.packing.Packed.{Inside}

-- what is known of the circles that are packed
pub record Clustered (B R D u : ℕ) (count : ℕ) (numbers : List ℕ) (cs : List Circle) : Type 0 where
  pub circles : (j : ℕ) → j < length cs → Inside B R (circle cs j)
  -- no radius is as small as u
  pub thick : (j : ℕ) → j < length cs → nat u ≺ units (circle cs j).radius
  pub numbered : (j : ℕ) → j < length cs → get_or numbers j 0 < count
  pub used : (a : ℕ) → a < count → (j : ℕ) × (j < length cs) × (get_or numbers j 0 ≡ a)
  -- centres of one cluster are at most D apart
  pub spread_x : (j m : ℕ) → j < length cs → m < length cs → get_or numbers j 0 ≡ get_or numbers m 0 → Within (units (circle cs j).center.x ⊖ units (circle cs m).center.x) D
  pub spread_y : (j m : ℕ) → j < length cs → m < length cs → get_or numbers j 0 ≡ get_or numbers m 0 → Within (units (circle cs j).center.y ⊖ units (circle cs m).center.y) D

-- circles of one cluster take a room of at most w on the axis
abbrev pub ClusterSpans : ℕ → (Point → Float) → List ℕ → List Circle → Type 0
ClusterSpans w axis numbers cs = (j m : ℕ) → j < length cs → m < length cs → get_or numbers j 0 ≡ get_or numbers m 0 → Spans w axis (circle cs j) (circle cs m)

module _ {B R D u : ℕ} {count : ℕ} {numbers : List ℕ} {cs : List Circle} (C : Clustered B R D u count numbers cs) where
  spans_of : (axis : Point → Float) → ((j m : ℕ) → j < length cs → m < length cs → get_or numbers j 0 ≡ get_or numbers m 0 → Within (units (at axis cs j) ⊖ units (at axis cs m)) D)
      → ClusterSpans (D + 2 * R) axis numbers cs
  spans_of axis spread j m l n e =
      room (units (at axis cs j)) (units (circle cs j).radius) (units (at axis cs m)) (units (circle cs m).radius) (C.circles j l).radius.within (C.circles m n).radius.within (spread j m l n e)
    where
      room : (x r y q : Z) → Within r R → Within q R → Within (x ⊖ y) D → (x ⊕ r) ⊖ (y ⊖ q) ≼ nat (D + 2 * R)
      room x r y q h1 h2 h3 = omega arith

  pub cluster_spans_x : ClusterSpans (D + 2 * R) x_axis numbers cs
  cluster_spans_x = spans_of x_axis C.spread_x

  pub cluster_spans_y : ClusterSpans (D + 2 * R) y_axis numbers cs
  cluster_spans_y = spans_of y_axis C.spread_y

module _ (h : ℕ) (t : T (leb h 1029)) (B R D S : ℕ) (twice : 2 * (B + R + pow2 h) ≤ pow2 (54 + h)) (side-fits : D + 2 * R + 3 * pow2 h ≤ S) {count : ℕ} {numbers : List ℕ} {cs : List Circle}
    (C : Clustered B R D (pow2 h) count numbers cs) where
  side_of : {axis : Point → Float} {a : ℕ} {lo hi : Float} → ((j : ℕ) → j < length cs → Bounded B (at axis cs j))
      → ClusterSpans (D + 2 * R) axis numbers cs
      → EndsOf axis cs (in_cluster numbers a) lo hi → a < count → Upto S (sub binary64 hi lo)
  side_of {axis} {a} {lo} {hi} xs spans ends l =
      let u = C.used a l in
      let j = u.0 in
      let m : T (in_cluster numbers a j) = subst (λ (b : ℕ). T (eqb (get_or numbers j 0) b)) u.2 (eqb_refl (get_or numbers j 0)) in
      let X = B + R + pow2 h in
      let fits : B + R + pow2 h ≤ X = omega arith in
      let room : X ≤ pow2 (54 + h) = omega arith in
      further side-fits (side_upto h t B R X fits room xs (λ m n. (C.circles m n).radius) ends j u.1 m twice (D + 2 * R) (C.thick j u.1)
      (λ p q lp lq tp tq. spans p q lp lq (eqb→eq (get_or numbers p 0) a tp ∙ sym (eqb→eq (get_or numbers q 0) a tq))))

  pub width_upto : (a : ℕ) → a < count → Upto S (width_at (boxes count numbers cs) a)
  width_upto a l = subst (Upto S) (sym (width_is count numbers cs a l)) (side_of (λ j m. (C.circles j m).x) (cluster_spans_x C) (x-ends (in_cluster numbers a) cs) l)

  pub height_upto : (a : ℕ) → a < count → Upto S (height_at (boxes count numbers cs) a)
  height_upto a l = subst (Upto S) (sym (height_is count numbers cs a l)) (side_of (λ j m. (C.circles j m).y) (cluster_spans_y C) (y-ends (in_cluster numbers a) cs) l)

-- sides of at most 2^s make areas of at most 2^(2 s)
pub rectangle_area_upto : (s : ℕ) → T (leb (6 + (s + s)) 1029) → (r : Rectangle) → Upto (pow2 (60 + s)) r.width → Upto (pow2 (60 + s)) r.height → Upto (pow2 (60 + (s + s))) (rectangle_area r)
unfolding rectangle_area
rectangle_area_upto s t r w h = area_upto s t r.width r.height w h
