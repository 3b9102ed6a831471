-- Packing of the lists of scope: every packed coordinate is the handed one with one number of its cluster added, the radius stays, circles of different clusters
-- are the padding apart, and all of them take no more room than the columns and the rows.
use Prim.Native.Nat.{ℕ, ◌+◌, ◌*◌, ◌≤◌, ◌<◌}
use mathlib.Core.Path.{◌≡◌, ap, ◌∙◌, subst, sym}
use mathlib.Core.Logic.{◌⊎◌, inl, inr, ◌≢◌}
use mathlib.Core.List.{List}
use lib.ListN.{get_or, length}
use lib.Ieee.{Float, binary64, add}
use Rattle.algebra.specs.Integer.{nat, ◌⊕◌, ◌⊖◌, ◌≼◌}
use Rattle.rounding.specs.Value.{Fin}
use Rattle.rounding.specs.Scale.{pow2}
use Rattle.shapes.specs.declared.point.Point.{Point}
use Rattle.shapes.specs.declared.circle.Circle.{Circle}
use Rattle.shapes.specs.declared.rectangle.Rectangle.{Rectangle}
use Rattle.shapes.specs.Lift.{lift}
use Rattle.scope.specs.Links.{circle}
use Rattle.scope.specs.Offset.{translated}
use Rattle.scope.specs.Gauge.{in_cluster}
use Rattle.scope.specs.Packing.{columns, rows, places, packed, rectangle, rectangle_area, width_at, height_at}
use Rattle.scope.specs.Padding.{boxes, shifted}
use Rattle.scope.specs.Promises.{units, x_axis, y_axis}
use Rattle.promises.proofs.numbers.Bounded.{Bounded}
use Rattle.promises.proofs.packing.Places.{listed_place_below_count, same_listed_place_same_box, cells-differ, column_below, row_below}
use Rattle.promises.proofs.packing.BoxSides.{at, Spans, AllSpan, x-ends, y-ends}
use Rattle.promises.proofs.packing.Shift.{ShiftedBy, Step}
use Rattle.promises.proofs.packing.Gap.{Room, packed_reach, packed_slack, grid_room}
use Rattle.promises.proofs.packing.KeptGap.{Above, ApartOn}
use Rattle.promises.proofs.packing.Grid.{OneAxis, cluster_shift_lem, packed_within_reach, other_line_clear, packed-span}
use Rattle.promises.proofs.packing.PackedCircles.{boxes-length, width_is, height_is, shifted-length, columns_of, left, right, bottom, top, column, row, shift_across, shift_up, packed-circle}

-- a circle with a centre within B on each axis, and a radius within R that the lift keeps
pub record Inside (B R : ℕ) (c : Circle) : Type 0 where
  pub x : Bounded B c.center.x
  pub y : Bounded B c.center.y
  pub radius : Bounded R c.radius
  pub lifted : lift c.radius ≡ c.radius

-- what is asked of the packing of `count` clusters: sides at most S, padding at most P, centres within B, radii within R
pub record Packable (h i Q X S P B R : ℕ) (proportion : Float) (count : ℕ) (numbers : List ℕ) (cs : List Circle) (pad : Float) : Type 0 where
  pub room : Room h i Q (S + P + pow2 h) X
  pub some_column : 0 < columns_of proportion (boxes count numbers cs)
  pub columns_fit : columns_of proportion (boxes count numbers cs) * (S + P + pow2 h + pow2 i) ≤ Q
  pub rows_fit : rows count (columns_of proportion (boxes count numbers cs)) * (S + P + pow2 h + pow2 i) ≤ Q
  pub ends_fit : B + R + pow2 h ≤ X
  pub circles : (j : ℕ) → j < length cs → Inside B R (circle cs j)
  pub numbered : (j : ℕ) → j < length cs → get_or numbers j 0 < count
  pub widths : (a : ℕ) → a < count → Bounded S (width_at (boxes count numbers cs) a)
  pub heights : (a : ℕ) → a < count → Bounded S (height_at (boxes count numbers cs) a)
  pub areas : (a : ℕ) → a < count → Fin binary64 (rectangle_area (rectangle (boxes count numbers cs) a))
  pub padding : Bounded P pad
  pub padding_not_negative : nat 0 ≼ units pad

module _ {h i Q X S P B R : ℕ} {proportion : Float} {count : ℕ} {numbers : List ℕ} {cs : List Circle} {pad : Float} (A : Packable h i Q X S P B R proportion count numbers cs pad) where
  abbrev rects : List Rectangle
  rects = boxes count numbers cs

  abbrev number : ℕ → ℕ
  number j = get_or numbers j 0

  abbrev out : List Circle
  out = shifted numbers rects (packed proportion rects pad) cs

  below : (a : ℕ) → a < length rects → a < count
  below a l = rw (boxes-length count numbers cs) at l

  listed : (a : ℕ) → a < count → a < length rects
  listed a l = rw (boxes-length count numbers cs) l

  finite-areas : (a : ℕ) → a < length rects → Fin binary64 (rectangle_area (rectangle rects a))
  finite-areas a l = A.areas a (below a l)

  -- ---- the two axes
  x_axis_lem : OneAxis h i Q X S P B R (columns_of proportion rects) x_axis cs number (length rects) (column proportion rects) (width_at rects) (left numbers cs) (right numbers cs) pad
  x_axis_lem = record {
    room = A.room;
    lines_fit = A.columns_fit;
    ends_fit = A.ends_fit;
    centres = λ j l. (A.circles j l).x;
    radii = λ j l. (A.circles j l).radius;
    numbered = λ j l. listed (number j) (A.numbered j l);
    ends = λ a l. x-ends (in_cluster numbers a) cs;
    side_is = λ a l. width_is count numbers cs a (below a l);
    sides = λ a l. A.widths a (below a l);
    padding = A.padding;
    inside = λ a l. column_below (columns_of proportion rects) (get_or (places rects) a 0) A.some_column;
  }

  y_axis_lem : OneAxis h i Q X S P B R (rows (length rects) (columns_of proportion rects)) y_axis cs number (length rects) (row proportion rects) (height_at rects) (bottom numbers cs) (top numbers cs) pad
  y_axis_lem = record {
    room = A.room;
    lines_fit = subst (λ (k : ℕ). rows k (columns_of proportion rects) * (S + P + pow2 h + pow2 i) ≤ Q) (sym (boxes-length count numbers cs)) A.rows_fit;
    ends_fit = A.ends_fit;
    centres = λ j l. (A.circles j l).y;
    radii = λ j l. (A.circles j l).radius;
    numbered = λ j l. listed (number j) (A.numbered j l);
    ends = λ a l. y-ends (in_cluster numbers a) cs;
    side_is = λ a l. height_is count numbers cs a (below a l);
    sides = λ a l. A.heights a (below a l);
    padding = A.padding;
    inside = λ a l. row_below (length rects) (columns_of proportion rects) (get_or (places rects) a 0) A.some_column (listed_place_below_count rects finite-areas a l);
  }

  -- ---- the packed circles
  pub packed-length : length out ≡ length cs
  packed-length = shifted-length numbers rects (packed proportion rects pad) cs

  packed-x : (j : ℕ) → j < length cs → at x_axis out j ≡ add binary64 (at x_axis cs j) (shift_across proportion numbers rects pad cs (number j))
  unfolding translated
  packed-x j l = ap (λ (c : Circle). c.center.x) (packed-circle proportion count numbers cs pad j l (A.numbered j l))

  packed-y : (j : ℕ) → j < length cs → at y_axis out j ≡ add binary64 (at y_axis cs j) (shift_up proportion numbers rects pad cs (number j))
  unfolding translated
  packed-y j l = ap (λ (c : Circle). c.center.y) (packed-circle proportion count numbers cs pad j l (A.numbered j l))

  packed-radius : (j : ℕ) → j < length cs → (circle out j).radius ≡ (circle cs j).radius
  unfolding translated
  packed-radius j l = ap (λ (c : Circle). c.radius) (packed-circle proportion count numbers cs pad j l (A.numbered j l)) ∙ (A.circles j l).lifted

  pub packed_step : (j : ℕ) → j < length cs → Step i (shift_across proportion numbers rects pad cs (number j)) (shift_up proportion numbers rects pad cs (number j)) (circle cs j) (circle out j)
  packed_step j l = record {
    x = subst (ShiftedBy i (shift_across proportion numbers rects pad cs (number j)) (at x_axis cs j)) (sym (packed-x j l)) (cluster_shift_lem x_axis_lem j l);
    y = subst (ShiftedBy i (shift_up proportion numbers rects pad cs (number j)) (at y_axis cs j)) (sym (packed-y j l)) (cluster_shift_lem y_axis_lem j l);
    radius = packed-radius j l;
  }

  -- still circles that the lift keeps, within a larger reach
  pub packed-inside : (j : ℕ) → j < length cs → Inside (packed_reach i Q (S + P + pow2 h) X) R (circle out j)
  packed-inside j l = record {
    x = packed_within_reach x_axis_lem (at x_axis out) packed-x j l;
    y = packed_within_reach y_axis_lem (at y_axis out) packed-y j l;
    radius = subst (Bounded R) (sym (packed-radius j l)) (A.circles j l).radius;
    lifted = subst (λ (r : Float). lift r ≡ r) (sym (packed-radius j l)) (A.circles j l).lifted;
  }

  -- ---- the gap
  with_radii : (axis : Point → Float) (j m : ℕ) → j < length cs → m < length cs
      → (units pad ≼ (units (at axis out m) ⊖ units (circle cs m).radius) ⊖ (units (at axis out j) ⊕ units (circle cs j).radius) ⊕ nat (packed_slack h i)) → Above (packed_slack h i) pad axis (circle out j) (circle out m)
  with_radii axis j m l n g =
      subst (λ (r : Float). units pad ≼ (units (at axis out m) ⊖ units r) ⊖ (units (at axis out j) ⊕ units (circle out j).radius) ⊕ nat (packed_slack h i)) (sym (packed-radius m n))
      (subst (λ (r : Float). units pad ≼ (units (at axis out m) ⊖ units (circle cs m).radius) ⊖ (units (at axis out j) ⊕ units r) ⊕ nat (packed_slack h i)) (sym (packed-radius j l)) g)

  pub packed-apart : (j m : ℕ) → j < length cs → m < length cs → number j ≢ number m
      → ApartOn (packed_slack h i) pad x_axis (circle out j) (circle out m) ⊎ ApartOn (packed_slack h i) pad y_axis (circle out j) (circle out m)
  packed-apart j m l n apart =
      elim (cells-differ (columns_of proportion rects) (get_or (places rects) (number j) 0) (get_or (places rects) (number m) 0)
      (λ e. apart (same_listed_place_same_box rects finite-areas (number j) (number m) (listed (number j) (A.numbered j l)) (listed (number m) (A.numbered m n)) e))) [
        | inl d ↦ inl (elim (other_line_clear x_axis_lem (at x_axis out) packed-x j m l n d) [ inl g ↦ inl (with_radii x_axis j m l n g) | inr g ↦ inr (with_radii x_axis m j n l g) ])
        | inr d ↦ inr (elim (other_line_clear y_axis_lem (at y_axis out) packed-y j m l n d) [ inl g ↦ inl (with_radii y_axis j m l n g) | inr g ↦ inr (with_radii y_axis m j n l g) ])
      ]

  -- ---- the room that they take: that of the columns across, that of the rows up
  span_with_radii : (axis : Point → Float) (w j m : ℕ) → j < length cs → m < length cs
      → (units (at axis out j) ⊕ units (circle cs j).radius) ⊖ (units (at axis out m) ⊖ units (circle cs m).radius) ≼ nat w → Spans w axis (circle out j) (circle out m)
  span_with_radii axis w j m l n g = rw (packed-radius j l, packed-radius m n) g

  pub packed_span_x : AllSpan (grid_room h i (S + P + pow2 h) (columns count proportion)) x_axis (length cs) out
  packed_span_x j m l n =
      subst (λ (k : ℕ). Spans (grid_room h i (S + P + pow2 h) (columns k proportion)) x_axis (circle out j) (circle out m)) (boxes-length count numbers cs)
      (span_with_radii x_axis (grid_room h i (S + P + pow2 h) (columns_of proportion rects)) j m l n (packed-span x_axis_lem (at x_axis out) packed-x A.padding_not_negative j m l n))

  pub packed_span_y : AllSpan (grid_room h i (S + P + pow2 h) (rows count (columns count proportion))) y_axis (length cs) out
  packed_span_y j m l n =
      subst (λ (k : ℕ). Spans (grid_room h i (S + P + pow2 h) (rows k (columns k proportion))) y_axis (circle out j) (circle out m)) (boxes-length count numbers cs)
      (span_with_radii y_axis (grid_room h i (S + P + pow2 h) (rows (length rects) (columns_of proportion rects))) j m l n (packed-span y_axis_lem (at y_axis out) packed-y A.padding_not_negative j m l n))
