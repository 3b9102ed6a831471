-- Packing and centring of any clustered circles, for any sizes that fit one budget: h, i and o are the exponents at which lengths, positions and answers are
-- rounded, sides are at most 2^s, boxes at most 4^n, columns and rows at most `lines`, and the gap is short of the padding by at most t.
use Prim.Native.Nat.{ℕ, ◌+◌, ◌*◌, ◌^◌, ◌≤◌, ◌<◌}
use native.Mathlib.Nat.{mul-le-mul_right}
use native.Mathlib.Omega.{arith}
use native.Mathlib.Decide.{dec_lt}
use mathlib.Core.Path.{subst, sym}
use mathlib.Core.List.{List}
use lib.Dec.{T, leb, leb→le, le→leb}
use lib.ListN.{length}
use lib.Ieee.{Float}
use Rattle.algebra.specs.Integer.{Z, nat, ◌⊖◌, ◌≼◌}
use Rattle.rounding.specs.Scale.{pow2}
use Rattle.shapes.specs.declared.point.Point.{Point}
use Rattle.shapes.specs.declared.circle.Circle.{Circle}
use Rattle.shapes.specs.declared.rectangle.Rectangle.{Rectangle}
use Rattle.scope.specs.Links.{circle}
use Rattle.scope.specs.Packing.{columns, rows, rectangle, rectangle_area}
use Rattle.scope.specs.Padding.{boxes, padding}
use Rattle.scope.specs.Promises.{units, x_axis, y_axis, lower, upper}
use Rattle.promises.proofs.numbers.Bounded.{Bounded, Upto, bounded, wider}
use Rattle.promises.proofs.packing.Gap.{packed_reach, packed_slack, grid_room}
use Rattle.promises.proofs.packing.Sizes as sizes
use Rattle.promises.proofs.packing.Places.{row_below}
use Rattle.promises.proofs.packing.BoxSides.{AllSpan}
use Rattle.promises.proofs.packing.Columns.{GridFits}
use Rattle.promises.proofs.packing.PackedCircles.{boxes-length, columns_of}
use Rattle.promises.proofs.packing.Centred.{CentringRoom}
use Rattle.promises.proofs.packing.Packed.{Inside, Packable}
use Rattle.promises.proofs.packing.Returned.{Arranged, returned, few_arranged, many-arranged}
use Rattle.promises.proofs.packing.ClusterBoxes.{Clustered, ClusterSpans, cluster_spans_x, cluster_spans_y, width_upto, height_upto, rectangle_area_upto}

-- ---- bounds that follow from the sizes: of the ends of a box, of a line's width, of a line's start, of a packed centre, of the ends of the layout's box
abbrev pub end_reach : ℕ → ℕ → ℕ → ℕ
end_reach h B R = B + R + pow2 h

abbrev pub line_width : ℕ → ℕ → ℕ → ℕ
line_width h s n = pow2 (60 + s) + pow2 (60 + (s + n)) + pow2 h

abbrev pub start_reach : ℕ → ℕ → ℕ → ℕ → ℕ → ℕ
start_reach h i s n lines = lines * (line_width h s n + pow2 i)

abbrev pub centre_reach : ℕ → ℕ → ℕ → ℕ → ℕ → ℕ → ℕ → ℕ
centre_reach h i s n lines B R = packed_reach i (start_reach h i s n lines) (line_width h s n) (end_reach h B R)

abbrev pub layout_reach : ℕ → ℕ → ℕ → ℕ → ℕ → ℕ → ℕ → ℕ
layout_reach h i s n lines B R = centre_reach h i s n lines B R + R + pow2 i

-- the room that so many lines take on an axis after the centring
abbrev pub sheet_room : ℕ → ℕ → ℕ → ℕ → ℕ → ℕ → ℕ
sheet_room h i o s n lines = grid_room h i (line_width h s n) lines + 2 * pow2 o

-- ---- what the sizes have to meet; each is a comparison of numbers
pub record Budget (h i o s n lines B R D t : ℕ) : Type 0 where
  pub th : T (leb h 1029)
  pub ti : T (leb i 1029)
  pub to : T (leb o 1029)
  pub ts : T (leb (6 + (s + s) + 2 * n) 1029)
  pub few : 2 ^ (2 * n) < 2 ^ 53
  pub finer : pow2 h ≤ pow2 i
  pub sides : D + 2 * R + 3 * pow2 h ≤ pow2 (60 + s)
  pub lengths : 2 * line_width h s n + 2 * end_reach h B R ≤ pow2 (54 + h)
  pub positions : start_reach h i s n lines + 2 * line_width h s n + 3 * end_reach h B R + 9 * pow2 i ≤ pow2 (54 + i)
  pub ends : layout_reach h i s n lines B R ≤ pow2 (54 + i)
  pub answers : 2 * layout_reach h i s n lines B R + pow2 o ≤ pow2 (54 + o)
  pub slack : packed_slack h i + 2 * pow2 o ≤ t

module _ {h i o s n lines B R D t : ℕ} (b : Budget h i o s n lines B R D t) {count : ℕ} {numbers : List ℕ} {cs : List Circle} (C : Clustered B R D (pow2 h) count numbers cs)
    (few : count ≤ 2 ^ (2 * n)) (factor : Float) (hf : Bounded (pow2 60) factor) where
  abbrev rects : List Rectangle
  rects = boxes count numbers cs

  below : (a : ℕ) → a < length rects → a < count
  below a l = rw (boxes-length count numbers cs) at l

  twice : 2 * end_reach h B R ≤ pow2 (54 + h)
  twice = omega (arith, b.lengths)

  -- ---- sides and padding
  pub width_is_upto : (a : ℕ) → a < count → Upto (pow2 (60 + s)) (rectangle rects a).width
  width_is_upto = width_upto h b.th B R D (pow2 (60 + s)) twice b.sides C

  pub height_is_upto : (a : ℕ) → a < count → Upto (pow2 (60 + s)) (rectangle rects a).height
  height_is_upto = height_upto h b.th B R D (pow2 (60 + s)) twice b.sides C

  area_is_upto : (a : ℕ) → a < count → Upto (pow2 (60 + (s + s))) (rectangle_area (rectangle rects a))
  area_is_upto a l = rectangle_area_upto s (le→leb (6 + (s + s)) 1029 (let k = leb→le (6 + (s + s) + 2 * n) 1029 b.ts in omega arith)) (rectangle rects a) (width_is_upto a l) (height_is_upto a l)

  abbrev pub reported : Float
  reported = padding rects factor

  few_rects : length rects ≤ 2 ^ (2 * n)
  few_rects = rw (boxes-length count numbers cs) few

  fewer_rects : length rects < 2 ^ 53
  fewer_rects = le_below few_rects b.few
    where
      le_below : {x y z : ℕ} → x ≤ y → y < z → x < z
      le_below {x} {y} {z} p q = omega arith

  pub padding_bounded : Bounded (pow2 (60 + (s + n))) reported
  padding_bounded = sizes.padding_bounded s n b.ts rects factor few_rects fewer_rects (λ a l. area_is_upto a (below a l)) hf

  pub padding_not_negative : nat 0 ≼ units factor → nat 0 ≼ units reported
  padding_not_negative = sizes.padding_not_negative s n b.ts rects factor few_rects fewer_rects (λ a l. area_is_upto a (below a l)) hf

  -- ---- the whole step
  module _ (low : nat 0 ≼ units factor) (proportion : Float) (grid : 0 < count → GridFits lines count (columns count proportion)) where
    packable : 2 ≤ count → Packable h i (start_reach h i s n lines) (end_reach h B R) (pow2 (60 + s)) (pow2 (60 + (s + n))) B R proportion count numbers cs reported
    packable many =
        let g : GridFits lines count (columns_of proportion rects) = subst (λ (k : ℕ). GridFits lines count (columns k proportion)) (sym (boxes-length count numbers cs)) (grid (omega arith)) in
        record {
          room = record { th = b.th; ti = b.ti; finer = b.finer; lengths = b.lengths; positions = b.positions };
          some_column = g.some_column;
          columns_fit = mul-le-mul_right (line_width h s n + pow2 i) g.few_columns;
          rows_fit = mul-le-mul_right (line_width h s n + pow2 i) g.few_rows;
          ends_fit = omega arith;
          circles = C.circles;
          numbered = C.numbered;
          widths = λ a l. bounded (width_is_upto a l);
          heights = λ a l. bounded (height_is_upto a l);
          areas = λ a l. (area_is_upto a l).fin;
          padding = padding_bounded;
          padding_not_negative = padding_not_negative low;
        }

    centring_room : CentringRoom i o (centre_reach h i s n lines B R) R (layout_reach h i s n lines B R)
    centring_room = record { ti = b.ti; to = b.to; ends_fit = omega arith; positions = b.ends; answers = b.answers }

    unpacked_inside : (j : ℕ) → j < length cs → Inside (centre_reach h i s n lines B R) R (circle cs j)
    unpacked_inside j l = let c = C.circles j l in record { x = wider fits c.x; y = wider fits c.y; radius = c.radius; lifted = c.lifted }
      where
        fits : B ≤ centre_reach h i s n lines B R
        fits = omega arith

    -- one cluster has room in one line
    one_line : (c : ℕ) → 0 < c → D + 2 * R ≤ grid_room h i (line_width h s n) c
    one_line c some = go (line_width h s n + pow2 i) (omega (arith, b.sides)) (mul-le-mul_right (line_width h s n + pow2 i) some)
      where
        go : (w : ℕ) → D + 2 * R ≤ w → 1 * w ≤ c * w → D + 2 * R ≤ c * w + packed_slack h i
        go w k l = omega arith

    unpacked_span : (axis : Point → Float) → ClusterSpans (D + 2 * R) axis numbers cs → (c : ℕ) → (0 < count → 0 < c) → count < 2 → AllSpan (grid_room h i (line_width h s n) c) axis (length cs) cs
    unpacked_span axis spans c some one j m l k =
        let p = C.numbered j l in
        let q = C.numbered m k in
        looser (upper axis (circle cs j)) (lower axis (circle cs m)) (grid_room h i (line_width h s n) c) (one_line c (some (omega arith))) (spans j m l k (omega arith))
      where
        looser : (x y : Z) (w : ℕ) → D + 2 * R ≤ w → x ⊖ y ≼ nat (D + 2 * R) → x ⊖ y ≼ nat w
        looser x y w k g = omega arith

    pub packed_and_centred : Arranged i o t (sheet_room h i o s n (columns count proportion)) (sheet_room h i o s n (rows count (columns count proportion))) numbers reported cs (returned proportion count numbers cs reported)
    packed_and_centred = elim (dec_lt count 2) [
      | yes one ↦ few_arranged proportion count numbers cs reported centring_room (omega (arith, b.slack)) one unpacked_inside C.numbered
          (grid_room h i (line_width h s n) (columns count proportion)) (grid_room h i (line_width h s n) (rows count (columns count proportion)))
          (unpacked_span x_axis (cluster_spans_x C) (columns count proportion) (λ some. (grid some).some_column) one)
          (unpacked_span y_axis (cluster_spans_y C) (rows count (columns count proportion)) (λ some. omega (arith, row_below count (columns count proportion) 0 (grid some).some_column some)) one)
      | no more ↦ let many : 2 ≤ count = omega arith in many-arranged proportion count numbers cs reported (packable many) centring_room b.slack many
    ]
