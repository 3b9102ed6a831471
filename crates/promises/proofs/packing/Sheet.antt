-- The sheet of the returned circles, for any sizes that fit one budget: the centring bounds a centre by half of the room that all circles take, so each side as
-- `Bounds` computes it is that room up to three roundings, and every column and every row takes at most `line` whole millimetres of it.
use Prim.Native.Nat.{ℕ, ◌+◌, ◌-◌, ◌*◌, ◌≤◌, ◌<◌}
use native.Mathlib.Nat.{le_trans, le_of_eq, mul_assoc, mul-le-mul, mul-le-mul_left, mul-le-mul_right}
use native.Mathlib.Omega.{arith}
use mathlib.Core.Path.{sym}
use mathlib.Core.List.{List}
use lib.Dec.{T, leb}
use lib.ListN.{length}
use lib.Ieee.{Float, binary64, sub}
use Rattle.algebra.specs.Integer.{Z, nat, Within, ◌⊕◌, ◌⊖◌, ◌≼◌, ◌≺◌}
use Rattle.rounding.specs.Value.{Fin}
use Rattle.rounding.specs.Scale.{pow2}
use Rattle.shapes.specs.declared.point.Point.{Point}
use Rattle.shapes.specs.declared.circle.Circle.{Circle}
use Rattle.scope.specs.Numbers.{nought, whole, raised}
use Rattle.scope.specs.Limits.{within}
use Rattle.scope.specs.Runs.{always}
use Rattle.scope.specs.Links.{circle}
use Rattle.scope.specs.Packing.{rows}
use Rattle.scope.specs.CardStock.{sheet, wide, tall}
use Rattle.scope.specs.Promises.{units, x_axis, y_axis, lower, upper}
use Rattle.promises.specs.CardStock.{whole_most, SheetFits}
use Rattle.promises.proofs.numbers.Bounded.{Bounded, Upto, further}
use Rattle.promises.proofs.numbers.Magnitude.{mag-le}
use Rattle.promises.proofs.numbers.RangeOf.{range_for}
use Rattle.promises.proofs.packing.BoxSides.{at, AllSpan, EndsOf, x-ends, y-ends, side_upto}
use Rattle.promises.proofs.packing.Gap.{packed_slack}
use Rattle.promises.proofs.packing.BoxMiddle.{BoxOf, box_of}
use Rattle.promises.proofs.packing.Raised.{raised_at_most, passes_to_whole}
use Rattle.promises.proofs.packing.Places.{rows-filled, row_below}
use Rattle.promises.proofs.packing.Columns.{GridFits}
use Rattle.promises.proofs.packing.Returned.{Arranged, returned_radius}
use Rattle.promises.proofs.packing.Arrangement.{line_width, sheet_room}

-- ---- what the sizes have to meet; each is a comparison of numbers. Sides are rounded at exponent e, and centres are within C.
pub record SheetBudget (h i o s n lines R e C line : ℕ) : Type 0 where
  pub te : T (leb e 1029)
  pub centres : sheet_room h i o s n lines + (2 * pow2 i + 4 * pow2 o) ≤ 2 * C
  pub ends : 2 * (C + R + pow2 e) ≤ pow2 (54 + e)
  pub one_line : sheet_room h i o s n 1 + 3 * pow2 e ≤ line * pow2 60
  pub all_lines : lines * line ≤ whole_most

-- ---- one axis of some circles that take a room of w, with the middle of their box within m / 2 of the origin
module _ (e C R w m : ℕ) (te : T (leb e 1029)) (half : w + m ≤ 2 * C) (ends_fit : 2 * (C + R + pow2 e) ≤ pow2 (54 + e)) (axis : Point → Float) (cs : List Circle) (some : 0 < length cs)
    (finite : (j : ℕ) → j < length cs → Fin binary64 (at axis cs j)) (radii : (j : ℕ) → j < length cs → Bounded R (circle cs j).radius)
    (thick : (j : ℕ) → j < length cs → nat (pow2 e) ≺ units (circle cs j).radius)
    (spans : AllSpan w axis (length cs) cs) (middle : (box : BoxOf axis (length cs) cs) → Within (box.lo ⊕ box.hi) m) where
  centre_bounded : (j : ℕ) → j < length cs → Bounded C (at axis cs j)
  centre_bounded j l =
      let box = box_of axis (length cs) cs some in
      let a = box.lo_taken in
      let b = box.hi_taken in
      record {
        fin = finite j l;
        within = half_of (units (at axis cs j)) (units (circle cs j).radius) box.lo box.hi (lower axis (circle cs a.0)) (upper axis (circle cs b.0)) (thick j l) (box.lo_bounds j l) (box.hi_bounds j l) a.2 b.2
            (spans b.0 a.0 b.1 a.1) (middle box);
      }
    where
      half_of : (x r lo hi l u : Z) → nat (pow2 e) ≺ r → lo ≼ x ⊖ r → x ⊕ r ≼ hi → l ≼ lo → hi ≼ u → u ⊖ l ≼ nat w → Within (lo ⊕ hi) m → Within x C
      half_of x r lo hi l u h1 h2 h3 h4 h5 h6 h7 = omega arith

  box_side_upto : {lo hi : Float} → EndsOf axis cs always lo hi → Upto (w + 3 * pow2 e) (sub binary64 hi lo)
  box_side_upto ends =
      side_upto e te C R (C + R + pow2 e) (omega arith) (omega arith) centre_bounded radii ends 0 some tt ends_fit w (thick 0 some) (λ a b la lb ta tb. spans a b la lb)

-- ---- the sheet of a grid of `count` boxes in c columns
module _ {h i o s n lines R e C line : ℕ} (b : SheetBudget h i o s n lines R e C line) where
  -- a side of so many lines, raised
  record Raises (c : ℕ) (x : Float) : Type 0 where
    inside : T (within nought (whole whole_most) x)
    at_most : raised x ≤ c * line

  side_raises : (c : ℕ) → 0 < c → c ≤ lines → (x : Float) → Upto (sheet_room h i o s n c + 3 * pow2 e) x → Raises c x
  side_raises c some few x u = record {
    inside = passes_to_whole whole_most (omega arith) x (further (mul-le-mul_right (pow2 60) (le_trans (mul-le-mul_right line few) b.all_lines)) v);
    at_most = raised_at_most x v.fin (c * line) (mag-le x (c * line * pow2 60) v.within);
  }
    where
      one_each : (w d r k L : ℕ) → 1 * w + d + r + k ≤ L → c * w + d + r + k ≤ c * L
      one_each w d r k L h = omega (arith, mul-le-mul_left c h, mul-le-mul_right (d + r + k) some)

      v : Upto (c * line * pow2 60) x
      v = further (le_trans (one_each (line_width h s n + pow2 i) (packed_slack h i) (2 * pow2 o) (3 * pow2 e) (line * pow2 60) b.one_line) (le_of_eq (sym (mul_assoc c line (pow2 60))))) u

  module _ {t count c : ℕ} {numbers : List ℕ} {pad : Float} {cs out : List Circle} (A : Arranged i o t (sheet_room h i o s n c) (sheet_room h i o s n (rows count c)) numbers pad cs out)
      (grid : GridFits lines count c) (counted : 0 < count) (few : count ≤ length cs) (radii : (j : ℕ) → j < length cs → Bounded R (circle cs j).radius)
      (thick : (j : ℕ) → j < length cs → nat (pow2 e) ≺ units (circle cs j).radius) where
    here : {j : ℕ} → j < length out → j < length cs
    here l = rw A.sized at l

    there : {j : ℕ} → j < length cs → j < length out
    there l = rw A.sized l

    on_axis : (axis : Point → Float) (k : ℕ) → 0 < k → k ≤ lines → ((j : ℕ) → j < length cs → Fin binary64 (at axis out j))
        → AllSpan (sheet_room h i o s n k) axis (length cs) out
        → ((box : BoxOf axis (length cs) out) → Within (box.lo ⊕ box.hi) (2 * pow2 i + 4 * pow2 o)) → {lo hi : Float} → EndsOf axis out always lo hi → Raises k (sub binary64 hi lo)
    on_axis axis k some most finite spans middle {lo} {hi} ends =
        side_raises k some most (sub binary64 hi lo)
        (box_side_upto e C R (sheet_room h i o s n k) (2 * pow2 i + 4 * pow2 o) b.te (omega (arith, b.centres, mul-le-mul_right (line_width h s n + pow2 i) most)) b.ends axis out (rw A.sized (omega arith))
        (λ j l. finite j (here l)) (λ j l. rw (returned_radius A j (here l)) (radii j (here l))) (λ j l. rw (returned_radius A j (here l)) (thick j (here l)))
        (λ j m l n. spans j m (here l) (here n)) (λ box. middle (range_for (λ j l. here l) (λ j l. there l) box)) ends)

    across : Raises c (sub binary64 (sheet out).x_max (sheet out).x_min)
    across = on_axis x_axis c grid.some_column grid.few_columns (λ j l. (A.finite j l).x) A.span-x A.middle-x (x-ends always out)

    up : Raises (rows count c) (sub binary64 (sheet out).y_max (sheet out).y_min)
    up = on_axis y_axis (rows count c) (omega (arith, row_below count c 0 grid.some_column counted)) grid.few_rows (λ j l. (A.finite j l).y) A.span-y A.middle-y (y-ends always out)

    pub sheet-fits : SheetFits lines line out
    unfolding wide tall
    sheet-fits = record {
      columns = c;
      rows = rows count c;
      few_columns = grid.few_columns;
      together = omega (arith, rows-filled count c grid.some_column, A.sized);
      width = across.inside;
      height = up.inside;
      wide_in_columns = across.at_most;
      tall_in_rows = up.at_most;
    }

-- ---- so its area: columns and rows are few together
pub sheet_area_at_most : (most : ℕ) {lines line : ℕ} {out : List Circle} → SheetFits lines line out → length out ≤ most → wide out * tall out ≤ (most + (lines - 1)) * (line * line)
sheet_area_at_most most {lines} {line} {out} S few =
    le_trans (mul-le-mul S.wide_in_columns S.tall_in_rows) (cells S.columns S.rows (omega (arith, S.together, S.few_columns)))
  where
    cells : (c r : ℕ) → c * r ≤ most + (lines - 1) → c * line * (r * line) ≤ (most + (lines - 1)) * (line * line)
    cells c r h = omega (arith, mul-le-mul_right (line * line) h)
