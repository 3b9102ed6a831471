-- One axis of the whole packing: every circle of a cluster is shifted by one number, two circles whose boxes stand in different lines are the padding apart, and
-- all of them take no more room than the lines.
use Prim.Native.Nat.{ℕ, ◌+◌, ◌*◌, ◌≤◌, ◌<◌}
use native.Mathlib.Nat.{mul-le-mul_right}
use native.Mathlib.Omega.{arith}
use mathlib.Core.Path.{◌≡◌, subst, sym}
use mathlib.Core.Logic.{◌⊎◌, inl, inr}
use mathlib.Core.List.{List}
use lib.Dec.{eqb, eqb_refl}
use lib.ListN.{length}
use lib.Ieee.{Float, binary64, add, sub}
use Rattle.algebra.specs.Integer.{nat, Near, ◌⊕◌, ◌⊖◌, ◌≼◌}
use Rattle.rounding.specs.Scale.{pow2}
use Rattle.shapes.specs.declared.point.Point.{Point}
use Rattle.shapes.specs.declared.circle.Circle.{Circle}
use Rattle.scope.specs.Links.{circle}
use Rattle.scope.specs.Gauge.{middle}
use Rattle.scope.specs.Packing.{breadth, start, placed}
use Rattle.scope.specs.Promises.{units}
use Rattle.promises.proofs.numbers.Bounded.{Bounded, Upto, bounded, wider, not_below}
use Rattle.promises.proofs.packing.Cells.{breadth_upto, breadth-holds, start_upto, line_ends_before_later}
use Rattle.promises.proofs.packing.BoxSides.{at, EndsOf, low_bounded, high_bounded, box-holds, side_near}
use Rattle.promises.proofs.packing.Shift.{ShiftedBy}
use Rattle.promises.proofs.packing.Gap.{Room, packed_reach, packed_slack, grid_room, InCell, packed-shift, packed_bounded, lower_in_cell, upper_in_cell, gap_in_cells, span_in_cells}

-- how far cluster a is shifted: from the middle of its box to that of its cell
abbrev pub cluster_shift : ℕ → (ℕ → ℕ) → (ℕ → Float) → Float → (ℕ → Float) → (ℕ → Float) → ℕ → Float
cluster_shift k line side pad lo hi a = sub binary64 (placed k line side pad a) (middle (lo a) (hi a))

-- what is asked of one axis: k boxes of sides at most S stand in lines below `lines`; the padding is at most P, centres are within B, radii within R
pub record OneAxis (h i Q X S P B R lines : ℕ) (axis : Point → Float) (cs : List Circle) (number : ℕ → ℕ) (k : ℕ) (line : ℕ → ℕ) (side lo hi : ℕ → Float) (pad : Float) : Type 0 where
  pub room : Room h i Q (S + P + pow2 h) X
  pub lines_fit : lines * (S + P + pow2 h + pow2 i) ≤ Q
  pub ends_fit : B + R + pow2 h ≤ X
  pub centres : (j : ℕ) → j < length cs → Bounded B (at axis cs j)
  pub radii : (j : ℕ) → j < length cs → Bounded R (circle cs j).radius
  pub numbered : (j : ℕ) → j < length cs → number j < k
  pub ends : (a : ℕ) → a < k → EndsOf axis cs (λ j. eqb (number j) a) (lo a) (hi a)
  pub side_is : (a : ℕ) → a < k → side a ≡ sub binary64 (hi a) (lo a)
  pub sides : (a : ℕ) → a < k → Bounded S (side a)
  pub padding : Bounded P pad
  pub inside : (a : ℕ) → a < k → line a < lines

module _ {h i Q X S P B R lines : ℕ} {axis : Point → Float} {cs : List Circle} {number : ℕ → ℕ} {k : ℕ} {line : ℕ → ℕ} {side lo hi : ℕ → Float} {pad : Float}
    (A : OneAxis h i Q X S P B R lines axis cs number k line side lo hi pad) where
  abbrev widths : ℕ → Float
  widths = breadth k line side pad

  sum_fits : S + P ≤ pow2 (54 + h)
  sum_fits = omega (arith, A.room.lengths)

  width_upto : (j : ℕ) → Upto (S + P + pow2 h) (widths j)
  width_upto = breadth_upto h A.room.th k line side pad S P sum_fits A.sides A.padding

  starts_fit : lines * (S + P + pow2 h + pow2 i) ≤ pow2 (54 + i)
  starts_fit = omega (arith, A.lines_fit, A.room.positions)

  line_start_upto : (a : ℕ) → a < k → Upto (line a * (S + P + pow2 h + pow2 i)) (start widths (line a))
  line_start_upto a l = start_upto i A.room.ti widths lines (S + P + pow2 h) starts_fit (λ j m. width_upto j) (line a) (omega (arith, A.inside a l))

  start_bounded : (a : ℕ) → a < k → Bounded Q (start widths (line a))
  start_bounded a l = wider (fewer (line a) lines (S + P + pow2 h + pow2 i) (A.inside a l) A.lines_fit) (bounded (line_start_upto a l))
    where
      fewer : (j c D : ℕ) → j < c → c * D ≤ Q → j * D ≤ Q
      fewer j c D k l = omega (arith, mul-le-mul_right D k)

  in_cell : (j : ℕ) → j < length cs
      → InCell A.room (units pad) (start widths (line (number j))) (widths (line (number j))) (side (number j)) (lo (number j)) (hi (number j)) (at axis cs j) (circle cs j).radius
  in_cell j l =
      let a = number j in
      let m = A.numbered j l in
      let th = A.room.th in
      let once : X ≤ pow2 (54 + h) = omega (arith, A.room.lengths) in
      let twice : 2 * X ≤ pow2 (54 + h) = omega (arith, A.room.lengths) in
      record {
        cell_bounded = start_bounded a m;
        width_bounded = bounded (width_upto (line a));
        side_bounded = wider (omega arith) (A.sides a m);
        low_bounded = low_bounded h th B R X A.ends_fit once A.centres A.radii (A.ends a m) j l (eqb_refl a);
        high_bounded = high_bounded h th B R X A.ends_fit once A.centres A.radii (A.ends a m) j l (eqb_refl a);
        centre_bounded = wider (omega (arith, A.ends_fit)) (A.centres j l);
        side = subst (λ (s : Float). Near (units s) (units (hi a) ⊖ units (lo a)) (pow2 h)) (sym (A.side_is a m)) (side_near h th B R X A.ends_fit once A.centres A.radii (A.ends a m) j l (eqb_refl a) twice);
        wide = breadth-holds h th k line side pad S P sum_fits A.sides A.padding a m;
        holds = box-holds h th B R X A.ends_fit once A.centres A.radii (A.ends a m) j l (eqb_refl a);
      }

  pub cluster_shift_lem : (j : ℕ) → j < length cs → ShiftedBy i (cluster_shift k line side pad lo hi (number j)) (at axis cs j) (add binary64 (at axis cs j) (cluster_shift k line side pad lo hi (number j)))
  unfolding placed
  cluster_shift_lem j l = packed-shift A.room (in_cell j l)

  -- the circles as packed
  module _ (y : ℕ → Float) (is : (j : ℕ) → j < length cs → y j ≡ add binary64 (at axis cs j) (cluster_shift k line side pad lo hi (number j))) where
    shifted_by : (j : ℕ) → j < length cs → ShiftedBy i (cluster_shift k line side pad lo hi (number j)) (at axis cs j) (y j)
    shifted_by j l = subst (ShiftedBy i (cluster_shift k line side pad lo hi (number j)) (at axis cs j)) (sym (is j l)) (cluster_shift_lem j l)

    pub packed_within_reach : (j : ℕ) → j < length cs → Bounded (packed_reach i Q (S + P + pow2 h) X) (y j)
    packed_within_reach j l = packed_bounded A.room (in_cell j l) (y j) (unfold placed in shifted_by j l)

    abbrev pub Clear : ℕ → ℕ → Type 0
    Clear j m = units pad ≼ (units (y m) ⊖ units (circle cs m).radius) ⊖ (units (y j) ⊕ units (circle cs j).radius) ⊕ nat (packed_slack h i)

    earlier_line_clear : (j m : ℕ) → j < length cs → m < length cs → line (number j) < line (number m) → Clear j m
    earlier_line_clear j m l n d =
        let a = number j in
        let b = number m in
        gap_in_cells (units (start widths (line a))) (units (widths (line a))) (units (start widths (line b))) (units pad) (units (y j)) (units (circle cs j).radius) (units (y m)) (units (circle cs m).radius) h i
        (upper_in_cell A.room (in_cell j l) (y j) (unfold placed in shifted_by j l))
        (lower_in_cell A.room (in_cell m n) (y m) (unfold placed in shifted_by m n))
        (line_ends_before_later i A.room.ti widths lines (S + P + pow2 h) starts_fit (λ c _. width_upto c) (line a) (line b) d (omega (arith, A.inside b (A.numbered m n))))

    pub other_line_clear : (j m : ℕ) → j < length cs → m < length cs → (line (number j) < line (number m)) ⊎ (line (number m) < line (number j)) → Clear j m ⊎ Clear m j
    other_line_clear j m l n (inl d) = inl (earlier_line_clear j m l n d)
    other_line_clear j m l n (inr d) = inr (earlier_line_clear m j n l d)

    -- a padding that is not below 0 keeps every circle in its line
    pub packed-span : nat 0 ≼ units pad → (j m : ℕ) → j < length cs → m < length cs
        → (units (y j) ⊕ units (circle cs j).radius) ⊖ (units (y m) ⊖ units (circle cs m).radius) ≼ nat (grid_room h i (S + P + pow2 h) lines)
    packed-span low j m l n =
        let a = number j in
        let b = number m in
        let first = line_start_upto a (A.numbered j l) in
        let second = line_start_upto b (A.numbered m n) in
        span_in_cells (units (start widths (line a))) (units (widths (line a))) (units (start widths (line b))) (units pad) (units (y j)) (units (circle cs j).radius) (units (y m)) (units (circle cs m).radius) h i
        (line a * (S + P + pow2 h + pow2 i)) (S + P + pow2 h) (lines * (S + P + pow2 h + pow2 i))
        (upper_in_cell A.room (in_cell j l) (y j) (unfold placed in shifted_by j l))
        (lower_in_cell A.room (in_cell m n) (y m) (unfold placed in shifted_by m n))
        first.within (width_upto (line a)).within (not_below (start widths (line b)) second.sign) low (last_line (line a) lines (S + P + pow2 h) (pow2 i) (A.inside a (A.numbered j l)))
      where
        last_line : (j c M w : ℕ) → j < c → j * (M + w) + M ≤ c * (M + w)
        last_line j c M w l = omega (arith, mul-le-mul_right (M + w) l)
