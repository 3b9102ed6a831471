-- One axis of a circle on its way into its cell, and the gap of two circles whose boxes stand in different lines.
-- Roundings have two sizes: u = pow2 h for lengths within a cluster, w = pow2 i for positions.
use Prim.Native.Nat.{ℕ, ◌+◌, ◌*◌, ◌≤◌, ◌<◌}
use native.Mathlib.Omega.{arith}
use mathlib.Core.Path.{refl}
use lib.Dec.{T, leb}
use lib.Ieee.{Float, binary64, add, sub, div}
use Rattle.algebra.specs.Integer.{Z, nat, Within, Near, ◌⊕◌, ◌⊖◌, ◌≼◌}
use Rattle.rounding.specs.Value.{Fin}
use Rattle.rounding.specs.Scale.{pow2}
use Rattle.rounding.proofs.Double.{add64, sub64}
use Rattle.scope.specs.Numbers.{two}
use Rattle.scope.specs.Gauge.{middle}
use Rattle.scope.specs.Packing.{centred}
use Rattle.scope.specs.Promises.{units}
use Rattle.promises.proofs.numbers.Bounded.{Bounded, half_is, middle_is, near_of, pow2-positive}
use Rattle.promises.proofs.packing.Shift.{ShiftedBy, IsSum, shifted_is_sum}
use Rattle.promises.proofs.packing.BoxSides.{BoxHolds}

-- ---- Q bounds the starts of lines, M the widths and sides, X the ends of the boxes and the centres
pub record Room (h i Q M X : ℕ) : Type 0 where
  pub th : T (leb h 1029)
  pub ti : T (leb i 1029)
  pub finer : pow2 h ≤ pow2 i
  pub lengths : 2 * M + 2 * X ≤ pow2 (54 + h)
  pub positions : Q + 2 * M + 3 * X + 9 * pow2 i ≤ pow2 (54 + i)

-- where a packed circle may stand
abbrev pub packed_reach : ℕ → ℕ → ℕ → ℕ → ℕ
packed_reach i Q M X = Q + M + 2 * X + 7 * pow2 i

-- the roundings of a packed gap: nine of positions, nine of lengths
abbrev pub packed_slack : ℕ → ℕ → ℕ
packed_slack h i = 9 * pow2 i + 9 * pow2 h

-- the room that the circles in so many lines take, each of a width of at most M
abbrev pub grid_room : ℕ → ℕ → ℕ → ℕ → ℕ
grid_room h i M lines = lines * (M + pow2 i) + packed_slack h i

module _ {h i Q M X : ℕ} (room : Room h i Q M X) where
  -- a side in the middle of its cell
  centred_is : (cell b s : Float) → Bounded Q cell → Bounded M b → Bounded M s
      → Fin binary64 (centred cell b s) × Near (units (centred cell b s) ⊕ units (centred cell b s)) (units cell ⊕ units cell ⊕ units b) (4 * pow2 i + 3 * pow2 h)
  unfolding centred
  centred_is cell b s hc hb hs =
      let cw = hc.within in let bw = hb.within in let sw = hs.within in
      let d = sub64 h room.th b s hb.fin hs.fin (omega arith) in
      let D = sub binary64 b s in
      let g = half_is D d.fin in
      let G = div binary64 D two in
      let p = add64 i room.ti cell G hc.fin g.fin (first-sum (units cell) (units G) (units D) (units b) (units s) cw bw sw (near_of d.near) g.near) in
      let P = add binary64 cell G in
      let q = half_is s hs.fin in
      let H = div binary64 s two in
      let n = add64 i room.ti P H p.fin q.fin (second_sum (units cell) (units G) (units D) (units b) (units s) (units P) (units H) cw bw sw (near_of d.near) g.near (near_of p.near) q.near) in
      (n.fin, joined (units cell) (units b) (units s) (units D) (units G) (units P) (units H) (units (add binary64 P H)) (pow2 h) (pow2 i) (pow2-positive h) (near_of d.near) g.near (near_of p.near) q.near (near_of n.near))
    where
      unit : 0 < pow2 h
      unit = pow2-positive h

      first-sum : (c g d b s : Z) → Within c Q → Within b M → Within s M → Near d (b ⊖ s) (pow2 h) → Near (g ⊕ g) d 1 → Within (c ⊕ g) (pow2 (54 + i))
      first-sum c g d b s h1 h2 h3 h4 h5 = omega (arith, unit)

      second_sum : (c g d b s p q : Z) → Within c Q → Within b M → Within s M → Near d (b ⊖ s) (pow2 h) → Near (g ⊕ g) d 1 → Near p (c ⊕ g) (pow2 i) → Near (q ⊕ q) s 1
          → Within (p ⊕ q) (pow2 (54 + i))
      second_sum c g d b s p q h1 h2 h3 h4 h5 h6 h7 = omega (arith, unit)

      joined : (cell b s d g p q n : Z) (u w : ℕ) → 0 < u → Near d (b ⊖ s) u → Near (g ⊕ g) d 1 → Near p (cell ⊕ g) w → Near (q ⊕ q) s 1 → Near n (p ⊕ q) w
          → Near (n ⊕ n) (cell ⊕ cell ⊕ b) (4 * w + 3 * u)
      joined cell b s d g p q n u w pos h1 h2 h3 h4 h5 = omega arith

  -- what is asked of a circle x ± r in the box lo .. hi of side s, in a cell of width b
  pub record InCell (pad : Z) (cell b s lo hi x r : Float) : Type 0 where
    pub cell_bounded : Bounded Q cell
    pub width_bounded : Bounded M b
    pub side_bounded : Bounded M s
    pub low_bounded : Bounded X lo
    pub high_bounded : Bounded X hi
    pub centre_bounded : Bounded X x
    pub side : Near (units s) (units hi ⊖ units lo) (pow2 h)
    pub wide : units s ⊕ pad ≼ units b ⊕ nat (pow2 h)
    pub holds : BoxHolds (pow2 h) (units lo) (units hi) (units x) (units r)

  -- its shift: to the cell's middle, from the box's
  abbrev pub shift_to : Float → Float → Float → Float → Float → Float
  shift_to cell b s lo hi = sub binary64 (centred cell b s) (middle lo hi)

  module _ {pad : Z} {cell b s lo hi x r : Float} (c : InCell pad cell b s lo hi x r) where
    abbrev new : Float
    new = centred cell b s

    abbrev old : Float
    old = middle lo hi

    new_is : Fin binary64 new × Near (units new ⊕ units new) (units cell ⊕ units cell ⊕ units b) (4 * pow2 i + 3 * pow2 h)
    new_is = centred_is cell b s c.cell_bounded c.width_bounded c.side_bounded

    old_is : Fin binary64 old × Near (units old ⊕ units old) (units lo ⊕ units hi) (2 * pow2 h)
    old_is = middle_is h room.th X (omega (arith, room.lengths)) lo hi c.low_bounded c.high_bounded

    new_within : Within (units new) (Q + M + 4 * pow2 i)
    new_within = half-within (units cell) (units b) (units new) c.cell_bounded.within c.width_bounded.within new_is.1
      where
        half-within : (c b n : Z) → Within c Q → Within b M → Near (n ⊕ n) (c ⊕ c ⊕ b) (4 * pow2 i + 3 * pow2 h) → Within n (Q + M + 4 * pow2 i)
        half-within c b n h1 h2 h3 = omega (arith, room.finer)

    old_within : Within (units old) (X + pow2 i)
    old_within = half-within (units lo) (units hi) (units old) c.low_bounded.within c.high_bounded.within old_is.1
      where
        half-within : (lo hi m : Z) → Within lo X → Within hi X → Near (m ⊕ m) (lo ⊕ hi) (2 * pow2 h) → Within m (X + pow2 i)
        half-within lo hi m h1 h2 h3 = omega (arith, room.finer)

    shift_is : Fin binary64 (sub binary64 new old) × Near (units (sub binary64 new old)) (units new ⊖ units old) (pow2 i)
    shift_is =
        let r = sub64 i room.ti new old new_is.0 old_is.0 (in_range (units new) (units old) new_within old_within) in
        (r.fin, near_of r.near)
      where
        in_range : (n m : Z) → Within n (Q + M + 4 * pow2 i) → Within m (X + pow2 i) → Within (n ⊖ m) (pow2 (54 + i))
        in_range n m h1 h2 = omega (arith, room.positions)

    pub packed-shift : ShiftedBy i (shift_to cell b s lo hi) x (add binary64 x (shift_to cell b s lo hi))
    packed-shift = record { fin = shift_is.0; room = in_range (units new) (units old) (units (sub binary64 new old)) (units x) new_within old_within shift_is.1 c.centre_bounded.within; is = refl }
      where
        in_range : (n m d x : Z) → Within n (Q + M + 4 * pow2 i) → Within m (X + pow2 i) → Near d (n ⊖ m) (pow2 i) → Within x X → Within (x ⊕ d) (pow2 (54 + i))
        in_range n m d x h1 h2 h3 h4 = omega (arith, room.positions)

    module _ (y : Float) (moved : ShiftedBy i (shift_to cell b s lo hi) x y) where
      moved_is : IsSum i (shift_to cell b s lo hi) x y
      moved_is = shifted_is_sum i room.ti c.centre_bounded.fin moved

      moved-near : Near (units y) (units x ⊕ units new ⊖ units old) (2 * pow2 i)
      moved-near = joined (units x) (units new) (units old) (units (sub binary64 new old)) (units y) shift_is.1 moved_is.near
        where
          joined : (x n m d y : Z) → Near d (n ⊖ m) (pow2 i) → Near y (x ⊕ d) (pow2 i) → Near y (x ⊕ n ⊖ m) (2 * pow2 i)
          joined x n m d y h k = omega arith

      pub packed_bounded : Bounded (packed_reach i Q M X) y
      packed_bounded = record { fin = moved_is.fin; within = sum (units x) (units new) (units old) (units y) c.centre_bounded.within new_within old_within moved-near }
        where
          sum : (x n m y : Z) → Within x X → Within n (Q + M + 4 * pow2 i) → Within m (X + pow2 i) → Near y (x ⊕ n ⊖ m) (2 * pow2 i) → Within y (packed_reach i Q M X)
          sum x n m y h1 h2 h3 h4 = omega arith

      -- twice the lower and the upper end of the packed circle's box
      pub lower_in_cell : units cell ⊕ units cell ⊕ pad ≼ (units y ⊖ units r) ⊕ (units y ⊖ units r) ⊕ nat (8 * pow2 i + 9 * pow2 h)
      lower_in_cell = ends (units cell) (units b) (units s) (units lo) (units hi) (units new) (units old) (units x) (units r) (units y) (pow2 h) (pow2 i) new_is.1 old_is.1 c.side c.wide c.holds.left moved-near
        where
          ends : (cell b s lo hi n m x r y : Z) (u w : ℕ) → Near (n ⊕ n) (cell ⊕ cell ⊕ b) (4 * w + 3 * u) → Near (m ⊕ m) (lo ⊕ hi) (2 * u) → Near s (hi ⊖ lo) u → s ⊕ pad ≼ b ⊕ nat u
              → lo ≼ x ⊖ r ⊕ nat u → Near y (x ⊕ n ⊖ m) (2 * w) → cell ⊕ cell ⊕ pad ≼ (y ⊖ r) ⊕ (y ⊖ r) ⊕ nat (8 * w + 9 * u)
          ends cell b s lo hi n m x r y u w h1 h2 h3 h4 h5 h6 = omega arith

      pub upper_in_cell : (units y ⊕ units r) ⊕ (units y ⊕ units r) ⊕ pad ≼ units cell ⊕ units cell ⊕ units b ⊕ units b ⊕ nat (8 * pow2 i + 9 * pow2 h)
      upper_in_cell = ends (units cell) (units b) (units s) (units lo) (units hi) (units new) (units old) (units x) (units r) (units y) (pow2 h) (pow2 i) new_is.1 old_is.1 c.side c.wide c.holds.right moved-near
        where
          ends : (cell b s lo hi n m x r y : Z) (u w : ℕ) → Near (n ⊕ n) (cell ⊕ cell ⊕ b) (4 * w + 3 * u) → Near (m ⊕ m) (lo ⊕ hi) (2 * u) → Near s (hi ⊖ lo) u → s ⊕ pad ≼ b ⊕ nat u
              → x ⊕ r ≼ hi ⊕ nat u → Near y (x ⊕ n ⊖ m) (2 * w) → (y ⊕ r) ⊕ (y ⊕ r) ⊕ pad ≼ cell ⊕ cell ⊕ b ⊕ b ⊕ nat (8 * w + 9 * u)
          ends cell b s lo hi n m x r y u w h1 h2 h3 h4 h5 h6 = omega arith

-- ---- the second circle's line starts where the first's ends, or later
pub gap_in_cells : (cell b cell' pad y r y' r' : Z) (h i : ℕ) → (y ⊕ r) ⊕ (y ⊕ r) ⊕ pad ≼ cell ⊕ cell ⊕ b ⊕ b ⊕ nat (8 * pow2 i + 9 * pow2 h)
    → cell' ⊕ cell' ⊕ pad ≼ (y' ⊖ r') ⊕ (y' ⊖ r') ⊕ nat (8 * pow2 i + 9 * pow2 h) → cell ⊕ b ≼ cell' ⊕ nat (pow2 i) → pad ≼ (y' ⊖ r') ⊖ (y ⊕ r) ⊕ nat (packed_slack h i)
gap_in_cells cell b cell' pad y r y' r' h i k l m = omega arith

-- ---- the lines lie between 0 and L
pub span_in_cells : (cell b cell' pad y r y' r' : Z) (h i c M L : ℕ) → (y ⊕ r) ⊕ (y ⊕ r) ⊕ pad ≼ cell ⊕ cell ⊕ b ⊕ b ⊕ nat (8 * pow2 i + 9 * pow2 h)
    → cell' ⊕ cell' ⊕ pad ≼ (y' ⊖ r') ⊕ (y' ⊖ r') ⊕ nat (8 * pow2 i + 9 * pow2 h) → Within cell c → Within b M → nat 0 ≼ cell' → nat 0 ≼ pad → c + M ≤ L
    → (y ⊕ r) ⊖ (y' ⊖ r') ≼ nat (L + packed_slack h i)
span_in_cells cell b cell' pad y r y' r' h i c M L h1 h2 h3 h4 h5 h6 h7 = omega arith
