-- One axis of the grid: every line is as wide as each side in it with the padding, up to one rounding, and no line starts before an earlier one.
use Prim.Native.Nat.{ℕ, zero, suc, ◌+◌, ◌*◌, ◌≤◌, ◌<◌}
use native.Mathlib.Nat.{le_trans, mul-le-mul_right}
use native.Mathlib.Omega.{arith}
use native.Mathlib.Decide.{dec_lt}
use mathlib.Core.Path.{◌≡◌, subst}
use mathlib.Core.Bool.{Bool, false}
use lib.Dec.{T, leb, eqb, eqb_refl}
use lib.Ieee.{Float, binary64, add, lt}
use Rattle.algebra.specs.Integer.{Z, nat, Within, Near, ◌⊕◌, ◌≼◌, ◌≺◌}
use Rattle.rounding.specs.Value.{mag, negative, val, Fin}
use Rattle.rounding.specs.Scale.{pow2}
use Rattle.rounding.specs.Extremes.{maximum}
use Rattle.rounding.proofs.Value.{val-mag}
use Rattle.rounding.proofs.Order.{lt_is}
use Rattle.rounding.proofs.Extremes.{maximum-either}
use Rattle.rounding.proofs.Add.{add-sign}
use Rattle.rounding.proofs.Double.{Close, add64}
use Rattle.scope.specs.Numbers.{nought}
use Rattle.scope.specs.Packing.{breadth, start}
use Rattle.scope.specs.Promises.{units}
use Rattle.laws.proofs.Cases.{tested, is_true, is_false}
use Rattle.laws.proofs.Runs.{gather_keeps}
use Rattle.promises.proofs.packing.Folds.{maximum_bounds}
use Rattle.promises.proofs.numbers.NeverPast.{sum_not_below}
use Rattle.promises.proofs.numbers.Bounded.{Bounded, Upto, nought_upto, near_of, joined, positive-sign}

-- ---- a maximum keeps the sign of a first number that is not negative
maximum-sign : (x y : Float) → Fin binary64 x → Fin binary64 y → negative x ≡ false → negative (maximum x y) ≡ false
unfolding maximum
maximum-sign x y p q s = elim (tested (lt x y)) [
  | yes t ↦ rw (is_true (lt x y) t) (above (subst (λ (z : Z). z ≺ units y) (val-mag binary64 x s) ((lt_is binary64 x y p q).0 t)))
  | no t ↦ rw (is_false (lt x y) t) s
]
  where
    above : nat (mag binary64 x) ≺ units y → negative y ≡ false
    above h = unfold val in positive-sign (negative y) (mag binary64 y) (units y) (omega arith) (omega arith)

-- ---- widths, for sides of at most S and a padding of at most P in size
module _ (i : ℕ) (t : T (leb i 1029)) (k : ℕ) (line : ℕ → ℕ) (side : ℕ → Float) (pad : Float) (S P : ℕ) (room : S + P ≤ pow2 (54 + i))
    (sides : (a : ℕ) → a < k → Bounded S (side a)) (padding : Bounded P pad) where
  sum_close : (a : ℕ) → a < k → Close (add binary64 (side a) pad) (units (side a) ⊕ units pad) 1 (pow2 i) (pow2 (54 + i))
  sum_close a l = let s = (sides a l).within in let p = padding.within in add64 i t (side a) pad (sides a l).fin padding.fin (omega arith)

  abbrev in_line : ℕ → ℕ → Bool
  in_line j a = eqb (line a) j

  abbrev sums : ℕ → Float
  sums a = add binary64 (side a) pad

  sum_bounded : (a : ℕ) → a < k → Bounded (S + P + pow2 i) (sums a)
  sum_bounded a l = record { fin = (sum_close a l).fin; within = grow (units (side a)) (units pad) (units (sums a)) (sides a l).within padding.within (near_of (sum_close a l).near) }
    where
      grow : (a b z : Z) → Within a S → Within b P → Near z (a ⊕ b) (pow2 i) → Within z (S + P + pow2 i)
      grow a b z h g n = omega arith

  pub breadth_upto : (j : ℕ) → Upto (S + P + pow2 i) (breadth k line side pad j)
  unfolding breadth
  breadth_upto j = gather_keeps maximum nought (Upto (S + P + pow2 i)) (in_line j) k sums (nought_upto (S + P + pow2 i)) (λ a g l u h. taken g (sums a) h (sum_bounded a l))
    where
      taken : (x y : Float) → Upto (S + P + pow2 i) x → Bounded (S + P + pow2 i) y → Upto (S + P + pow2 i) (maximum x y)
      taken x y h b = record {
        fin = maximum-either (Fin binary64) x y h.fin b.fin;
        sign = maximum-sign x y h.fin b.fin h.sign;
        within = maximum-either (λ g. Within (units g) (S + P + pow2 i)) x y h.within b.within;
      }

  pub breadth-holds : (a : ℕ) → a < k → units (side a) ⊕ units pad ≼ units (breadth k line side pad (line a)) ⊕ nat (pow2 i)
  breadth-holds a l = rounded_up (units (side a) ⊕ units pad) (units (sums a)) (units (breadth k line side pad (line a))) (near_of (sum_close a l).near) bounds
    where
      bounds : units (sums a) ≼ units (breadth k line side pad (line a))
      bounds = unfold breadth in maximum_bounds (in_line (line a)) k sums (λ b m u. (sum_bounded b m).fin) nought (nought_upto 0).fin a l (eqb_refl (line a))

      rounded_up : (s z w : Z) → Near z s (pow2 i) → z ≼ w → s ≼ w ⊕ nat (pow2 i)
      rounded_up s z w h g = omega arith

-- ---- starts, for any widths: c lines, each of a width of at most M
module _ (i : ℕ) (t : T (leb i 1029)) (w : ℕ → Float) (c M : ℕ) (room : c * (M + pow2 i) ≤ pow2 (54 + i)) (widths : (j : ℕ) → j < c → Upto M (w j)) where
  next_close : (j : ℕ) → j < c → Upto (j * (M + pow2 i)) (start w j) → Close (add binary64 (start w j) (w j)) (units (start w j) ⊕ units (w j)) 1 (pow2 i) (pow2 (54 + i))
  next_close j l h =
      add64 i t (start w j) (w j) h.fin (widths j l).fin
      (sum (units (start w j)) (units (w j)) j M (pow2 i) (pow2 (54 + i)) h.within (widths j l).within (le_trans (mul-le-mul_right (M + pow2 i) l) room))
    where
      sum : (a b : Z) (j M u B : ℕ) → Within a (j * (M + u)) → Within b M → suc j * (M + u) ≤ B → Within (a ⊕ b) B
      sum a b j M u B h k l = omega arith

  -- line j starts at most at j times the widest line with a rounding
  pub start_upto : (j : ℕ) → j ≤ c → Upto (j * (M + pow2 i)) (start w j)
  unfolding start
  start_upto zero l = nought_upto (0 * (M + pow2 i))
  start_upto (suc j) l =
      let h = start_upto j (omega arith) in
      let r = next_close j l h in
      record {
        fin = r.fin;
        sign = add-sign binary64 (start w j) (w j) h.sign (widths j l).sign;
        within = sum (units (start w j)) (units (w j)) (units (add binary64 (start w j) (w j))) j M (pow2 i) h.within (widths j l).within (near_of r.near);
      }
    where
      sum : (a b z : Z) (j M u : ℕ) → Within a (j * (M + u)) → Within b M → Near z (a ⊕ b) u → Within z (suc j * (M + u))
      sum a b z j M u h k l = omega arith

  next_start_near : (j : ℕ) → j < c → Near (units (start w (suc j))) (units (start w j) ⊕ units (w j)) (pow2 i)
  unfolding start
  next_start_near j l = near_of (next_close j l (start_upto j (omega arith))).near

  next_start_not_before : (j : ℕ) → j < c → units (start w j) ≼ units (start w (suc j))
  unfolding start
  next_start_not_before j l =
      let h = start_upto j (omega arith) in
      sum_not_below binary64 (start w j) (w j) h.fin (widths j l).fin h.sign (widths j l).sign (next_close j l h).fin

  pub starts_never_step_back : (j m : ℕ) → j ≤ m → m ≤ c → units (start w j) ≼ units (start w m)
  starts_never_step_back j zero l g = let e : j ≡ 0 = omega arith in rw e (omega arith)
  starts_never_step_back j (suc m) l g = elim (dec_lt m j) [
    | yes h ↦ let e : j ≡ suc m = omega arith in rw e (omega arith)
    | no h ↦ joined (units (start w j)) (units (start w m)) (units (start w (suc m))) (starts_never_step_back j m (omega arith) (omega arith)) (next_start_not_before m g)
  ]

  -- so a line ends before a later one starts, up to one rounding
  pub line_ends_before_later : (j m : ℕ) → j < m → m ≤ c → units (start w j) ⊕ units (w j) ≼ units (start w m) ⊕ nat (pow2 i)
  line_ends_before_later j m l g = rounded_up (units (start w j) ⊕ units (w j)) (units (start w (suc j))) (units (start w m)) (next_start_near j (omega arith)) (starts_never_step_back (suc j) m l g)
    where
      rounded_up : (a b d : Z) → Near b a (pow2 i) → b ≼ d → a ≼ d ⊕ nat (pow2 i)
      rounded_up a b d h k = omega arith
