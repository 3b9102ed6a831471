-- The columns of any proportion from 1/4 to 4: the root of the proportion lies between 1/2 and 2 exactly, so the columns lie between half and twice the root
-- of the count, raised. For 64 boxes no more than 16 columns or rows come of it.
use Prim.Native.Nat.{ℕ, zero, suc, ◌+◌, ◌-◌, ◌*◌, ◌/◌, ◌^◌, ◌≤◌, ◌<◌}
use native.Mathlib.Nat.{le_trans, le_of_eq, mul-le-mul_left, mul-le-mul_right, pow-succ', mul_left_comm, mul-one}
use native.Mathlib.Omega.{arith}
use mathlib.Core.Path.{◌≡◌, refl, sym, ap, ◌∙◌, subst}
use mathlib.Core.Bool.{Bool, false, ◌&&◌}
use lib.Dec.{T, leb, ltb, leb→le, ltb→lt, lit≤}
use lib.IntN.{pos, negsuc}
use lib.ListN.{replicate, length-replicate}
use lib.Ieee.{Float, fin, binary64, low, mul, unlike, fits}
use Rattle.algebra.specs.Integer.{nat}
use Rattle.algebra.proofs.Table.{every, at}
use Rattle.rounding.specs.Value.{mag, negative, val, Fin}
use Rattle.rounding.specs.Scale.{pow2}
use Rattle.rounding.specs.Root.{root}
use Rattle.rounding.proofs.Value.{Held, held, fin-finite, val-mag, above_zero_sign}
use Rattle.rounding.proofs.Rounded.{RoundOf}
use Rattle.rounding.proofs.Multiply.{mul_is}
use Rattle.rounding.proofs.root.Operation.{root-finite, root-nearest}
use Rattle.rounding.proofs.Double.{one, pow2_scale, pow2-mul}
use Rattle.scope.specs.Numbers.{whole}
use Rattle.scope.specs.Limits.{proportion_ok}
use Rattle.scope.specs.Packing.{columns}
use Rattle.scope.specs.Computing.{computing}
use Rattle.laws.proofs.Cases.{and_iff}
use Rattle.laws.proofs.Between.{Between, within-between}
use Rattle.promises.proofs.numbers.Bounded.{within-mag, pow2-positive}
use Rattle.promises.proofs.numbers.NeverPast.{rounded_not_above, rounded_not_below, root_not_above, root_not_below}
use Rattle.promises.proofs.packing.Sizes.{product_bounded, product_sign}
use Rattle.promises.proofs.packing.Raised.{raised_at_most, raised-above, IsWhole, whole_is}
use Rattle.promises.proofs.packing.Places.{rows_at_most}
use Rattle.promises.proofs.packing.Columns.{GridFits}

-- ---- half and twice a number that the format holds
twice_held : (p w : ℕ) → Held p w → Held p (2 * w)
twice_held p w h = record { digits = h.digits; exponent = suc h.exponent; small = h.small; is = ap (λ (z : ℕ). 2 * z) h.is ∙ sym (ap (λ (z : ℕ). h.digits * z) (pow-succ' 2 h.exponent) ∙ mul_left_comm h.digits 2 (2 ^ h.exponent)) }

half_held : (p w : ℕ) → 2 ^ p ≤ w → Held p w → (u : ℕ) × Held p u × (w ≡ 2 * u)
half_held p w l h = go h.exponent h.is
  where
    go : (e : ℕ) → w ≡ h.digits * 2 ^ e → (u : ℕ) × Held p u × (w ≡ 2 * u)
    go zero i = absurd (short h.digits (2 ^ p) h.small (i ∙ mul-one h.digits) l)
      where
        short : (d P : ℕ) → d < P → w ≡ d → P ≤ w → ⊥
        short d P a b c = omega arith
    go (suc e) i = (h.digits * 2 ^ e, record { digits = h.digits; exponent = e; small = h.small; is = refl }, i ∙ ap (λ (z : ℕ). h.digits * z) (pow-succ' 2 e) ∙ mul_left_comm h.digits 2 (2 ^ e))

-- ---- powers of two to hold the roots against
record IsPower (i : ℕ) (w : Float) : Type 0 where
  fin : Fin binary64 w
  size : mag binary64 w ≡ pow2 i

power_0 : IsPower 60 (fin false 1 (pos 0))
unfolding Fin fits mag pow2
power_0 = record { fin = tt; size = refl }

power_3 : IsPower 63 (fin false 1 (pos 3))
unfolding Fin fits mag pow2
power_3 = record { fin = tt; size = refl }

power_27 : IsPower 87 (fin false 1 (pos 27))
unfolding Fin fits mag pow2
power_27 = record { fin = tt; size = refl }

power_1 : IsPower 61 (fin false 1 (pos 1))
unfolding Fin fits mag pow2
power_1 = record { fin = tt; size = refl }

power_minus_1 : IsPower 59 (fin false 1 (negsuc 0))
unfolding Fin fits mag pow2
power_minus_1 = record { fin = tt; size = refl }

module _ {i : ℕ} {w : Float} (q : IsPower i w) (x : Float) (p : Fin binary64 x) (s : negative x ≡ false) where
  root_up_to_power : mag binary64 x * pow2 60 ≤ pow2 i * pow2 i → mag binary64 (root binary64 x) ≤ pow2 i
  root_up_to_power h = subst (λ (b : ℕ). mag binary64 (root binary64 x) ≤ b) q.size (root_not_above binary64 x w p s q.fin (rw (q.size, ← one) h))

  root_from_power : pow2 i * pow2 i ≤ mag binary64 x * pow2 60 → pow2 i ≤ mag binary64 (root binary64 x)
  root_from_power h = subst (λ (b : ℕ). b ≤ mag binary64 (root binary64 x)) q.size (root_not_below binary64 x w p s q.fin (rw (q.size, ← one) h))

-- ---- a proportion from 1/4 to 4
pub record Proportion (p : Float) : Type 0 where
  pub fin : Fin binary64 p
  pub sign : negative p ≡ false
  pub from : pow2 58 ≤ mag binary64 p
  pub to : mag binary64 p ≤ pow2 62

proportion_between : (p : Float) → T (fits binary64 p) → T (proportion_ok p) → Between (nat (pow2 58)) (nat (pow2 62)) p
unfolding proportion_ok Fin fits val mag negative pow2
proportion_between p f t = within-between (fin false 1 (negsuc 1)) (fin false 1 (pos 2)) p tt tt f t

pub proportion_is : (p : Float) → T (fits binary64 p) → T (proportion_ok p) → Proportion p
proportion_is p f t =
    let b = proportion_between p f t in
    let lo = b.from in
    let s = above_zero_sign binary64 p (omega (arith, pow2-positive 58)) in
    let lower = rw (val-mag binary64 p s) at lo in
    let upper = rw (val-mag binary64 p s) at b.to in
    record { fin = b.fin; sign = s; from = omega arith; to = omega arith }

module _ (k : ℕ) (few : k ≤ 2 ^ 53) (p : Float) (P : Proportion p) where
  abbrev count_root : Float
  count_root = root binary64 (whole k)

  abbrev proportion_root : Float
  proportion_root = root binary64 p

  abbrev product : Float
  product = mul binary64 count_root proportion_root

  counted : IsWhole k (whole k)
  counted = whole_is k few

  count_root_to : mag binary64 count_root ≤ pow2 87
  count_root_to = root_up_to_power power_27 (whole k) counted.fin counted.sign (rw counted.size (squared (pow2 60) (pow2 87) (pow2_scale 60 27)))
    where
      squared : (L M : ℕ) → M ≡ 2 ^ 27 * L → k * L * L ≤ M * M
      squared L M e = rw e (omega (arith, mul-le-mul_right (L * L) few))

  proportion_root_from : pow2 59 ≤ mag binary64 proportion_root
  proportion_root_from = root_from_power power_minus_1 p P.fin P.sign (quarter (pow2 58) (pow2 59) (pow2 60) (mag binary64 p) (pow2_scale 58 1) (pow2_scale 58 2) P.from)
    where
      quarter : (a b c m : ℕ) → b ≡ 2 * a → c ≡ 4 * a → a ≤ m → b * b ≤ m * c
      quarter a b c m e f h = rw (e, f) (omega (arith, mul-le-mul_right (4 * a) h))

  proportion_root_to : mag binary64 proportion_root ≤ pow2 61
  proportion_root_to = root_up_to_power power_1 p P.fin P.sign (le_trans (mul-le-mul_right (pow2 60) P.to) (le_of_eq (sym (pow2-mul 1 61))))

  -- ---- their product
  count_root_fin : Fin binary64 count_root
  count_root_fin = root-finite binary64 (whole k) counted.fin counted.sign

  count_root_sign : negative count_root ≡ false
  count_root_sign = (root-nearest binary64 (whole k) counted.fin counted.sign).sign

  proportion_root_fin : Fin binary64 proportion_root
  proportion_root_fin = root-finite binary64 p P.fin P.sign

  proportion_root_sign : negative proportion_root ≡ false
  proportion_root_sign = (root-nearest binary64 p P.fin P.sign).sign

  product_fin : Fin binary64 product
  product_fin = (product_bounded 27 1 tt count_root proportion_root
      (record { fin = count_root_fin; within = within-mag count_root (pow2 87) count_root_sign count_root_to })
      (record { fin = proportion_root_fin; within = within-mag proportion_root (pow2 61) proportion_root_sign proportion_root_to })).fin

  product_positive : negative product ≡ false
  product_positive = product_sign count_root proportion_root count_root_fin proportion_root_fin count_root_sign proportion_root_sign

  product_round : RoundOf binary64 product (unlike (negative count_root) (negative proportion_root)) (mag binary64 count_root * mag binary64 proportion_root) (2 ^ low binary64)
  product_round = mul_is binary64 count_root proportion_root count_root_fin proportion_root_fin

  product_to : mag binary64 product ≤ 2 * mag binary64 count_root
  product_to = rounded_not_above product_round (fin-finite binary64 product product_fin) (2 * mag binary64 count_root) (twice_held 53 (mag binary64 count_root) (held binary64 count_root count_root_fin))
      (rw (← one) (doubled (mag binary64 count_root) (mag binary64 proportion_root) (pow2 60) (pow2 61) (pow2_scale 60 1) proportion_root_to))
    where
      doubled : (a b c d : ℕ) → d ≡ 2 * c → b ≤ d → a * b ≤ 2 * a * c
      doubled a b c d e h = omega (arith, mul-le-mul_left a h, ap (λ (z : ℕ). a * z) e)

  -- ---- the columns lie between half and twice the root of the count
  pub columns_at_most : (c : ℕ) → 2 * mag binary64 count_root ≤ c * pow2 60 → columns k p ≤ c
  unfolding columns
  columns_at_most c h = raised_at_most product product_fin c (le_trans product_to h)

  -- for 64 boxes they are at most 16
  pub columns_at_most_16 : k ≤ 64 → columns k p ≤ 16
  columns_at_most_16 most = columns_at_most 16 (omega (arith, root_8, pow2_scale 60 3))
    where
      squared : (L M : ℕ) → M ≡ 8 * L → k * L * L ≤ M * M
      squared L M e = rw e (omega (arith, mul-le-mul_right (L * L) most))

      root_8 : mag binary64 count_root ≤ pow2 63
      root_8 = root_up_to_power power_3 (whole k) counted.fin counted.sign (rw counted.size (squared (pow2 60) (pow2 63) (pow2_scale 60 3)))

  -- ---- and with some boxes
  module _ (some : 0 < k) where
    count_root_from : pow2 60 ≤ mag binary64 count_root
    count_root_from = root_from_power power_0 (whole k) counted.fin counted.sign (rw counted.size (omega (arith, mul-le-mul_right (pow2 60 * pow2 60) some)))

    product_from : mag binary64 count_root ≤ 2 * mag binary64 product
    product_from = twice_half (half_held 53 (mag binary64 count_root) (le_trans long count_root_from) (held binary64 count_root count_root_fin))
      where
        long : 2 ^ 53 ≤ pow2 60
        long = unfold pow2 in lit≤ tt

        halved : (a u b c d : ℕ) → a ≡ 2 * u → c ≡ 2 * d → d ≤ b → u * c ≤ a * b
        halved a u b c d e f h = rw (e, f) (omega (arith, mul-le-mul_left u h))

        twice_half : (u : ℕ) × Held 53 u × (mag binary64 count_root ≡ 2 * u) → mag binary64 count_root ≤ 2 * mag binary64 product
        twice_half h =
            let l = rounded_not_below product_round (fin-finite binary64 product product_fin) h.0 h.1
            (rw (← one) (halved (mag binary64 count_root) h.0 (mag binary64 proportion_root) (pow2 60) (pow2 59) h.2 (pow2_scale 59 1) proportion_root_from)) in
            omega (arith, h.2)

    pub columns-above : (c : ℕ) → 2 * (c * pow2 60) < mag binary64 count_root → c < columns k p
    unfolding columns
    columns-above c h = raised-above product product_fin product_positive c (below (c * pow2 60) (mag binary64 product) (mag binary64 count_root) product_from h)
      where
        below : (a b r : ℕ) → r ≤ 2 * b → 2 * a < r → a < b
        below a b r h g = omega arith

    pub some-columns : 0 < columns k p
    some-columns = columns-above 0 (positive (pow2 60) (mag binary64 count_root) (pow2-positive 60) count_root_from)
      where
        positive : (l r : ℕ) → 0 < l → l ≤ r → 2 * (0 * l) < r
        positive l r h g = omega arith

-- ---- a test of a count's root r: no proportion makes more than `lines` columns, and every one makes so many that there are no more rows
-- half of the root, raised
abbrev half_raised : ℕ → ℕ
half_raised r = (r + (pow2 61 - 1)) / pow2 61

abbrev lines_test : ℕ → ℕ → ℕ → Bool
lines_test lines k r = leb (2 * r) (lines * pow2 60) && (ltb (2 * ((half_raised r - 1) * pow2 60)) r && leb k (lines * half_raised r))

pub tested_grid_fits : (lines k : ℕ) → 0 < k → k ≤ 2 ^ 53 → (p : Float) → Proportion p → T (lines_test lines k (mag binary64 (root binary64 (whole k)))) → GridFits lines k (columns k p)
tested_grid_fits lines k some few p P t =
    let r = mag binary64 (root binary64 (whole k)) in
    let c = half_raised r in
    let a = (and_iff (leb (2 * r) (lines * pow2 60)) (ltb (2 * ((c - 1) * pow2 60)) r && leb k (lines * c))).0 t in
    let b = (and_iff (ltb (2 * ((c - 1) * pow2 60)) r) (leb k (lines * c))).0 a.1 in
    let above = columns-above k few p P some (c - 1) (ltb→lt (2 * ((c - 1) * pow2 60)) r b.0) in
    record {
      some_column = some-columns k few p P some;
      few_columns = columns_at_most k few p P lines (leb→le (2 * r) (lines * pow2 60) a.0);
      few_rows = rows_at_most k (columns k p) lines (some-columns k few p P some) (enough c (columns k p) (leb→le k (lines * c) b.1) above);
    }
  where
    enough : (c d : ℕ) → k ≤ lines * c → c - 1 < d → k ≤ lines * d
    enough c d h g = let l : c ≤ d = omega arith in le_trans h (mul-le-mul_left lines l)

-- ---- 64 boxes: 16 lines, by one test over all counts
abbrev test64 : ℕ → ℕ → Bool
test64 i _ = lines_test 16 (suc i) (mag binary64 (root binary64 (whole (suc i))))

tests_64 : T (every test64 0 (replicate 64 0))
unfolding computing mag pow2
tests_64 = tt

pub grid_fits_64 : (k : ℕ) → 0 < k → k ≤ 64 → (p : Float) → Proportion p → GridFits 16 k (columns k p)
grid_fits_64 k some few p P =
    let e : suc (k - 1) ≡ k = omega arith in
    subst (λ (n : ℕ). GridFits 16 n (columns n p)) e
    (tested_grid_fits 16 (suc (k - 1)) (omega arith) (omega arith) p P (at test64 0 (replicate 64 0) tests_64 (k - 1) (rw (length-replicate {A = ℕ} 64 0) (omega arith))))
