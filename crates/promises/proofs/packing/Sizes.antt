-- How large areas and padding get: with sides of at most 2^s and at most 4^n boxes the padding is at most 2^(s + n), no rounding left over.
use Prim.Native.Nat.{ℕ, zero, suc, ◌+◌, ◌*◌, ◌^◌, ◌≤◌, ◌<◌}
use native.Mathlib.Nat.{le_trans, le_of_eq, mul-le-mul_right, add-zero, zero-mul, mul-zero}
use native.Mathlib.Omega.{arith}
use mathlib.Core.Path.{◌≡◌, refl, sym, ap, ◌∙◌, subst}
use mathlib.Core.Bool.{Bool, true, false, cond}
use mathlib.Core.List.{List}
use lib.Dec.{T, leb, ltb, leb→le, le→leb, lt→ltb}
use lib.ListN.{length}
use lib.Ieee.{Float, binary64, low, add, mul, unlike}
use Rattle.algebra.specs.Integer.{Z, nat, Within, ◌⊕◌, ◌⊗◌, ◌≼◌}
use Rattle.algebra.proofs.Size.{within-mul}
use Rattle.rounding.specs.Value.{mag, signed, negative, val, Fin}
use Rattle.rounding.specs.Scale.{pow2}
use Rattle.rounding.specs.Root.{root}
use Rattle.rounding.proofs.Value.{Held, val-mag, fin-finite}
use Rattle.rounding.proofs.root.Operation.{root-near}
use Rattle.rounding.proofs.Add.{add-sign}
use Rattle.rounding.proofs.Multiply.{mul_is, mul-sign}
use Rattle.rounding.proofs.Double.{add64, mul64, pow2_scale, pow2-mul, one}
use Rattle.shapes.specs.declared.rectangle.Rectangle.{Rectangle}
use Rattle.scope.specs.Numbers.{nought}
use Rattle.scope.specs.Runs.{gather, always}
use Rattle.scope.specs.Packing.{rectangle, rectangle_area}
use Rattle.scope.specs.Padding.{padding}
use Rattle.scope.specs.Promises.{units}
use Rattle.laws.proofs.Cases.{is_true}
use Rattle.promises.proofs.numbers.NeverPast.{rounded_not_above, sum_not_above}
use Rattle.promises.proofs.numbers.Bounded.{Bounded, Upto, bounded, nought_upto, within-mag}
use Rattle.promises.proofs.numbers.Magnitude.{mag-le}

-- ---- a sum of k numbers, each at most 2^(a - 60), is at most k times that: it is a number of the format, so no rounding goes past it
module _ (i : ℕ) (t : T (leb i 1029)) (a : ℕ) (f : ℕ → Float) (k : ℕ) (room : k * pow2 a ≤ pow2 (54 + i)) (few : k < 2 ^ 53) (each : (j : ℕ) → j < k → Upto (pow2 a) (f j)) where
  multiple_held : (j : ℕ) → j ≤ k → Held 53 (j * pow2 a)
  unfolding pow2
  multiple_held j l = record { digits = j; exponent = 1014 + a; small = omega arith; is = refl }

  pub sum_upto : (n : ℕ) → n ≤ k → Upto (n * pow2 a) (gather (add binary64) nought always n f)
  unfolding gather
  sum_upto zero l = nought_upto (0 * pow2 a)
  sum_upto (suc n) l =
      let h = sum_upto n (omega arith) in
      let x = gather (add binary64) nought always n f in
      let e = each n l in
      let r = add64 i t x (f n) h.fin e.fin (in_range (units x) (units (f n)) n (pow2 a) (pow2 (54 + i)) h.within e.within (le_trans (mul-le-mul_right (pow2 a) l) room)) in
      let s = add-sign binary64 x (f n) h.sign e.sign in
      let sizes = sum-size (mag binary64 x) (mag binary64 (f n)) n (pow2 a) (mag-le x (n * pow2 a) h.within) (mag-le (f n) (pow2 a) e.within) in
      let m = sum_not_above binary64 x (f n) h.fin e.fin h.sign e.sign (suc n * pow2 a) (multiple_held (suc n) l) r.fin sizes in
      record { fin = r.fin; sign = s; within = within-mag (add binary64 x (f n)) (suc n * pow2 a) s m }
    where
      in_range : (x y : Z) (n A B : ℕ) → Within x (n * A) → Within y A → suc n * A ≤ B → Within (x ⊕ y) B
      in_range x y n A B h k l = omega arith

      sum-size : (x y n A : ℕ) → x ≤ n * A → y ≤ A → x + y ≤ suc n * A
      sum-size x y n A h k = omega arith

-- ---- the root of at most 2^(2 c) is at most 2^c
pub root_upto : (c : ℕ) → T (leb (6 + c) 1029) → (x : Float) → Fin binary64 x → negative x ≡ false → mag binary64 x ≤ pow2 (c + (60 + c)) → Upto (pow2 (60 + c)) (root binary64 x)
root_upto c t x p s h =
    let r = root-near binary64 x p s (1014 + (6 + c)) (let l = leb→le (6 + c) 1029 t in omega arith) (rw (← one, top c) (le_trans (mul-le-mul_right (pow2 60) h) (le_of_eq (sym (pow2-mul c (60 + c)))))) in
    record { fin = r.fin; sign = r.sign; within = within-mag (root binary64 x) (pow2 (60 + c)) r.sign (rw top at r.within) }
  where
    top : (c : ℕ) → 2 ^ (53 + suc (1014 + (6 + c))) ≡ pow2 (60 + c)
    top c = unfold pow2 in ap (λ (x : ℕ). 2 ^ x) (next c)
      where
        next : (c : ℕ) → 53 + suc (1014 + (6 + c)) ≡ 1014 + (60 + c)
        next c = omega arith

-- ---- a product of at most 2^a and 2^b is at most 2^(a + b)
pub product_bounded : (a b : ℕ) → T (leb (6 + (a + b)) 1029) → (x y : Float) → Bounded (pow2 (60 + a)) x → Bounded (pow2 (60 + b)) y → Bounded (pow2 (60 + (a + b))) (mul binary64 x y)
product_bounded a b t x y hx hy =
    let r = mul64 (6 + (a + b)) t x y hx.fin hy.fin (subst (λ (z : ℕ). Within (units x ⊗ units y) z) (exponents a b) (within-mul hx.within hy.within)) in
    record { fin = r.fin; within = subst (λ (i : ℕ). Within (units (mul binary64 x y)) (pow2 i)) (sum a b) r.within }
  where
    sum : (a b : ℕ) → 54 + (6 + (a + b)) ≡ 60 + (a + b)
    sum a b = omega arith

    exponents : (a b : ℕ) → pow2 (60 + a) * pow2 (60 + b) ≡ pow2 (54 + (6 + (a + b))) * pow2 60
    exponents a b = pow2-mul a (60 + b) ∙ ap (λ (i : ℕ). pow2 i * pow2 60) (turned a b)
      where
        turned : (a b : ℕ) → a + (60 + b) ≡ 54 + (6 + (a + b))
        turned a b = omega arith

pub product_sign : (x y : Float) → Fin binary64 x → Fin binary64 y → negative x ≡ false → negative y ≡ false → negative (mul binary64 x y) ≡ false
product_sign x y p q s t = rw (mul-sign binary64 x y p q, s, t) refl

pub area_upto : (s : ℕ) → T (leb (6 + (s + s)) 1029) → (x y : Float) → Upto (pow2 (60 + s)) x → Upto (pow2 (60 + s)) y → Upto (pow2 (60 + (s + s))) (mul binary64 x y)
area_upto s t x y hx hy =
    let r = product_bounded s s t x y (bounded hx) (bounded hy) in
    record { fin = r.fin; sign = product_sign x y hx.fin hy.fin hx.sign hy.sign; within = r.within }

-- a product of numbers that are not below 0 is not: where its sign is set, one of them is -0
pub product_not_negative : (x y : Float) → Fin binary64 x → Fin binary64 y → nat 0 ≼ units x → nat 0 ≼ units y → Fin binary64 (mul binary64 x y) → nat 0 ≼ units (mul binary64 x y)
unfolding val
product_not_negative x y p q hx hy F =
    rw (mul-sign binary64 x y p q)
    (go (negative x) (negative y) (mag binary64 x) (mag binary64 y) (mag binary64 (mul binary64 x y)) hx hy
    (λ e. rounded_not_above (mul_is binary64 x y p q) (fin-finite binary64 (mul binary64 x y) F) 0 (record { digits = 0; exponent = 0; small = omega arith; is = refl }) (le_of_eq (e ∙ sym (zero-mul (2 ^ low binary64))))))
  where
    go : (s t : Bool) (a b z : ℕ) → nat 0 ≼ signed s a → nat 0 ≼ signed t b → (a * b ≡ 0 → z ≤ 0) → nat 0 ≼ signed (unlike s t) z
    go false false a b z h k l = omega arith
    go true true a b z h k l = omega arith
    go true false a b z h k l = let e : a ≡ 0 = omega arith in let m = l (ap (λ (c : ℕ). c * b) e ∙ zero-mul b) in omega arith
    go false true a b z h k l = let e : b ≡ 0 = omega arith in let m = l (ap (λ (c : ℕ). a * c) e ∙ mul-zero a) in omega arith

-- ---- the padding
pub few_boxes_no_padding : (rects : List Rectangle) (factor : Float) → length rects < 2 → padding rects factor ≡ nought
unfolding padding
few_boxes_no_padding rects factor h = rw (is_true (ltb (length rects) 2) (lt→ltb (length rects) 2 h))

module _ (s n : ℕ) (t : T (leb (6 + (s + s) + 2 * n) 1029)) (rects : List Rectangle) (factor : Float) (few : length rects ≤ 2 ^ (2 * n)) (few' : length rects < 2 ^ 53)
    (areas : (a : ℕ) → a < length rects → Upto (pow2 (60 + (s + s))) (rectangle_area (rectangle rects a))) (hf : Bounded (pow2 60) factor) where
  abbrev total : Float
  total = gather (add binary64) nought always (length rects) (λ a. rectangle_area (rectangle rects a))

  total_upto : Upto (length rects * pow2 (60 + (s + s))) total
  total_upto = sum_upto (6 + (s + s) + 2 * n) t (60 + (s + s)) (λ a. rectangle_area (rectangle rects a)) (length rects) room few' areas (length rects) (omega arith)
    where
      exponent : (s n : ℕ) → 60 + (s + s) + 2 * n ≡ 54 + (6 + (s + s) + 2 * n)
      exponent s n = omega arith

      room : length rects * pow2 (60 + (s + s)) ≤ pow2 (54 + (6 + (s + s) + 2 * n))
      room = le_trans (mul-le-mul_right (pow2 (60 + (s + s))) few) (le_of_eq (sym (pow2_scale (60 + (s + s)) (2 * n)) ∙ ap pow2 (exponent s n)))

  small : (c : ℕ) → c ≤ 6 + (s + s) + 2 * n → T (leb c 1029)
  small c l = le→leb c 1029 (let h = leb→le (6 + (s + s) + 2 * n) 1029 t in omega arith)

  root_total_upto : Upto (pow2 (60 + (s + n))) (root binary64 total)
  root_total_upto = root_upto (s + n) (small (6 + (s + n)) (omega arith)) total total_upto.fin total_upto.sign (le_trans (mag-le total (length rects * pow2 (60 + (s + s))) total_upto.within) room)
    where
      exponent : (s n : ℕ) → 60 + (s + s) + 2 * n ≡ s + n + (60 + (s + n))
      exponent s n = omega arith

      room : length rects * pow2 (60 + (s + s)) ≤ pow2 (s + n + (60 + (s + n)))
      room = le_trans (mul-le-mul_right (pow2 (60 + (s + s))) few) (le_of_eq (sym (pow2_scale (60 + (s + s)) (2 * n)) ∙ ap pow2 (exponent s n)))

  full_bounded : Bounded (pow2 (60 + (s + n))) (mul binary64 (root binary64 total) factor)
  full_bounded = subst (λ (c : ℕ). Bounded (pow2 (60 + c)) (mul binary64 (root binary64 total) factor)) (add-zero (s + n))
      (product_bounded (s + n) 0 (small (6 + (s + n + 0)) (omega arith)) (root binary64 total) factor (bounded root_total_upto) hf)

  pub padding_bounded : Bounded (pow2 (60 + (s + n))) (padding rects factor)
  unfolding padding
  padding_bounded = either (ltb (length rects) 2)
    where
      either : (b : Bool) → Bounded (pow2 (60 + (s + n))) (cond b nought (mul binary64 (root binary64 total) factor))
      either true = bounded (nought_upto (pow2 (60 + (s + n))))
      either false = full_bounded

  pub padding_not_negative : nat 0 ≼ units factor → nat 0 ≼ units (padding rects factor)
  unfolding padding
  padding_not_negative h = either (ltb (length rects) 2)
    where
      either : (b : Bool) → nat 0 ≼ units (cond b nought (mul binary64 (root binary64 total) factor))
      either true = let w = (nought_upto 0).within in omega arith
      either false = product_not_negative (root binary64 total) factor root_total_upto.fin hf.fin (rw (val-mag binary64 (root binary64 total) root_total_upto.sign) (omega arith)) h full_bounded.fin
