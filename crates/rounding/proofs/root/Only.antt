-- `IsNearestRoot` says all there is to say: two values that meet it are the same. If they were not, the root would be half-way between them and both would be
-- even; but between two even values of a format lies another, which is nearer.
use mathlib.Core.Path.{◌≡◌, refl, sym, ap, ◌∙◌, subst}
use mathlib.Core.Logic.{inl, inr}
use mathlib.Core.Bool.{false}
use Prim.Native.Nat.{ℕ, zero, suc, ◌+◌, ◌-◌, ◌*◌, ◌/◌, ◌%◌, ◌^◌, ◌≤◌, ◌<◌}
use native.Mathlib.Nat.{le_antisymm, le_trans, le_of_eq, le_of_lt, lt_of_lt_of_le, lt_of_not-le, not-le_of_lt, add_comm, mul-le-mul, mul-lt-mul_of_pos_right, lt_of_mul-lt-mul_right, mul-div_cancel, mul_assoc, pow-succ', zero-lt-suc}
use native.Mathlib.Omega.{arith}
use lib.Dec.{T}
use lib.Pow.{pow_pos, pow_mono, pow-add, shl_lt}
use lib.Ieee.{Float, Format, prec, low, size, round}
use lib.Ieee.Digits.{size-lt, size-le, size_reaches, back}
use lib.Ieee.Fits.{two, kept-lt}
use lib.Ieee.Scale.{finite}
use lib.Ieee.Exact.{HasValue, round_exact}
use Rattle.algebra.proofs.Size.{either}
use Rattle.rounding.specs.Root.{nearest_root}
use Rattle.rounding.specs.NearestRoot.{square_of, square_of_root, IsNearestRoot}
use Rattle.rounding.specs.Value.{mag, Fin, last_digit}
use Rattle.rounding.proofs.Value.{Held, held, mag_of, fin_of, mag-below}
use Rattle.rounding.proofs.Unique.{val_unique}
use Rattle.rounding.proofs.root.Nearest.{nearest-root}

-- ---- numbers of p digits: w has them at exponent d where it is at least 2 ^ (p - 1 + d), or d is 0
abbrev Reaches : ℕ → ℕ → ℕ → Type 0
Reaches p d w = 0 < d → 2 ^ (p - 1 + d) ≤ w

digits_at : (p d w : ℕ) → 0 < p → Reaches p d w → w < 2 ^ (p + d) → size w - p ≡ d
digits_at p zero w P lo hi = let h = size-le w (p + 0) hi in omega arith
digits_at p (suc d) w P lo hi =
    let h = size-le w (p + suc d) hi in
    let g : p - 1 + suc d < size w = lt_of_not-le (λ (g : size w ≤ p - 1 + suc d). not-le_of_lt (lt_of_lt_of_le (size-lt w) (pow_mono g)) (lo (zero-lt-suc d))) in
    omega arith

reaches_own : (p w : ℕ) → 0 < p → Reaches p (size w - p) w
reaches_own p w P h = size_reaches w (p - 1 + (size w - p)) (omega arith)

-- a number that the format holds, and that reaches d, is a multiple of 2 ^ d
multiple : (p d w : ℕ) → 0 < p → Held p w → Reaches p d w → (r : ℕ) × (w ≡ r * 2 ^ d)
multiple p d w P h lo = elim (either h.exponent d) [
  | inl l ↦ absurd (not-le_of_lt (subst (λ (x : ℕ). x < 2 ^ (p + h.exponent)) (sym h.is) (shl_lt p h.exponent h.small)) (le_trans (pow_mono (shifted p h.exponent d P l)) (lo (omega arith))))
  | inr l ↦ (h.digits * 2 ^ (h.exponent - d), h.is ∙ sym (mul_assoc h.digits (2 ^ (h.exponent - d)) (2 ^ d) ∙ ap (λ (x : ℕ). h.digits * x) (sym (pow-add 2 (h.exponent - d) d) ∙ ap (λ (x : ℕ). 2 ^ x) (back h.exponent d l))))
]
  where
    shifted : (p i d : ℕ) → 0 < p → i < d → p + i ≤ p - 1 + d
    shifted p i d P l = omega arith

-- ---- between two even numbers of p digits lies another: (q + 1) * 2 ^ d
record Between (p a b : ℕ) : Type 0 where
  digits : ℕ
  exponent : ℕ
  small : digits < 2 ^ p
  above : a < digits * 2 ^ exponent
  below : digits * 2 ^ exponent < b

next_small : (p q : ℕ) → 2 ≤ p → q % 2 ≡ 0 → q < 2 ^ p → q + 1 < 2 ^ p
next_small zero q h e l = absurd (omega arith)
next_small (suc p) q h e l = let double = pow-succ' 2 p in omega arith

next_is_odd : (p d q : ℕ) → 0 < p → q % 2 ≡ 0 → q + 1 < 2 ^ p → Reaches p d ((q + 1) * 2 ^ d) → (q + 1) * 2 ^ d / 2 ^ (size ((q + 1) * 2 ^ d) - p) % 2 ≡ 0 → ⊥
next_is_odd p d q P e l lo even =
    let own : size ((q + 1) * 2 ^ d) - p ≡ d = digits_at p d ((q + 1) * 2 ^ d) P lo (shl_lt p d l) in
    let is : (q + 1) * 2 ^ d / 2 ^ d ≡ q + 1 = mul-div_cancel (q + 1) (pow_pos d) in
    omega (arith, rw (own, is) at even)

-- a is q * 2 ^ d with all of its digits in q, which is even, and b is r * 2 ^ d
between_multiples : (p d a b q r : ℕ) → 2 ≤ p → a ≡ q * 2 ^ d → b ≡ r * 2 ^ d → a < b → Reaches p d a → q < 2 ^ p → q % 2 ≡ 0 → b / 2 ^ (size b - p) % 2 ≡ 0 → Between p a b
between_multiples p d a b q r P is-a is_b l reached small even-q even-b =
    let u = 2 ^ d in
    let room = next_small p q P even-q small in
    let less : q < r = lt_of_mul-lt-mul_right u (omega arith) in
    let more : a ≤ (q + 1) * u = omega arith in
    let apart : r ≡ q + 1 → ⊥ = λ (e : r ≡ q + 1).
    next_is_odd p d q (omega arith) even-q room (λ (i : 0 < d). le_trans (reached i) more) (subst (λ (x : ℕ). x / 2 ^ (size x - p) % 2 ≡ 0) (is_b ∙ ap (λ (x : ℕ). x * u) e) even-b) in
    let past : q + 1 < r = beyond q r less apart in
    let above = mul-lt-mul_of_pos_right (own_next q) (pow_pos d) in
    let below = mul-lt-mul_of_pos_right past (pow_pos d) in
    record { digits = q + 1; exponent = d; small = room; above = omega arith; below = omega arith }
  where
    beyond : (q r : ℕ) → q < r → (r ≡ q + 1 → ⊥) → q + 1 < r
    beyond q r l n = elim (either (q + 1) r) [ inl h ↦ h | inr h ↦ absurd (n (omega arith)) ]

    own_next : (q : ℕ) → q < q + 1
    own_next q = omega arith

between-even : (p a b : ℕ) → 2 ≤ p → Held p a → Held p b → a < b → a / 2 ^ (size a - p) % 2 ≡ 0 → b / 2 ^ (size b - p) % 2 ≡ 0 → Between p a b
between-even p a b P h k l even-a even-b =
    let d = size a - p in
    let pos : 0 < p = omega arith in
    let reached = reaches_own p a pos in
    let g = multiple p d a pos h reached in
    let r = multiple p d b pos k (λ (i : 0 < d). le_trans (reached i) (le_of_lt l)) in
    let is-q : a / 2 ^ d ≡ g.0 = ap (λ (x : ℕ). x / 2 ^ d) g.1 ∙ mul-div_cancel g.0 (pow_pos d) in
    between_multiples p d a b g.0 r.0 P g.1 r.1 l reached (subst (λ (x : ℕ). x < 2 ^ p) is-q (kept-lt p a)) (sym (ap (λ (x : ℕ). x % 2) is-q) ∙ even-a) even-b

-- ---- the value of the format that has such a size, below one that it has
value_of_size : (f : Format) (y : Float) (q d : ℕ) → Fin f y → q < 2 ^ prec f → q * 2 ^ d < mag f y → (w : Float) × Fin f w × (mag f w ≡ q * 2 ^ d)
value_of_size f y q d h small l =
    let w = round f false (q * 2 ^ d) (2 ^ low f) in
    let v : HasValue w false (q * 2 ^ d) (2 ^ low f) = round_exact f false (q * 2 ^ d) (2 ^ low f) q d (pow_pos (low f)) small (lt_of_lt_of_le l (le_of_lt (mag-below f y h))) refl in
    (w, fin_of f false false (q * 2 ^ d) (2 ^ low f) (q * 2 ^ d) (2 ^ low f) v, mag_of f w false (q * 2 ^ d) v)

square_increases : (k b c : ℕ) → b < c → square_of k b < square_of k c
square_increases k b c h = let l = mul-lt-mul_of_pos_right h (pow_pos k) in omega (arith, mul-le-mul l l)

module _ (f : Format) (n k : ℕ) where
  no_two : (z y : Float) → IsNearestRoot f n k z → IsNearestRoot f n k y → mag f z < mag f y → ⊥
  unfolding last_digit
  no_two z y a b l =
      let half_way : square_of k (mag f z + mag f y) ≡ square_of_root f n = le_antisymm (subst (λ (c : ℕ). square_of k c ≤ square_of_root f n) (add_comm (mag f y) (mag f z)) (b.below z a.fin l)) (a.above y b.fin l) in
      let even-z = a.even y b.fin (λ (e : mag f z ≡ mag f y). omega arith) half_way in
      let even-y = b.even z a.fin (λ (e : mag f y ≡ mag f z). omega arith) (ap (square_of k) (add_comm (mag f y) (mag f z)) ∙ half_way) in
      let c = between-even (prec f) (mag f z) (mag f y) (two f) (held f z a.fin) (held f y b.fin) l even-z even-y in
      let w = value_of_size f y c.digits c.exponent b.fin c.small c.below in
      not-le_of_lt (square_increases k (mag f z + mag f w.0) (mag f z + mag f y) (rw w.2 (add_less (mag f z) c.below)))
      (le_trans (le_of_eq half_way) (a.above w.0 w.1 (rw w.2 c.above)))
    where
      add_less : (a : ℕ) {b c : ℕ} → b < c → a + b < a + c
      add_less a h = omega arith

  pub nearest_root-only : (z y : Float) → IsNearestRoot f n k z → IsNearestRoot f n k y → z ≡ y
  nearest_root-only z y a b =
      val_unique f z y a.fin b.fin (a.sign ∙ sym b.sign) (elim (either (mag f z) (mag f y)) [
        | inl l ↦ absurd (no_two z y a b l)
        | inr l ↦ elim (either (mag f y) (mag f z)) [
          | inl g ↦ absurd (no_two y z b a g)
          | inr g ↦ le_antisymm g l
        ]
      ])

  -- so the definition could be left out: the theorem says which value it is
  pub nearest_root_by_theorem : T (finite (nearest_root f n k)) → (z : Float) → IsNearestRoot f n k z → nearest_root f n k ≡ z
  nearest_root_by_theorem t z h = nearest_root-only (nearest_root f n k) z (nearest-root f n k t) h
