-- Of two numbers below the smallest normal one, both doubled until the larger has 53 digits, the root halved as often and rounded is the nearest whole number of
-- units. There is no tie, since 4 * n is even and the square of a half-way point, in half units, is odd.
use mathlib.Core.Path.{◌≡◌, refl, sym, ap, ◌∙◌, subst}
use mathlib.Core.Logic.{inl, inr}
use Prim.Native.Nat.{ℕ, zero, suc, ◌+◌, ◌-◌, ◌*◌, ◌/◌, ◌%◌, ◌^◌, ◌≤◌, ◌<◌}
use native.Mathlib.Nat.{mod-lt, div-add-mod', le-div_iff_mul-le, mul-le-mul, mul-le-mul_left, mul-le-mul_right, mul-pos, le_of_mul-le-mul_right, lt_of_mul-lt-mul_right, le_trans, le_of_eq, lt_of_lt_of_le, lt_of_le_of_lt, not-le_of_lt}
use native.Mathlib.Omega.{arith}
use lib.Pow.{pow_pos, pow-add, pow_mono}
use lib.Ieee.{of_bits}
use Rattle.algebra.proofs.Size.{either}
use Rattle.rounding.specs.Root.{nearest_root}
use Rattle.root.specs.Parts.{IsWholeRoot}
use Rattle.root.specs.Sums.{scaled_sum, IsSum, IsNearestRootOf}
use Rattle.root.proofs.TieLaws.{HalfWays, root_from, root_to}
use Rattle.root.proofs.HalfWayLaws.{between_is_nearest}
use Rattle.root.proofs.JoinedLaws.{long-root, short-root}

-- ---- of p and q units below the smallest normal number: a and b are these, doubled k times
pub record Brought (p q a b k : ℕ) : Type 0 where
  pub first : a ≡ p * 2 ^ k
  pub second : b ≡ q * 2 ^ k
  pub some : 0 < p
  pub high : a < 2 ^ 53
  pub order : b ≤ a
  pub count : k < 53

doubled_less : (p k i : ℕ) → 0 < p → p * 2 ^ k < 2 ^ i → k < i
doubled_less p k i s h = elim (either k i) [
  | inl l ↦ l
  | inr l ↦ absurd (not-le_of_lt h (le_trans (pow_mono l) (let m = mul-le-mul_right (2 ^ k) s in omega (arith, m))))
]

pub brought_at_first : (p q : ℕ) → (p ≡ 0 → ⊥) → q ≤ p → p < 2 ^ 52 → Brought p q p q 0
brought_at_first p q s o h = record { first = omega arith; second = omega arith; some = positive p s; high = omega arith; order = o; count = omega arith }
  where
    positive : (p : ℕ) → (p ≡ 0 → ⊥) → 0 < p
    positive zero s = absurd (s refl)
    positive (suc p) s = omega arith

pub brought_once_more : (p q a b k : ℕ) → Brought p q a b k → a < 2 ^ 52 → Brought p q (a * 2) (b * 2) (k + 1)
brought_once_more p q a b k w h =
    let l : k < 52 = doubled_less p k 52 w.some (rw w.first at h) in
    record { first = twice p a w.first; second = twice q b w.second; some = w.some; high = omega arith; order = let o = w.order in omega arith; count = omega arith }
  where
    twice : (p a : ℕ) → a ≡ p * 2 ^ k → a * 2 ≡ p * 2 ^ (k + 1)
    twice p a e = omega (arith, ap (λ (x : ℕ). p * x) (pow-add 2 k 1))

pub some_digits : (p q a b k : ℕ) → Brought p q a b k → 0 < a
some_digits p q a b k w = rw w.first (mul-pos w.some (pow_pos k))

some_doubling : (p q a b k : ℕ) → Brought p q a b k → p < 2 ^ 52 → 2 ^ 52 ≤ a → 0 < k
some_doubling p q a b zero w h l = let e = w.first in absurd (omega arith)
some_doubling p q a b (suc k) w h l = omega arith

-- the whole root divided by 2 * H, to the nearest
record Halved (q H r : ℕ) : Type 0 where
  under : ℕ
  next : under + 1 ≡ 2 * r
  from : under * H ≤ q
  to : q + 1 ≤ (2 * r + 1) * H

halved : (q H D : ℕ) → 0 < H → H ≤ q → D ≡ 2 * H → Halved q H ((q + H) / D)
halved q H D v l e =
    let r = (q + H) / D in
    let some : 1 ≤ r = (le-div_iff_mul-le {k = D} {x = 1} {y = q + H} (omega arith)).1 (omega arith) in
    let is = div-add-mod' (q + H) D in
    let rest : (q + H) % D < D = mod-lt (q + H) (omega arith) in
    let f : r * D ≡ 2 * r * H = omega (arith, ap (λ (x : ℕ). r * x) e) in
    let n : 2 * r - 1 + 1 ≡ 2 * r = omega arith in
    record { under = 2 * r - 1; next = n; from = omega (arith, ap (λ (x : ℕ). x * H) n, is, f); to = omega (arith, is, f, rest) }

module _ (p q a b k hi lo high s left : ℕ) (brought : Brought p q a b k) (short : p < 2 ^ 52) (order : q ≤ p) (long : 2 ^ 52 ≤ a) (sum : IsSum a b 0 hi lo high) (w : IsWholeRoot (hi * 2 ^ 54 + lo) s left) where
  abbrev H : ℕ
  H = 2 ^ (k - high)

  pub high_le : high ≤ k
  high_le = let d = some_doubling p q a b k brought short long in let o = sum.once in omega arith

  pub small-step : H ≤ 2 ^ 52
  small-step = pow_mono {j = 52} (let c = brought.count in omega arith)

  pub small-root : s < 2 ^ 54
  small-root = short-root a b 0 0 hi lo high s left (omega arith) sum w

  cut : Halved s H ((s + H) / 2 ^ (k - high + 1))
  cut = halved s H (2 ^ (k - high + 1)) (pow_pos (k - high)) (let v = small-step in let l = long-root a b 0 0 hi lo high s left (omega arith) sum w in omega arith) (pow-add 2 (k - high) 1 ∙ two H)
    where
      two : (x : ℕ) → x * 2 ≡ 2 * x
      two x = omega arith

  -- the sum of the code is 4 * n, times 4 ^ k
  units : H * 2 ^ (0 + high) ≡ 2 ^ k
  units = sym (pow-add 2 (k - high) (0 + high)) ∙ ap (λ (x : ℕ). 2 ^ x) (back k high high_le)
    where
      back : (k h : ℕ) → h ≤ k → k - h + (0 + h) ≡ k
      back k h l = omega arith

  sum_is : scaled_sum a b 0 ≡ 4 * (p * p + q * q) * (2 ^ k * 2 ^ k)
  sum_is = regroup a b p q (2 ^ k) brought.first brought.second
    where
      regroup : (a b p q K : ℕ) → a ≡ p * K → b ≡ q * K → 2 * a * 2 ^ 0 * (2 * a * 2 ^ 0) + 2 * b * (2 * b) ≡ 4 * (p * p + q * q) * (K * K)
      regroup a b p q K e f = omega (arith, ap (λ (x : ℕ). x * x) e, ap (λ (x : ℕ). x * x) f)

  K-pos : 0 < 2 ^ k * 2 ^ k
  K-pos = mul-pos (pow_pos k) (pow_pos k)

  below : (u : ℕ) → u * H ≤ s → u * u ≤ 4 * (p * p + q * q)
  below u l =
      le_of_mul-le-mul_right {k = 2 ^ k * 2 ^ k}
      (le_trans (spread u s H (2 ^ (0 + high)) (2 ^ k) units l) (le_trans (root_from (scaled_sum a b 0) (2 ^ (0 + high)) (hi * 2 ^ 54 + lo) s left (pow_pos (0 + high)) sum.from sum.to w) (le_of_eq sum_is)))
      K-pos
    where
      spread : (u s H W K : ℕ) → H * W ≡ K → u * H ≤ s → u * u * (K * K) ≤ s * W * (s * W)
      spread u s H W K e l = let m = mul-le-mul_right W l in omega (arith, ap (λ (x : ℕ). u * u * (x * x)) e, mul-le-mul m m)

  above : (t : ℕ) → s + 1 ≤ t * H → 4 * (p * p + q * q) < t * t
  above t l =
      lt_of_mul-lt-mul_right (2 ^ k * 2 ^ k)
      (lt_of_lt_of_le (lt_of_le_of_lt (le_of_eq (sym sum_is)) (root_to (scaled_sum a b 0) (2 ^ (0 + high)) (hi * 2 ^ 54 + lo) s left (pow_pos (0 + high)) sum.from sum.to w)) (spread t s H (2 ^ (0 + high)) (2 ^ k) units l))
    where
      spread : (t s H W K : ℕ) → H * W ≡ K → s + 1 ≤ t * H → (s + 1) * W * ((s + 1) * W) ≤ t * t * (K * K)
      spread t s H W K e l = let m = mul-le-mul_right W l in omega (arith, ap (λ (x : ℕ). t * t * (x * x)) e, mul-le-mul m m)

  pub subnormal_is_nearest : IsNearestRootOf (p * p + q * q) ((s + H) / 2 ^ (k - high + 1))
  subnormal_is_nearest =
      let r = (s + H) / 2 ^ (k - high + 1) in
      let n = p * p + q * q in
      let lower = below cut.under cut.from in
      let upper = above (2 * r + 1) cut.to in
      let most : r ≤ 2 ^ 53 = few cut.under H s r (pow_pos (k - high)) cut.from small-root cut.next in
      subst (IsNearestRootOf n) (plain r)
      (between_is_nearest n 0 r (whole-units n r cut.under cut.next lower upper) most (λ (h : 0 < 0). absurd (omega arith)) (omega (arith, most)) (λ (h : 0 < 0). absurd (omega arith)) (room p q short order))
    where
      plain : (r : ℕ) → 0 * 2 ^ 52 + r ≡ r
      plain r = omega arith

      few : (u H s r : ℕ) → 0 < H → u * H ≤ s → s < 2 ^ 54 → u + 1 ≡ 2 * r → r ≤ 2 ^ 53
      few u H s r p l h e = let m = mul-le-mul_left u p in omega (arith, m)

      room : (p q : ℕ) → p < 2 ^ 52 → q ≤ p → p * p + q * q < 2 ^ (53 + 0) * 2 ^ (53 + 0)
      room p q h l = let x : p ≤ 2 ^ 52 = omega arith in let y : q ≤ 2 ^ 52 = omega arith in omega (arith, mul-le-mul x x, mul-le-mul y y)

      -- 4 * n is even, and the square of a half-way point, in half units, is odd
      whole-units : (n r u : ℕ) → u + 1 ≡ 2 * r → u * u ≤ 4 * n → 4 * n < (2 * r + 1) * (2 * r + 1) → HalfWays n (2 ^ 0) r
      whole-units n r u e l h =
          record {
            under = u;
            next = e;
            below = omega (arith, l);
            above = omega (arith, h);
            even-below = λ (t : u * 2 ^ 0 * (u * 2 ^ 0) ≡ 4 * n). absurd (odd-square n r u e (omega (arith, t)));
            even-above = λ (t : 4 * n ≡ (2 * r + 1) * 2 ^ 0 * ((2 * r + 1) * 2 ^ 0)). absurd (omega (arith, t, h));
          }
        where
          odd-square : (n r u : ℕ) → u + 1 ≡ 2 * r → u * u ≡ 4 * n → ⊥
          odd-square n zero u e t = omega arith
          odd-square n (suc r) u e t = let f : u ≡ 2 * r + 1 = omega arith in omega (arith, t, ap (λ (x : ℕ). x * x) f)

-- ---- of nothing
nothing_is_nearest : IsNearestRootOf 0 0
unfolding nearest_root of_bits
nothing_is_nearest = record { number = omega arith; nearest = refl }

pub zeros_are_nearest : (p q : ℕ) → p ≡ 0 → q ≤ p → IsNearestRootOf (p * p + q * q) 0
zeros_are_nearest p q e l = let f : q ≡ 0 = omega arith in rw (e, f) nothing_is_nearest
