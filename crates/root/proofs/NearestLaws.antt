-- What the code of the root puts together is the f64 nearest the root. With M = m * 2 ^ 54 and q the whole part of M's root, 4 * n is M up to a power of 4, where
-- n is the value in units of 2 ^ -2148. There is no tie: a whole root that is odd has an odd square, and M is even.
use mathlib.Core.Path.{◌≡◌, refl, sym, ap, ◌∙◌}
use mathlib.Core.Logic.{inr}
use mathlib.Core.Bool.{false, not}
use Prim.Native.Nat.{ℕ, ◌+◌, ◌*◌, ◌/◌, ◌%◌, ◌^◌, ◌≤◌, ◌<◌}
use native.Mathlib.Nat.{mul-pos, le_of_mul-le-mul_right, le_of_eq}
use native.Mathlib.Omega.{arith}
use lib.Dec.{T}
use lib.Pow.{pow-add, pow_pos}
use lib.Ieee.{binary64, of_bits, nan_bits}
use lib.Ieee.Bits.{of_bits-fits}
use Rattle.rounding.specs.Root.{root, nearest_root}
use Rattle.rounding.proofs.Value.{mag_of, sign_of}
use Rattle.rounding.proofs.root.Operation.{root_is_nearest}
use Rattle.root.specs.Parts.{infinity, pattern_units, one, IsSplit, IsWholeRoot}
use Rattle.root.specs.Sums.{IsTie, IsNearestRootOf}
use Rattle.root.proofs.WholeLaws.{root-lt, le-root}
use Rattle.root.proofs.PatternLaws.{pattern_value, has_value_fin, no_nan_up_to_infinity}
use Rattle.root.proofs.TieLaws.{HalfWays, root_from, root_to, rounded_half_ways}
use Rattle.root.proofs.HalfWayLaws.{between_is_nearest, quarter-le, quarter_gt}

-- of an even number: a whole root with nothing left over is even
even_has_no_odd_root : (m q : ℕ) → q * q ≡ m * 2 ^ 54 → q % 4 ≡ 1 → ⊥
even_has_no_odd_root m q e h = let f : q ≡ 4 * (q / 4) + 1 = omega arith in omega (arith, e, ap (λ (x : ℕ). x * x) f)

module _ (b m h q left : ℕ) (split : IsSplit b m h) (w : IsWholeRoot (m * 2 ^ 54) q left) where
  abbrev n : ℕ
  n = pattern_units b * one

  abbrev Q : ℕ
  Q = 2 ^ (h + 1)

  abbrev r : ℕ
  r = (q + 1) / 2

  pub root-fits : q < 2 ^ 54
  root-fits = root-lt (m * 2 ^ 54) q left (2 ^ 54) w (let l = split.high in omega arith)

  root-long : 2 ^ 53 ≤ q
  root-long = le-root (m * 2 ^ 54) q left (2 ^ 53) w (let l = split.low in omega arith)

  four_times : m * 2 ^ 54 * (Q * Q) ≡ 4 * n
  four_times = regroup (m * 2 ^ 54) (2 ^ h) Q n (pow-add 2 h 1) split.value
    where
      regroup : (M P Q n : ℕ) → Q ≡ P * 2 → M * (P * P) ≡ n → M * (Q * Q) ≡ 4 * n
      regroup M P Q n e f = omega (arith, ap (λ (x : ℕ). M * (x * x)) e)

  squares-pos : 0 < Q * Q
  squares-pos = mul-pos (pow_pos (h + 1)) (pow_pos (h + 1))

  whole_part : 4 * n < (m * 2 ^ 54 + 1) * (Q * Q)
  whole_part = omega (arith, four_times, squares-pos)

  from : q * Q * (q * Q) ≤ 4 * n
  from = root_from (4 * n) Q (m * 2 ^ 54) q left (pow_pos (h + 1)) (le_of_eq four_times) whole_part w

  to : 4 * n < (q + 1) * Q * ((q + 1) * Q)
  to = root_to (4 * n) Q (m * 2 ^ 54) q left (pow_pos (h + 1)) (le_of_eq four_times) whole_part w

  no_tie : IsTie q left 0 0 → ⊥
  no_tie t = even_has_no_odd_root m q (let s = w.square in let z = t.0 in omega arith) t.1

  odd_is_not_exact : 4 * n ≡ q * Q * (q * Q) → q % 4 ≡ 1 → ⊥
  odd_is_not_exact e = even_has_no_odd_root m q (cancel q (m * 2 ^ 54) Q squares-pos (sym e ∙ sym four_times))
    where
      cancel : (q M Q : ℕ) → 0 < Q * Q → q * Q * (q * Q) ≡ M * (Q * Q) → q * q ≡ M
      cancel q M Q p e =
          let a : q * q ≤ M = le_of_mul-le-mul_right {k = Q * Q} (omega (arith, e)) p in
          let b : M ≤ q * q = le_of_mul-le-mul_right {k = Q * Q} (omega (arith, e)) p in
          omega arith

  half_ways : HalfWays n Q r
  half_ways =
      rounded_half_ways n Q q left 0 0 r (let l = root-long in omega arith) (pow_pos (h + 1)) from to
      (λ (t : IsTie q left 0 0). absurd (no_tie t)) (λ (e : 4 * n ≡ q * Q * (q * Q)) (o : q % 4 ≡ 1). absurd (odd_is_not_exact e o)) (inr (no_tie, refl))

  nearest : IsNearestRootOf n ((h + 1) * 2 ^ 52 + r)
  nearest =
      let l = root-long in
      let s = root-fits in
      between_is_nearest n (h + 1) r half_ways (omega arith) (λ _. omega arith) (let e = split.exponent in omega arith)
      (λ _. quarter-le (2 ^ (52 + (h + 1))) (2 ^ 52) q Q n (pow-add 2 52 (h + 1)) (omega arith) from)
      (quarter_gt (2 ^ (53 + (h + 1))) (2 ^ 53) q Q n (pow-add 2 53 (h + 1)) (omega arith) to)

  pub result_no_nan : T (not (nan_bits binary64 ((h + 1) * 2 ^ 52 + (q + 1) / 2)))
  result_no_nan = no_nan_up_to_infinity ((h + 1) * 2 ^ 52 + r) nearest.number

  pub result_is_root : b < infinity → of_bits binary64 ((h + 1) * 2 ^ 52 + (q + 1) / 2) ≡ root binary64 (of_bits binary64 b)
  unfolding one
  result_is_root l =
      let x = of_bits binary64 b in
      let v = pattern_value b l in
      nearest.nearest
      ∙ sym (root_is_nearest binary64 x (has_value_fin x false (pattern_units b) (2 ^ 1074) v (of_bits-fits binary64 b)) (sign_of x false (pattern_units b) (2 ^ 1074) v)
      ∙ ap (λ (a : ℕ). nearest_root binary64 (a * 2 ^ 1074) 1074) (mag_of binary64 x false (pattern_units b) v))
