-- Two patterns by their digits and exponents: what is nearest the root of these is nearest that of their values.
use mathlib.Core.Path.{◌≡◌, sym, ap, ap₂, ◌∙◌, subst, subst₂}
use Prim.Native.Nat.{ℕ, ◌+◌, ◌-◌, ◌*◌, ◌^◌, ◌≤◌, ◌<◌}
use native.Mathlib.Nat.{mul-le-mul, mul-le-mul_left, mul-lt-mul_of_pos_right}
use native.Mathlib.Omega.{arith}
use lib.Pow.{pow_pos, pow-add, pow_mono}
use Rattle.root.specs.Parts.{infinity, pattern_units, IsUnits}
use Rattle.root.specs.Sums.{IsNearestRootOf}
use Rattle.root.proofs.ScaleLaws.{units_subnormal}
use Rattle.root.proofs.JoinedLaws.{squares_of, far_apart}

pub small-patterns : (a b : ℕ) → b ≤ a → a < 2 ^ 52 → (r : ℕ) → IsNearestRootOf (a * a + b * b) r → IsNearestRootOf (pattern_units a * pattern_units a + pattern_units b * pattern_units b) r
small-patterns a b l h r n = rw (units_subnormal a h, units_subnormal b (omega arith)) n

module _ (a b m e k f : ℕ) (x : IsUnits a m e) (y : IsUnits b k f) (order : b ≤ a) where
  smaller-exponent : f ≤ e
  smaller-exponent = let p = x.exponent in let q = y.exponent in omega arith

  pub far_patterns : 2 ^ 52 ≤ a → a < infinity → 27 ≤ e - f → IsNearestRootOf (pattern_units a * pattern_units a + pattern_units b * pattern_units b) a
  far_patterns l h d =
      let long : 2 ^ 52 ≤ m = let p = x.exponent in let q = x.joined in omega arith in
      let last : e < 2046 = let p = x.exponent in omega arith in
      subst₂ IsNearestRootOf (ap (λ (z : ℕ). z * z + pattern_units b * pattern_units b) x.value) x.joined
      (far_apart m e (pattern_units b) long x.small last (subst (λ (z : ℕ). z * z < 2 ^ 52 * (2 ^ e * 2 ^ e)) y.value (idle k (2 ^ f) (2 ^ (e - f)) (2 ^ e) y.small (pow_pos f) (pow_mono d) (sym (pow-add 2 f (e - f)) ∙ ap (λ (z : ℕ). 2 ^ z) (back f e smaller-exponent)))))
    where
      back : (f e : ℕ) → f ≤ e → f + (e - f) ≡ e
      back f e l = omega arith

      idle : (k F G E : ℕ) → k < 2 ^ 53 → 0 < F → 2 ^ 27 ≤ G → F * G ≡ E → k * F * (k * F) < 2 ^ 52 * (E * E)
      idle k F G E h p l e =
          let s : k * F < 2 ^ 26 * E = omega (arith, mul-lt-mul_of_pos_right h p, mul-le-mul_left F l) in
          let t : k * F + 1 ≤ 2 ^ 26 * E = omega arith in
          omega (arith, mul-le-mul t t)

  pub near-patterns : (r : ℕ) → IsNearestRootOf (squares_of m k (e - f) e) r → IsNearestRootOf (pattern_units a * pattern_units a + pattern_units b * pattern_units b) r
  near-patterns r n =
      subst (λ (z : ℕ). IsNearestRootOf z r)
      (ap₂ (λ (u v : ℕ). u * u + v * v) x.value (ap (λ (i : ℕ). k * 2 ^ i) (back f e smaller-exponent) ∙ y.value)) n
    where
      back : (f e : ℕ) → f ≤ e → e - (e - f) ≡ f
      back f e l = omega arith
