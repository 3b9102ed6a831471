-- `root::squares::quartered` meets its contract: no shift loses a digit.
use mathlib.Core.Path.{◌≡◌, sym, ap, ◌∙◌}
use Prim.Native.Nat.{ℕ, ◌+◌, ◌-◌, ◌*◌, ◌/◌, ◌%◌, ◌^◌, ◌≤◌, ◌<◌}
use native.Mathlib.Nat.{div-le_self}
use native.Mathlib.Omega.{arith}
use lib.Pow.{pow-add}
use Rattle.root.proofs.SquareLaws.{rest_is, rest-small, quotient_is}
use Rattle.root.proofs.squares.quartered.Goals as goal

whole : (d : ℕ) → d ≤ 26 → 2 ^ (2 * d) * 2 ^ (54 - 2 * d) ≡ 2 ^ 54
whole d h = sym (pow-add 2 (2 * d) (54 - 2 * d)) ∙ ap (λ (x : ℕ). 2 ^ x) (the d h)
  where
    the : (d : ℕ) → d ≤ 26 → 2 * d + (54 - 2 * d) ≡ 54
    the d h = omega arith

-- what the shifts compute: the lost part of a product that fits is none
kept : (hi x r : ℕ) → x + r ≡ hi → hi < 2 ^ 54 → hi - x % 2 ^ 64 ≡ r
kept hi x r e h = omega arith

shifted : (r j : ℕ) → r * j < 2 ^ 54 → r * j % 2 ^ 64 ≡ r * j
shifted r j h = omega arith

upper : (hi lo d : ℕ) → hi < 2 ^ 54 → d ≤ 26 → (hi - hi / 2 ^ (2 * d) * 2 ^ (2 * d) % 2 ^ 64) * 2 ^ (54 - 2 * d) % 2 ^ 64 ≡ hi % 2 ^ (2 * d) * 2 ^ (54 - 2 * d)
upper hi lo d h l =
    let k = 2 * d in
    let j = 54 - k in
    let w = whole d l in
    ap (λ (x : ℕ). x * 2 ^ j % 2 ^ 64) (kept hi (hi / 2 ^ k * 2 ^ k) (hi % 2 ^ k) (rest_is hi lo k j w) h) ∙ shifted (hi % 2 ^ k) (2 ^ j) (rest-small hi lo k j w)

pub overflow_sub-result : goal.overflow_sub-result
overflow_sub-result c = let a = c.args in let e = rest_is a.hi a.lo (2 * a.d) (54 - 2 * a.d) (whole a.d c.requires.2) in omega (arith, e)

pub overflow_add-result : goal.overflow_add-result
overflow_add-result c =
    let a = c.args in
    let k = 2 * a.d in
    omega (arith, upper a.hi a.lo a.d c.requires.0 c.requires.2, rest-small a.hi a.lo k (54 - k) (whole a.d c.requires.2), div-le_self a.lo (2 ^ k))

pub returns : goal.returns
returns c =
    let a = c.args in
    let k = 2 * a.d in
    let j = 54 - k in
    let w = whole a.d c.requires.2 in
    let s = rest-small a.hi a.lo k j w in
    let e = upper a.hi a.lo a.d c.requires.0 c.requires.2 in
    (ap (λ (x : ℕ). a.hi / 2 ^ k * 2 ^ 54 + (x + a.lo / 2 ^ k)) e ∙ quotient_is a.hi a.lo k j w, omega (arith, e, s, div-le_self a.lo (2 ^ k)))
