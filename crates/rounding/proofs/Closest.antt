-- A fraction a / b to the nearest whole number: within a half of it, and at a tie the even one.
use mathlib.Core.Path.{◌≡◌, sym, subst}
use mathlib.Core.Logic.{◌⊎◌, inl, inr}
use Prim.Native.Nat.{ℕ, zero, suc, ◌+◌, ◌*◌, ◌/◌, ◌%◌, ◌≤◌, ◌<◌, compare, Ordering}
use native.Mathlib.Nat.{le_trans, div-add-mod', mod-lt, le-suc}
use native.Mathlib.Omega.{arith}
use mathlib.Core.Bool.{not}
use lib.Dec.{T, is_le, compare_is_eq, eqb, leb→le, nleb→lt, eqb→eq, eqb_refl}
use lib.Arith.{lt_of_le-ne}
use lib.Ieee.{nearest}
use lib.Ieee.Nearest.{closest}

-- ---- what `compare` says
abbrev Cmp : Ordering → ℕ → ℕ → Type 0
Cmp Ordering.lt a b = a < b
Cmp Ordering.eq a b = a ≡ b
Cmp Ordering.gt a b = b < a

cmp : (a b : ℕ) → Cmp (compare a b) a b
cmp a b = go (compare a b) (leb→le a b) (nleb→lt a b) (eqb→eq a b) (λ (e : a ≡ b). subst (λ (x : ℕ). T (eqb a x)) e (eqb_refl a))
  where
    go : (o : Ordering) → (T (is_le o) → a ≤ b) → (T (not (is_le o)) → b < a) → (T (compare_is_eq o) → a ≡ b) → (a ≡ b → T (compare_is_eq o)) → Cmp o a b
    go Ordering.lt h k e n = lt_of_le-ne (h tt) n
    go Ordering.eq h k e n = e tt
    go Ordering.gt h k e n = k tt

-- ---- a fraction to the nearest whole number is within a half of it: |g - a| ≤ b / 2
abbrev pub Half : ℕ → ℕ → ℕ → Type 0
Half g a b = (2 * g ≤ 2 * a + b) × (2 * a ≤ 2 * g + b)

tie : (q r b : ℕ) → r * 2 ≡ b → Half ((q + q % 2) * b) (q * b + r) b
tie q r b h = go (q % 2) (omega arith)
  where
    go : (t : ℕ) → t ≤ 1 → Half ((q + t) * b) (q * b + r) b
    go zero l = omega arith
    go (suc zero) l = omega arith
    go (suc (suc t)) l = absurd (omega arith)

near-half : (q r b : ℕ) (o : Ordering) → r ≤ b → Cmp o (r * 2) b → Half (nearest q o * b) (q * b + r) b
near-half q r b Ordering.lt l h = omega arith
near-half q r b Ordering.eq l h = tie q r b h
near-half q r b Ordering.gt l h = omega arith

pub closest-half : (a b : ℕ) → 0 < b → Half (closest a b * b) a b
closest-half a b B = subst (λ (x : ℕ). Half (closest a b * b) x b) (div-add-mod' a b) (near-half (a / b) (a % b) b (compare (a % b * 2) b) (le_trans (le-suc (a % b)) (mod-lt a B)) (cmp (a % b * 2) b))

-- exactly half-way between x and x + 1, or x - 1 and x, it is the even one
abbrev pub Midway : ℕ → ℕ → ℕ → Type 0
Midway x a b = (2 * a ≡ 2 * (x * b) + b) ⊎ (2 * a + b ≡ 2 * (x * b))

even_sum : (q : ℕ) → (q + q % 2) % 2 ≡ 0
even_sum q = omega arith

midway_even : (q r b : ℕ) (o : Ordering) → r < b → Cmp o (r * 2) b → Midway (nearest q o) (q * b + r) b → nearest q o % 2 ≡ 0
midway_even q r b Ordering.lt l h (inl m) = absurd (omega arith)
midway_even q r b Ordering.lt l h (inr m) = absurd (omega arith)
midway_even q r b Ordering.eq l h m = even_sum q
midway_even q r b Ordering.gt l h (inl m) = absurd (omega arith)
midway_even q r b Ordering.gt l h (inr m) = absurd (omega arith)

pub closest-even : (a b : ℕ) → 0 < b → Midway (closest a b) a b → closest a b % 2 ≡ 0
closest-even a b B m =
    midway_even (a / b) (a % b) b (compare (a % b * 2) b) (mod-lt a B) (cmp (a % b * 2) b) (subst (λ (x : ℕ). Midway (closest a b) x b) (sym (div-add-mod' a b)) m)
