-- What `round` makes of a fraction, as whole numbers: near it, and exact where it can be. Over any precision and exponent; nothing here is about one format.
use mathlib.Core.Path.{◌≡◌, sym, ap, ◌∙◌, subst}
use mathlib.Core.Logic.{inl, inr}
use Prim.Native.Nat.{ℕ, zero, suc, ◌+◌, ◌-◌, ◌*◌, ◌/◌, ◌%◌, ◌^◌, ◌≤◌, ◌<◌, compare}
use native.Mathlib.Nat.{pow-succ', zero-lt-suc, le-div_iff_mul-le, le_trans, le_of_eq, mul-le-mul_right, mul-le-mul_left, mul_assoc, mul_comm, div-lt_iff_lt-mul, mul-pos, mul-lt-mul_of_pos_right, eq-or-lt_of_le, one-mul, le_of_mul-le-mul_right, mul-le-mul, lt_of_le_of_lt, div-div-eq-div-mul}
use native.Mathlib.Omega.{arith}
use mathlib.Core.Bool.{Bool, true, false, cond}
use lib.Dec.{T, ltb, ltb→lt}
use lib.Pow.{pow_pos, pow_mono, pow-lt, pow-add, shl_lt}
use lib.Ieee.{Float, inf, Format, prec, emax, low, size, odd, units, round}
use lib.Ieee.Digits.{size_reaches, size-le, back}
use lib.Ieee.Fits.{nearest-le, kept-lt, round_is}
use lib.Ieee.Exact.{HasValue, units_val}
use lib.Ieee.Nearest.{closest}
use lib.Ieee.Order.{drop, kept}
use lib.Ieee.Scale.{finite}
use Rattle.rounding.proofs.Closest.{Half, closest-half}

-- ---- n / den, in units, rounded to p digits: `kept` times 2 ^ `drop`. Below 2 ^ (p + k) it drops at most k digits
few : (z p k : ℕ) → z ≤ p + k → z - p ≤ k
few z p k h = omega arith

pub drop_le : (p n den k : ℕ) → 0 < den → n < 2 ^ (p + k) * den → drop p n den ≤ k
drop_le p n den k D h = few (size (n / den)) p k (size-le (n / den) (p + k) ((div-lt_iff_lt-mul D).1 h))

pub kept-le : (p n den : ℕ) → kept p n den ≤ 2 ^ p
kept-le p n den =
    let k = drop p n den in
    let u = den * 2 ^ k in
    le_trans (nearest-le (n / u) (compare (n % u * 2) u)) (subst (λ (x : ℕ). x < 2 ^ p) (div-div-eq-div-mul n den (2 ^ k)) (kept-lt p (n / den)))

abbrev pub rnd : ℕ → ℕ → ℕ → ℕ
rnd p n den = kept p n den * 2 ^ drop p n den

-- within half of the last place that it kept
pub rnd_half : (p n den : ℕ) → 0 < den → Half (rnd p n den * den) n (2 ^ drop p n den * den)
rnd_half p n den D = let h = closest-half n (den * 2 ^ drop p n den) (mul-pos D (pow_pos (drop p n den))) in omega arith

pub rnd_le : (p n den k : ℕ) → 0 < den → n < 2 ^ (p + k) * den → rnd p n den ≤ 2 ^ (p + k)
rnd_le p n den k D h = le_trans (mul-le-mul (kept-le p n den) (pow_mono (drop_le p n den k D h))) (le_of_eq (sym (pow-add 2 p k)))

-- ---- what is representable is kept: q * 2 ^ j units, with q of at most p digits
same_of_half : (x y u : ℕ) → 0 < u → Half (x * u) (y * u) u → x ≡ y
same_of_half x y u U h =
    let a : 2 * x ≤ 2 * y + 1 = le_of_mul-le-mul_right {k = u} (omega arith) U in
    let b : 2 * y ≤ 2 * x + 1 = le_of_mul-le-mul_right {k = u} (omega arith) U in
    omega arith

few_digits : (p n den q j : ℕ) → 0 < den → q < 2 ^ p → n ≡ q * 2 ^ j * den → rnd p n den ≡ q * 2 ^ j
few_digits p n den q j D Q e =
    let d = drop p n den in
    let d-le : d ≤ j = drop_le p n den j D (subst (λ (x : ℕ). x < 2 ^ (p + j) * den) (sym e) (mul-lt-mul_of_pos_right (shl_lt p j Q) D)) in
    let e2 : q * 2 ^ (j - d) * 2 ^ d ≡ q * 2 ^ j = mul_assoc q (2 ^ (j - d)) (2 ^ d) ∙ ap (λ (x : ℕ). q * x) (sym (pow-add 2 (j - d) d) ∙ ap (λ (x : ℕ). 2 ^ x) (back j d d-le)) in
    let u = den * 2 ^ d in
    let e3 : n ≡ q * 2 ^ (j - d) * u = e ∙ ap (λ (x : ℕ). x * den) (sym e2) ∙ mul_assoc (q * 2 ^ (j - d)) (2 ^ d) den ∙ ap (λ (x : ℕ). q * 2 ^ (j - d) * x) (mul_comm (2 ^ d) den) in
    ap (λ (x : ℕ). x * 2 ^ d) (same_of_half (kept p n den) (q * 2 ^ (j - d)) u (mul-pos D (pow_pos d)) (subst (λ (x : ℕ). Half (kept p n den * u) x u) e3 (closest-half n u (mul-pos D (pow_pos d))))) ∙ e2

pub rnd_exact : (p n den q j : ℕ) → 0 < p → 0 < den → q ≤ 2 ^ p → n ≡ q * 2 ^ j * den → rnd p n den ≡ q * 2 ^ j
rnd_exact p n den q j P D Q e = elim (eq-or-lt_of_le Q) [
  | inl t ↦
      let x : q * 2 ^ j ≡ 1 * 2 ^ (p + j) = ap (λ (z : ℕ). z * 2 ^ j) t ∙ sym (pow-add 2 p j) ∙ sym (one-mul (2 ^ (p + j))) in
      few_digits p n den 1 (p + j) D (pow-lt P) (e ∙ ap (λ (z : ℕ). z * den) x) ∙ sym x
  | inr t ↦ few_digits p n den q j D t e
]

-- ---- the absolute law: up to 2 ^ (p + k) units the result is too, and it is within 2 ^ k / 2 units of the fraction
pub rnd_near : (p n den k : ℕ) → 0 < p → 0 < den → n ≤ 2 ^ (p + k) * den → (rnd p n den ≤ 2 ^ (p + k)) × Half (rnd p n den * den) n (2 ^ k * den)
rnd_near p n den k P D h = elim (eq-or-lt_of_le h) [
  | inl e ↦
      let x : rnd p n den ≡ 2 ^ (p + k) = rnd_exact p n den 1 (p + k) P D (pow_pos p) (e ∙ ap (λ (z : ℕ). z * den) (sym (one-mul (2 ^ (p + k))))) ∙ one-mul (2 ^ (p + k)) in
      (le_of_eq x, subst (λ (z : ℕ). Half (z * den) n (2 ^ k * den)) (sym x) (omega arith))
  | inr l ↦
      let w = rnd_half p n den D in
      let b : 2 ^ drop p n den * den ≤ 2 ^ k * den = mul-le-mul_right den (pow_mono (drop_le p n den k D l)) in
      (rnd_le p n den k D l, omega arith)
]

-- ---- where digits are dropped, the fraction has all p digits and more
pub full : (p n den : ℕ) → 0 < p → 0 < den → 0 < drop p n den → 2 ^ (p - 1) * 2 ^ drop p n den * den ≤ n
full p n den P D K =
    let d = drop p n den in
    let a : 2 ^ (p - 1 + d) ≤ n / den = size_reaches (n / den) (p - 1 + d) (omega arith) in
    subst (λ (z : ℕ). z * den ≤ n) (pow-add 2 (p - 1) d) ((le-div_iff_mul-le D).0 a)

pub double_pow : (p : ℕ) → 0 < p → 2 ^ p ≡ 2 * 2 ^ (p - 1)
double_pow p h = ap (λ (x : ℕ). 2 ^ x) (next p h) ∙ pow-succ' 2 (p - 1)
  where
    next : (p : ℕ) → 0 < p → p ≡ suc (p - 1)
    next p h = omega arith

-- ---- the relative law, with no bound asked: the error is at most 2 ^ - p of the fraction, or half of one unit
pub rnd_relative : (p n den : ℕ) → 0 < p → 0 < den → Half (2 ^ p * (rnd p n den * den)) (2 ^ p * n) (2 * n + 2 ^ p * den)
rnd_relative p n den P D = go (drop p n den) (closest-half n (den * 2 ^ drop p n den) (mul-pos D (pow_pos (drop p n den)))) (full p n den P D)
  where
    go : (d : ℕ) → Half (closest n (den * 2 ^ d) * (den * 2 ^ d)) n (den * 2 ^ d) → (0 < d → 2 ^ (p - 1) * 2 ^ d * den ≤ n)
        → Half (2 ^ p * (closest n (den * 2 ^ d) * 2 ^ d * den)) (2 ^ p * n) (2 * n + 2 ^ p * den)
    go zero h r = (omega (arith, mul-le-mul_left (2 ^ p) h.0), omega (arith, mul-le-mul_left (2 ^ p) h.1))
    go (suc d) h r =
        let x = r (zero-lt-suc d) in
        let y : 2 ^ p * 2 ^ suc d * den ≡ 2 * (2 ^ (p - 1) * 2 ^ suc d * den) = ap (λ (z : ℕ). z * 2 ^ suc d * den) (double_pow p P) ∙ group (2 ^ (p - 1)) (2 ^ suc d) den in
        (omega (arith, mul-le-mul_left (2 ^ p) h.0), omega (arith, mul-le-mul_left (2 ^ p) h.1))
      where
        group : (a b c : ℕ) → 2 * a * b * c ≡ 2 * (a * b * c)
        group a b c = omega arith

-- ---- `round`: below the overflow it is finite, has the sign s, and is `rnd` units in size; and where it is finite it is that
pub round-units : (f : Format) (s : Bool) (num den : ℕ) → rnd (prec f) (num * 2 ^ low f) den < 2 ^ (low f + suc (emax f))
    → HasValue (round f s num den) s (rnd (prec f) (num * 2 ^ low f) den) (2 ^ low f)
round-units f s num den h =
    let n = num * 2 ^ low f in
    subst (λ (z : Float). HasValue z s (rnd (prec f) n den) (2 ^ low f)) (sym (round_is f s num den)) (units_val f s (kept (prec f) n den) (drop (prec f) n den) h)

-- a size of at most 2 ^ (prec + k) is below the overflow
pub no_overflow : (f : Format) (k a : ℕ) → prec f + k ≤ low f + emax f → a ≤ 2 ^ (prec f + k) → a < 2 ^ (low f + suc (emax f))
no_overflow f k a o h = lt_of_le_of_lt h (pow-lt (above (prec f + k) (low f) (emax f) o))
  where
    above : (a b e : ℕ) → a ≤ b + e → a < b + suc e
    above a b e h = omega arith

under : (f : Format) (s : Bool) (q k : ℕ) → T (finite (units f s q k)) → q * 2 ^ k < 2 ^ (low f + suc (emax f))
unfolding units
under f s q k = go (ltb (q * 2 ^ k) (2 ^ (low f + suc (emax f)))) (ltb→lt (q * 2 ^ k) (2 ^ (low f + suc (emax f))))
  where
    go : (b : Bool) → (T b → q * 2 ^ k < 2 ^ (low f + suc (emax f))) → T (finite (cond b (odd (suc (prec f)) s q k (low f)) (inf s))) → q * 2 ^ k < 2 ^ (low f + suc (emax f))
    go true h t = h tt
    go false h t = absurd t

pub round-finite : (f : Format) (s : Bool) (num den : ℕ) → T (finite (round f s num den)) → HasValue (round f s num den) s (rnd (prec f) (num * 2 ^ low f) den) (2 ^ low f)
round-finite f s num den t =
    let n = num * 2 ^ low f in
    let q = kept (prec f) n den in
    let k = drop (prec f) n den in
    subst (λ (z : Float). HasValue z s (q * 2 ^ k) (2 ^ low f)) (sym (round_is f s num den)) (units_val f s q k (under f s q k (subst (λ (z : Float). T (finite z)) (round_is f s num den) t)))
