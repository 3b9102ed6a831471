-- From half-way between the largest value of the format and the next, which it does not hold, `nearest_root` is infinite; below that point it is finite.
use mathlib.Core.Path.{◌≡◌, refl, sym, ap, ◌∙◌, subst}
use mathlib.Core.Bool.{Bool, true, false, cond}
use Prim.Native.Nat.{ℕ, suc, ◌+◌, ◌-◌, ◌*◌, ◌%◌, ◌^◌, ◌≤◌, ◌<◌}
use native.Mathlib.Nat.{mul-pos, mul-le-mul_right, le_antisymm, pow-succ', not-le_of_lt, lt_of_not-le, le_of_eq, one-mul}
use native.Mathlib.Omega.{arith}
use lib.Dec.{T, ltb, ltb→lt}
use lib.Pow.{pow_pos, pow-add, pow_mono, pow-lt}
use lib.Ieee.{Float, nan, inf, fin, Format, prec, emax, low, odd, units, round, le}
use lib.Ieee.Fits.{two, two-le_pos, round_is}
use lib.Ieee.Order.{drop, kept, round_mono}
use lib.Ieee.Scale.{finite}
use Rattle.rounding.specs.Root.{nearest_root}
use Rattle.rounding.specs.NearestRoot.{square_of, square_of_root}
use Rattle.rounding.proofs.Closest.{Half}
use Rattle.rounding.proofs.Round.{rnd, rnd_near, round-units, drop_le, double_pow}
use Rattle.rounding.proofs.Value.{fin_of, fin-finite}
use Rattle.rounding.proofs.root.Nearest.{halves_of, scale_of, scale_pos, nearest_root_is, scaled_le_fraction, square_le_root}
use Rattle.rounding.proofs.root.Unique.{drop_ge, rnd_only}

-- That point, in half units: the largest value is (2 ^ prec - 1) * 2 ^ i units, and the next would be 2 ^ prec * 2 ^ i.
abbrev pub past_largest : Format → ℕ → ℕ
past_largest f i = 2 * 2 ^ (prec f + i) - 2 ^ i

later : (p i : ℕ) → i ≤ p + i
later p i = omega arith

back : (X B : ℕ) → B ≤ X → 2 * X - B + B ≡ 2 * X
back X B l = omega arith

-- ---- from there on: only an infinity is at least an infinity
at_least_infinite : (z : Float) → T (le (inf false) z) → z ≡ inf false
unfolding le
at_least_infinite nan t = absurd t
at_least_infinite (inf true) t = absurd t
at_least_infinite (inf false) t = refl
at_least_infinite (fin s m e) t = absurd t

too_large : (f : Format) (q k : ℕ) → q * 2 ^ k ≡ 2 ^ (low f + suc (emax f)) → units f false q k ≡ inf false
unfolding units
too_large f q k e = pick (ltb (q * 2 ^ k) (2 ^ (low f + suc (emax f)))) (ltb→lt (q * 2 ^ k) (2 ^ (low f + suc (emax f))))
  where
    pick : (b : Bool) → (T b → q * 2 ^ k < 2 ^ (low f + suc (emax f))) → cond b (odd (suc (prec f)) false q k (low f)) (inf false) ≡ inf false
    pick true h = absurd (not-le_of_lt (h tt) (le_of_eq (sym e)))
    pick false h = refl

-- the half-way point, (2 ^ (p + 1) - 1) * 2 ^ i halves, is a tie, and 2 ^ p is even
halfway_up : (p i u : ℕ) → 0 < p → 0 < u → rnd p ((2 * 2 ^ (p + i) - 2 ^ i) * u) (2 * u) ≡ 2 ^ p * 2 ^ i
halfway_up p i u P U =
    let n = (2 * 2 ^ (p + i) - 2 ^ i) * u in
    let X = 2 ^ (p + i) in
    let D : 0 < 2 * u = omega arith in
    let l : 2 ^ i ≤ X = pow_mono (later p i) in
    rnd_only p n (2 * u) (2 ^ p) i P D
    (record { digits = 1; exponent = p + i; small = pow-lt P; is = sym (pow-add 2 p i) ∙ sym (one-mul X) })
    (le_antisymm (drop_le p n (2 * u) i D (short X (2 ^ i) u (pow_pos i) l U)) (drop_ge p n (2 * u) i P D (λ _. long (2 ^ (p - 1 + i)) X (2 ^ i) u (ap (λ (x : ℕ). 2 ^ x) (one_more p i P) ∙ pow-succ' 2 (p - 1 + i)) l)))
    (half X (2 ^ p) (2 ^ i) u (pow-add 2 p i) l)
    (λ _. even p P)
  where
    one_more : (p i : ℕ) → 0 < p → p + i ≡ suc (p - 1 + i)
    one_more p i P = omega arith

    short : (X B u : ℕ) → 0 < B → B ≤ X → 0 < u → (2 * X - B) * u < X * (2 * u)
    short X B u b l U = omega (arith, ap (λ (y : ℕ). y * u) (back X B l), mul-pos b U)

    long : (Y X B u : ℕ) → X ≡ 2 * Y → B ≤ X → Y * (2 * u) ≤ (2 * X - B) * u
    long Y X B u e l = omega (arith, ap (λ (y : ℕ). y * u) (back X B l), ap (λ (y : ℕ). y * u) e, mul-le-mul_right u l)

    half : (X A B u : ℕ) → X ≡ A * B → B ≤ X → Half (A * (2 * u * B)) ((2 * X - B) * u) (2 * u * B)
    half X A B u e l = (omega (arith, ap (λ (y : ℕ). y * u) (back X B l), ap (λ (y : ℕ). y * u) e), omega (arith, ap (λ (y : ℕ). y * u) (back X B l), ap (λ (y : ℕ). y * u) e))

    even : (p : ℕ) → 0 < p → 2 ^ p % 2 ≡ 0
    even p P = let d = double_pow p P in omega arith

pub nearest_root_overflow : (f : Format) (n k i : ℕ) → prec f + i ≡ low f + suc (emax f) → square_of k (past_largest f i) ≤ square_of_root f n → nearest_root f n k ≡ inf false
nearest_root_overflow f n k i top h =
    let c = past_largest f i in
    let U = pow_pos (low f) in
    let den = 2 * 2 ^ low f in
    let threshold : round f false c den ≡ inf false =
    round_is f false c den ∙ too_large f (kept (prec f) (c * 2 ^ low f) den) (drop (prec f) (c * 2 ^ low f) den) (halfway_up (prec f) i (2 ^ low f) (two-le_pos (prec f) (two f)) U ∙ sym (pow-add 2 (prec f) i) ∙ ap (λ (x : ℕ). 2 ^ x) top) in
    let m = round_mono f c den (halves_of f n k) (scale_of f k) (mul-pos (pow_pos 1) U) (scale_pos f k) (same c (scale_of f k) (halves_of f n k) (2 ^ low f) (scaled_le_fraction f n k c h)) in
    nearest_root_is f n k ∙ at_least_infinite (round f false (halves_of f n k) (scale_of f k)) (subst (λ (z : Float). T (le z (round f false (halves_of f n k) (scale_of f k)))) threshold m)
  where
    same : (c s h u : ℕ) → c * s ≤ 2 * (h * u) → c * s ≤ h * (2 * u)
    same c s h u l = omega arith

-- ---- below: rounding adds half of a last place at most, and so less than what is missing
pub nearest_root-finite : (f : Format) (n k i : ℕ) → prec f + i ≡ low f + suc (emax f) → square_of_root f n < square_of k (past_largest f i) → T (finite (nearest_root f n k))
nearest_root-finite f n k i top h =
    let X = 2 ^ (prec f + i) in
    let num = halves_of f n k * 2 ^ low f in
    let den = scale_of f k in
    let l : 2 ^ i ≤ X = pow_mono (later (prec f) i) in
    let g : 2 * num < past_largest f i * den = lt_of_not-le (λ (g : past_largest f i * den ≤ 2 * num). not-le_of_lt h (square_le_root f n k (past_largest f i) g)) in
    let near = rnd_near (prec f) num den i (two-le_pos (prec f) (two f)) (scale_pos f k) (within X (2 ^ i) den num l g) in
    let small = fewer (rnd (prec f) num den) X (2 ^ i) den num l g near.1.0 in
    let v = round-units f false (halves_of f n k) den (subst (λ (e : ℕ). rnd (prec f) num den < 2 ^ e) top small) in
    rw (nearest_root_is f n k) (fin-finite f (round f false (halves_of f n k) den) (fin_of f false false (halves_of f n k) den (rnd (prec f) num den) (2 ^ low f) v))
  where
    within : (X B d n : ℕ) → B ≤ X → 2 * n < (2 * X - B) * d → n ≤ X * d
    within X B d n l g = omega (arith, ap (λ (y : ℕ). y * d) (back X B l))

    fewer : (r X B d n : ℕ) → B ≤ X → 2 * n < (2 * X - B) * d → 2 * (r * d) ≤ 2 * n + B * d → r < X
    fewer r X B d n l g h = lt_of_not-le (λ (m : X ≤ r). absurd (omega (arith, ap (λ (y : ℕ). y * d) (back X B l), mul-le-mul_right d m)))
