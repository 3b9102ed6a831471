-- A number in decimal: the digits of a tenth of it and then the last, so the digits give the number back.
use Prim.Native.Nat.{ℕ, zero, suc, ◌+◌, ◌*◌, ◌-◌, ◌/◌, ◌%◌, ◌^◌, ◌≤◌, ◌<◌}
use mathlib.Core.Path.{◌≡◌, refl, sym, ap, ◌∙◌}
use mathlib.Core.Logic.{inl, inr}
use mathlib.Core.List.{List, [], ◌∷◌, ◌++◌}
use native.Mathlib.Omega.{arith}
use native.Mathlib.Nat.{pow-succ', div-one, div-div-eq-div-mul}
use lib.Dec.{ltb, ltb→lt, lt→ltb, lit≤}
use lib.ListN.{length, length-append}
use Rattle.algebra.proofs.Size.{either}
use Rattle.scope.specs.Runs.{tab, least}
use Rattle.scope.specs.Print.{decimal}
use Rattle.laws.proofs.Runs.{length-tab, tab_equal, tab_last, NoneBelow, least_at_most, none_before_least, least-passes, least-below, least_at}
use Rattle.laws.proofs.Cases.{not_ltb_iff}

-- the lowest d + 1 digits
abbrev digits : ℕ → ℕ → List ℕ
digits d n = tab (suc d) (λ i. 48 + n / 10 ^ (d - i) % 10)

none_past : (d n : ℕ) → n / 10 ^ (d - d) ≡ n
none_past d n = let e : d - d ≡ 0 = omega arith in rw e (div-one n)

one_fewer : (d n i : ℕ) → i ≤ d → n / 10 ^ (suc d - i) ≡ n / 10 / 10 ^ (d - i)
one_fewer d n i h = let e : suc d - i ≡ suc (d - i) = omega arith in rw (e, pow-succ') (sym (div-div-eq-div-mul n 10 (10 ^ (d - i))))

digits_one : (n : ℕ) → digits 0 n ≡ (48 + n % 10) ∷ []
unfolding tab
digits_one n = ap (λ (q : ℕ). (48 + q % 10) ∷ []) (none_past 0 n)

digits_more : (d n : ℕ) → digits (suc d) n ≡ digits d (n / 10) ++ ((48 + n % 10) ∷ [])
digits_more d n =
    let f : ℕ → ℕ = λ i. 48 + n / 10 ^ (suc d - i) % 10 in
    tab_last (suc d) f
    ∙ ap (λ (q : ℕ). tab (suc d) f ++ ((48 + q % 10) ∷ [])) (none_past (suc d) n)
    ∙ ap (λ l. l ++ ((48 + n % 10) ∷ []))
    (tab_equal (suc d) f (λ i. 48 + n / 10 / 10 ^ (d - i) % 10) (λ i h. ap (λ (q : ℕ). 48 + q % 10) (one_fewer d n i (omega arith))))

-- how many digits stand before the last
before_last : ℕ → ℕ
before_last n = least n (λ k. ltb n (10 ^ suc k))

decimal_is : (n : ℕ) → decimal n ≡ digits (before_last n) n
unfolding decimal before_last
decimal_is n = refl

before_last_at_most : (k n : ℕ) → n < 10 ^ suc k → before_last n ≤ k
unfolding before_last
before_last_at_most k n h = least-below n (λ j. ltb n (10 ^ suc j)) k (lt→ltb n (10 ^ suc k) h)

self_below_power : (n : ℕ) → n < 10 ^ n
self_below_power zero = lit≤ tt
self_below_power (suc n) = omega (arith, self_below_power n, pow-succ' 10 n)

-- the number has no more digits than those
before_last_reaches : (n : ℕ) → n < 10 ^ suc (before_last n)
unfolding before_last least
before_last_reaches zero = lit≤ tt
before_last_reaches (suc n) =
    let m = suc n in
    let bound : before_last m ≤ n = before_last_at_most n m (self_below_power m) in
    ltb→lt m (10 ^ suc (before_last m)) (least-passes m (λ j. ltb m (10 ^ suc j)) (omega arith))

before_last_more : (n : ℕ) → 10 ≤ n → before_last n ≡ suc (before_last (n / 10))
unfolding before_last
before_last_more n h =
    let m = n / 10 in
    let d = before_last m in
    let small : d ≤ m = least_at_most m (λ j. ltb m (10 ^ suc j)) in
    let power = pow-succ' 10 (suc d) in
    let above : n < 10 ^ suc (suc d) = omega (arith, before_last_reaches m) in
    least_at n (λ k. ltb n (10 ^ suc k)) (suc d) (omega arith) (lt→ltb n (10 ^ suc (suc d)) above) none
  where
    none : NoneBelow (suc (before_last (n / 10))) (λ k. ltb n (10 ^ suc k))
    none zero l t = absurd (omega (arith, ltb→lt n (10 ^ 1) t))
    none (suc j) l t =
        let low : 10 ^ suc j ≤ n / 10 = (not_ltb_iff (n / 10) (10 ^ suc j)).0 (none_before_least (n / 10) (λ k. ltb (n / 10) (10 ^ suc k)) j (omega arith)) in
        absurd (omega (arith, ltb→lt n (10 ^ suc (suc j)) t, pow-succ' 10 (suc j)))

pub decimal-one : (n : ℕ) → n < 10 → decimal n ≡ (48 + n % 10) ∷ []
decimal-one n h =
    let none : before_last n ≡ 0 = omega (arith, before_last_at_most 0 n h) in
    decimal_is n ∙ ap (λ (d : ℕ). digits d n) none ∙ digits_one n

pub decimal_more : (n : ℕ) → 10 ≤ n → decimal n ≡ decimal (n / 10) ++ ((48 + n % 10) ∷ [])
decimal_more n h =
    decimal_is n ∙ ap (λ (d : ℕ). digits d n) (before_last_more n h) ∙ digits_more (before_last (n / 10)) n
    ∙ ap (λ l. l ++ ((48 + n % 10) ∷ [])) (sym (decimal_is (n / 10)))

pub decimal_one_length : (n : ℕ) → n < 10 → length (decimal n) ≡ 1
decimal_one_length n h = ap length (decimal-one n h)

pub decimal_more_length : (n : ℕ) → 10 ≤ n → length (decimal n) ≡ length (decimal (n / 10)) + 1
decimal_more_length n h = ap length (decimal_more n h) ∙ length-append (decimal (n / 10)) ((48 + n % 10) ∷ [])

pub decimal-length : (k n : ℕ) → n < 10 ^ suc k → length (decimal n) ≤ suc k
decimal-length k n h =
    let long = length-tab (suc (before_last n)) (λ i. 48 + n / 10 ^ (before_last n - i) % 10) in
    omega (arith, ap length (decimal_is n), before_last_at_most k n h)

-- ---- the number that digits stand for, n digits before them; a byte below the digit 0 counts as one

unfoldable pub read_on : ℕ → List ℕ → ℕ
read_on n [] = n
read_on n (b ∷ bs) = read_on (n * 10 + (b - 48)) bs

pub read_last : (n : ℕ) (l : List ℕ) (b : ℕ) → read_on n (l ++ (b ∷ [])) ≡ read_on n l * 10 + (b - 48)
unfolding read_on
read_last n [] b = refl
read_last n (a ∷ l) b = read_last (n * 10 + (a - 48)) l b

pub decimal-read : (n : ℕ) → read_on 0 (decimal n) ≡ n
unfolding read_on
decimal-read n = below (suc n) n (omega arith)
  where
    below : (bound n : ℕ) → n < bound → read_on 0 (decimal n) ≡ n
    below zero n h = absurd (omega arith)
    below (suc bound) n h = elim (either n 10) [
      | inl l ↦ rw (decimal-one n l) (omega arith)
      | inr l ↦ rw (decimal_more n l, read_last, below bound (n / 10) (omega arith)) (omega arith)
    ]
