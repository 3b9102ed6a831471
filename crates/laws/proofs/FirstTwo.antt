-- The first and the second circle of a cluster: they are the two lowest members, and every cluster of two circles or more has them.
use Prim.Native.Nat.{ℕ, ◌<◌}
use native.Mathlib.Omega.{arith}
use native.Mathlib.Decide.{dec_lt}
use mathlib.Core.Path.{◌≡◌, refl, sym, ◌∙◌}
use mathlib.Core.Logic.{◌≢◌}
use mathlib.Core.Bool.{Bool, not, ◌&&◌}
use lib.Dec.{T, eqb}
use Rattle.scope.specs.Runs.{least}
use Rattle.scope.specs.Layout.{Result}
use Rattle.scope.specs.Promises.{number_of, FirstTwo}
use Rattle.laws.proofs.Cases.{and_iff, not_iff, eqb_iff, tested}
use Rattle.laws.proofs.Runs.{least_at, least-below, least-passes, none_before_least}

-- the two lowest members below n, as the gauge looks for them; n where there is none
abbrev pub first_of : (ℕ → Bool) → ℕ → ℕ
first_of member n = least n member

abbrev pub second_of : (ℕ → Bool) → ℕ → ℕ
second_of member n = least n (λ k. member k && not (eqb k (first_of member n)))

another : (member : ℕ → Bool) (i k : ℕ) → T (member k) → (k ≡ i → ⊥) → T (member k && not (eqb k i))
another member i k t d = (and_iff (member k) (not (eqb k i))).1 (t, (not_iff (eqb k i)).1 (λ e. d ((eqb_iff k i).0 e)))

-- where a second one is found, both are members
pub both_found : (member : ℕ → Bool) (n : ℕ) → second_of member n < n → (first_of member n < n) × T (member (first_of member n)) × T (member (second_of member n)) × (second_of member n ≡ first_of member n → ⊥)
both_found member n l =
    let a = first_of member n in
    let b = second_of member n in
    let both = (and_iff (member b) (not (eqb b a))).0 (least-passes n (λ k. member k && not (eqb k a)) l) in
    let order = least-below n member b both.0 in
    let below : a < n = omega arith in
    (below, least-passes n member below, both.0, λ e. (not_iff (eqb b a)).0 both.1 ((eqb_iff b a).1 e))

-- so what is lowest is found
pub two_lowest : (member : ℕ → Bool) (n i j : ℕ) → i < j → j < n → T (member i) → T (member j) → ((k : ℕ) → k < j → T (member k) → k ≡ i)
    → (first_of member n ≡ i) × (second_of member n ≡ j)
two_lowest member n i j l m ti tj alone =
    let f : first_of member n ≡ i = least_at n member i (omega arith) ti (λ k h t. let e = alone k (omega arith) t in omega arith) in
    (f, rw f (least_at n (λ k. member k && not (eqb k i)) j m (another member i j tj (λ e. omega arith)) none))
  where
    none : (k : ℕ) → k < j → ¬ T (member k && not (eqb k i))
    none k h t = let both = (and_iff (member k) (not (eqb k i))).0 t in (not_iff (eqb k i)).0 both.1 ((eqb_iff k i).1 (alone k h both.0))

-- ---- a cluster with two circles i and j has a first and a second one
module _ (n : ℕ) (result : Result) (i j : ℕ) (li : i < n) (lj : j < n) (apart : i ≢ j) (same : number_of result i ≡ number_of result j) where
  abbrev member : ℕ → Bool
  member k = eqb (number_of result k) (number_of result i)

  abbrev a : ℕ
  a = first_of member n

  abbrev b : ℕ
  b = second_of member n

  has : (k : ℕ) → number_of result k ≡ number_of result i → T (member k)
  has k e = (eqb_iff (number_of result k) (number_of result i)).1 e

  is : (k : ℕ) → T (member k) → number_of result k ≡ number_of result i
  is k t = (eqb_iff (number_of result k) (number_of result i)).0 t

  -- i or j is another one than the first
  second_below : b < n
  second_below = elim (tested (eqb i a)) [
    | yes e ↦ let l = least-below n (λ k. member k && not (eqb k a)) j (another member a j (has j (sym same)) (λ f. apart ((eqb_iff i a).0 e ∙ sym f))) in omega arith
    | no e ↦ let l = least-below n (λ k. member k && not (eqb k a)) i (another member a i (has i refl) (λ f. e ((eqb_iff i a).1 f))) in omega arith
  ]

  only : (k : ℕ) → k < b → T (member k) → k ≡ a
  only k h t = elim (tested (eqb k a)) [
    | yes e ↦ (eqb_iff k a).0 e
    | no e ↦ absurd (none_before_least n (λ m. member m && not (eqb m a)) k h (another member a k t (λ f. e ((eqb_iff k a).1 f))))
  ]

  pub has_first_two : (p : ℕ) × (q : ℕ) × FirstTwo n result p q × (number_of result p ≡ number_of result i)
  has_first_two =
      let found = both_found member n second_below in
      let first = is a found.1 in
      let order = least-below n member b found.2 in (
        a,
        b,
        record {
          rising = elim (dec_lt a b) [ yes l ↦ l | no l ↦ absurd (found.3 (omega arith)) ];
          inside = second_below;
          together = is b found.2 ∙ sym first;
          no_other = λ k h e. only k h (has k (e ∙ first));
        },
        first,
      )

-- the two circles of lowest number, where they have one cluster number
pub first_two_of : (n : ℕ) → 1 < n → (result : Result) → number_of result 1 ≡ number_of result 0 → FirstTwo n result 0 1
first_two_of n l result e = record { rising = omega arith; inside = l; together = e; no_other = λ k h _. omega arith }
