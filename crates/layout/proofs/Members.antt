-- A cluster's first two circles, found one after the other, are those of scope's definition.
use Prim.Native.Nat.{ℕ, ◌+◌, ◌≤◌, ◌<◌}
use native.Mathlib.Omega.{arith}
use native.Mathlib.Decide.{dec_lt, ℕ_discrete}
use mathlib.Core.Path.{◌≡◌, sym, ◌∙◌}
use mathlib.Core.Bool.{Bool, true, false, not, ◌&&◌, and-false}
use lib.Dec.{eqb}
use borrow.Author.Tests.{eq-eqb, ne_eqb}
use Rattle.scope.specs.Runs.{least}
use Rattle.laws.proofs.Runs.{least_at, least-none}
use Rattle.intake.specs.Firsts.{FirstFrom}

-- a number read, against a cluster's
pub is_member : {x number a : ℕ} → x ≡ number → x ≡ a → eqb number a ≡ true
is_member e same = eq-eqb _ _ (sym e ∙ same)

pub is_other : {x number a : ℕ} → x ≡ number → (x ≡ a → ⊥) → eqb number a ≡ false
is_other e differs = ne_eqb _ _ (λ same. differs (e ∙ same))

-- the first place from 0 on is the least
pub first_is_least : (p : ℕ → Bool) (n r : ℕ) → FirstFrom p 0 n r → r ≡ least n p
first_is_least p n r f =
    elim (dec_lt r n) [
      | yes h ↦ sym (least_at n p r h (rw (f.found h) tt) (λ k hk. rw (f.passed k (omega arith) hk) (λ t. t)))
      | no h ↦ let all : r ≡ n = omega (arith, f.within) in all ∙ sym ((least-none n p).1 (λ k hk. rw (f.passed k (omega arith) (omega arith)) (λ t. t)))
    ]

-- a member other than the first
abbrev pub another : (ℕ → Bool) → ℕ → ℕ → Bool
another member n k = member k && not (eqb k (least n member))

module _ (member : ℕ → Bool) (n first : ℕ) (one : FirstFrom member 0 n first) where
  -- without a first circle there is no second
  pub none_then_none : n ≤ first → n ≤ least n (another member n)
  none_then_none h = rw (← first_is_least (another member n) n first none) h
    where
      none : FirstFrom (another member n) 0 n first
      none = record { beyond = one.beyond; within = one.within; passed = λ k f b. rw (one.passed k f b); found = λ b. absurd (omega arith) }

  -- the second is the next after the first
  pub second_is_next : (second : ℕ) → FirstFrom member (first + 1) n second → second ≡ least n (another member n)
  second_is_next second two = first_is_least (another member n) n second next
    where
      same : first ≡ least n member
      same = first_is_least member n first one

      none_before : (k : ℕ) → 0 ≤ k → k < second → another member n k ≡ false
      none_before k f b =
          elim (dec_lt k first) [
            | yes h ↦ rw (one.passed k f h)
            | no h ↦ elim (ℕ_discrete k first) [
              | yes e ↦ rw (← same, eq-eqb k first e) (and-false (member k))
              | no e ↦ rw (two.passed k (omega arith) b)
            ]
          ]

      next : FirstFrom (another member n) 0 n second
      next =
          record {
            beyond = omega arith;
            within = two.within;
            passed = none_before;
            found = λ b. rw (two.found b, ← same, ne_eqb second first (λ e. omega (arith, two.beyond)));
          }
