-- Checks that run front to back, read both ways: the number is that of the first check whose cause holds, by going through the checks.
use Prim.Native.Nat.{ℕ}
use mathlib.Core.Path.{◌≡◌, refl, sym}
use mathlib.Core.Logic.{◌↔◌, inl, inr, ⊎_elim, ◌≢◌}
use mathlib.Core.Bool.{Bool, true, false, not, ◌&&◌, cond}
use mathlib.Core.List.{[], ◌∷◌, ◌++◌}
use lib.Dec.{T, eqb}
use Rattle.scope.specs.Refusals.{Checks, cause_holds, front_to_back}
use Rattle.laws.specs.BothWays.{ComesBack, NoneHolds, Reads}
use Rattle.laws.proofs.Cases.{or_iff, and_iff, not_iff, eqb_iff, tested, is_true, is_false}

-- no check has the number 0
abbrev pub numbered : Checks → Bool
numbered [] = true
numbered (c ∷ cs) = not (eqb c.0 0) && numbered cs

comes_back : (cs : Checks) (k : ℕ) → k ≢ 0 → (front_to_back cs ≡ k) ↔ ComesBack cs k
unfolding front_to_back
comes_back [] k nz = (λ e. nz (sym e), λ h. absurd h)
comes_back (c ∷ cs) k nz =
    let rest = comes_back cs k nz in
    elim (tested c.1) [
      | yes h ↦ rw (is_true c.1 h) (λ e. inl (e, tt), ⊎_elim (λ f. f.0) (λ f. absurd (f.0 tt)))
      | no h ↦ rw (is_false c.1 h) (λ e. inr ((λ t. t), rest.0 e), ⊎_elim (λ f. absurd f.1) (λ f. rest.1 f.1))
    ]

none-holds : (cs : Checks) → T (numbered cs) → (front_to_back cs ≡ 0) ↔ NoneHolds cs
unfolding front_to_back
none-holds [] o = (λ e. tt, λ h. refl)
none-holds (c ∷ cs) o =
    let positive = (and_iff (not (eqb c.0 0)) (numbered cs)).0 o in
    let rest = none-holds cs positive.1 in
    elim (tested c.1) [
      | yes h ↦ rw (is_true c.1 h) (λ e. absurd ((not_iff (eqb c.0 0)).0 positive.0 ((eqb_iff c.0 0).1 e)), λ f. absurd (f.0 tt))
      | no h ↦ rw (is_false c.1 h) (λ e. ((λ t. t), rest.0 e), λ f. rest.1 f.1)
    ]

pub front_to_back_reads : (cs : Checks) → T (numbered cs) → Reads (front_to_back cs) cs
front_to_back_reads cs o = record { runs = refl; refused = comes_back cs; accepted = none-holds cs o }

-- a number that is that of checks which run front to back
pub as_front_to_back : {number : ℕ} (cs : Checks) → T (numbered cs) → number ≡ front_to_back cs → Reads number cs
as_front_to_back cs o e = rw e (front_to_back_reads cs o)

-- a check behind others decides only where none of them does
pub last_check : (cs : Checks) (k : ℕ) (b : Bool) → T (numbered cs)
    → front_to_back (cs ++ (k, b) ∷ []) ≡ cond (eqb (front_to_back cs) 0) (cond b k 0) (front_to_back cs)
unfolding front_to_back
last_check [] k b o = refl
last_check (c ∷ cs) k b o =
    let positive = (and_iff (not (eqb c.0 0)) (numbered cs)).0 o in
    elim (tested c.1) [
      | yes h ↦ rw (is_true c.1 h, is_false (eqb c.0 0) ((not_iff (eqb c.0 0)).0 positive.0))
      | no h ↦ rw (is_false c.1 h) (last_check cs k b positive.1)
    ]

pub last_passes : (number k : ℕ) → cond (eqb number 0) (cond false k 0) number ≡ number
last_passes number k =
    elim (tested (eqb number 0)) [ yes h ↦ rw ((eqb_iff number 0).0 h) | no h ↦ rw (is_false (eqb number 0) h) ]

-- so that none refuses exactly if neither they nor it does
pub last_accepts_iff : (number k : ℕ) (b : Bool) → k ≢ 0 → (cond (eqb number 0) (cond b k 0) number ≡ 0) ↔ ((number ≡ 0) × (¬ T b))
last_accepts_iff number k b nz =
    elim (tested (eqb number 0)) [
      | yes h ↦ let z = (eqb_iff number 0).0 h in rw z (alone b)
      | no h ↦ rw (is_false (eqb number 0) h) (λ e. absurd (h ((eqb_iff number 0).1 e)), λ f. f.0)
    ]
  where
    alone : (b : Bool) → (cond b k 0 ≡ 0) ↔ (◌≡◌ {A = ℕ} 0 0 × (¬ T b))
    alone true = (λ e. absurd (nz e), λ h. absurd (h.1 tt))
    alone false = (λ e. (refl, λ t. t), λ h. refl)

comes_back_holds : (cs : Checks) (k : ℕ) → ComesBack cs k → T (cause_holds cs k)
unfolding cause_holds
comes_back_holds [] k h = h
comes_back_holds (c ∷ cs) k (inl h) = (or_iff (eqb c.0 k && c.1) (cause_holds cs k)).1 (inl ((and_iff (eqb c.0 k) c.1).1 ((eqb_iff c.0 k).1 h.0, h.1)))
comes_back_holds (c ∷ cs) k (inr h) = (or_iff (eqb c.0 k && c.1) (cause_holds cs k)).1 (inr (comes_back_holds cs k h.1))

-- "a number comes back only for its cause"
pub only_for_its_cause : {number : ℕ} {cs : Checks} → Reads number cs → (k : ℕ) → k ≢ 0 → number ≡ k → T (cause_holds cs k)
only_for_its_cause {cs} r k nz e = comes_back_holds cs k ((r.refused k nz).0 e)
