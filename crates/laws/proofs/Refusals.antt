-- The table of refusals in general: whatever a call checks, in whatever order, its number is that of the first cause of the table that holds, since `refusal`
-- runs front to back over the table itself.
use Prim.Native.Nat.{ℕ}
use native.Mathlib.Omega.{arith}
use mathlib.Core.Path.{◌≡◌, refl}
use mathlib.Core.Logic.{⊎_elim}
use mathlib.Core.List.{List, [], ◌∷◌}
use lib.Dec.{T}
use Rattle.scope.specs.Refusals.{causes, Checks, cause_holds, first, refusal, front_to_back}
use Rattle.laws.specs.BothWays.{by_table, Reads}
use Rattle.laws.proofs.FrontToBack.{front_to_back_reads}

first-by_table : (cs : Checks) (ks : List ℕ) → first (cause_holds cs) ks ≡ front_to_back (by_table cs ks)
unfolding first front_to_back
first-by_table cs [] = refl
first-by_table cs (k ∷ ks) = rw (first-by_table cs ks)

pub table_reads : (cs : Checks) → Reads (refusal cs) (by_table cs causes)
unfolding refusal causes
table_reads cs = rw (first-by_table cs causes) (front_to_back_reads (by_table cs causes) tt)

-- "13 goes before 2"
pub thirteen_before_two : (cs : Checks) → refusal cs ≡ 2 → ¬ T (cause_holds cs 13)
unfolding causes
thirteen_before_two cs e =
    ⊎_elim (λ f. absurd (omega (arith, f.0))) (λ f. ⊎_elim (λ g. absurd (omega (arith, g.0))) (λ g. g.0) f.1)
    (((table_reads cs).refused 2 (omega arith)).0 e)
