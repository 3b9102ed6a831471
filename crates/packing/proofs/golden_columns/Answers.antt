-- `golden_columns` meets its contract: the table's rule at every entry.
use Rattle.std.proofs.Common.{◌≡◌, ℕ, zero, suc, ◌-◌, sym, refl, ap, ◌∙◌, arith}
use Rattle.scope.specs.Numbers.{golden}
use Rattle.scope.specs.Packing.{columns}
use Rattle.packing.proofs.ColumnTable.{table_is, no_columns}
use Rattle.packing.proofs.golden_columns.Goals as goal

next : (k : ℕ) → (k ≡ 0 → ⊥) → suc (k - 1) ≡ k
next zero h = absurd (h refl)
next (suc k) h = omega arith

pub returns-then-k-eq0 : goal.returns-then-k-eq0
returns-then-k-eq0 c = sym (ap (λ (k : ℕ). columns k golden) c.if-k-eq0.true ∙ no_columns)

pub returns : goal.returns
returns c = let k = c.args.k in table_is (k - 1) (omega arith) ∙ ap (λ (j : ℕ). columns j golden) (next k c.if-k-eq0.false)
