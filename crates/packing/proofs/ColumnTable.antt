-- The table of column counts has the rule of document 01 at every entry for 1.618: one test, computed over the whole table. And the column answer.
use Rattle.std.proofs.Common.{◌≡◌, ℕ, suc, ◌<◌, ◌≤◌, Bool, true, false, T, eqb, List, [], ◌∷◌, get_or, sym, refl, ◌∙◌, arith, eqb→eq}
use lib.Ieee.{Float, binary64, eq, fits}
use Rattle.algebra.proofs.Table.{every, at}
use Rattle.rounding.specs.Value.{negative, Fin}
use Rattle.rounding.proofs.Value.{val-mag}
use Rattle.rounding.proofs.Unique.{val_unique}
use Rattle.rounding.proofs.Order.{eq_is}
use Rattle.scope.specs.Numbers.{golden}
use Rattle.scope.specs.Limits.{circle_cap, proportion_ok}
use Rattle.scope.specs.Refusals.{columns_refusal}
use Rattle.scope.specs.Packing.{columns}
use Rattle.scope.specs.Computing.{computing}
use Rattle.laws.proofs.Accepted.{not_too_many_iff, not_bad_proportion_iff}
use Rattle.laws.proofs.EntryPoints.{columns_reads}
use Rattle.intake.specs.Limits.{max_circles}
use Rattle.promises.proofs.packing.Proportions.{Proportion, proportion_is}

-- the columns of 1 to 64 boxes
abbrev pub table : List ℕ
table =
    2 ∷ 2 ∷ 3 ∷ 3 ∷ 3 ∷ 4 ∷ 4 ∷ 4 ∷ 4 ∷ 5 ∷ 5 ∷ 5 ∷ 5 ∷ 5 ∷ 5 ∷ 6 ∷ 6 ∷ 6 ∷ 6 ∷ 6 ∷ 6 ∷ 6 ∷ 7 ∷ 7 ∷ 7 ∷ 7 ∷ 7 ∷ 7 ∷ 7 ∷ 7 ∷ 8 ∷ 8
    ∷ 8 ∷ 8 ∷ 8 ∷ 8 ∷ 8 ∷ 8 ∷ 8 ∷ 9 ∷ 9 ∷ 9 ∷ 9 ∷ 9 ∷ 9 ∷ 9 ∷ 9 ∷ 9 ∷ 9 ∷ 9 ∷ 10 ∷ 10 ∷ 10 ∷ 10 ∷ 10 ∷ 10 ∷ 10 ∷ 10 ∷ 10 ∷ 10
    ∷ 10 ∷ 11 ∷ 11 ∷ 11 ∷ []

right : ℕ → ℕ → Bool
right k x = eqb x (columns (suc k) golden)

every_right : T (every right 0 table)
unfolding computing right
every_right = tt

pub table_is : (k : ℕ) → k < max_circles → get_or table k 0 ≡ columns (suc k) golden
unfolding right
table_is k h = eqb→eq (get_or table k 0) (columns (suc k) golden) (at right 0 table every_right k h)

pub no_columns : columns 0 golden ≡ 0
unfolding computing
no_columns = refl

-- ---- an f64 in range is a proportion
pub proportion_good : (p : Float) → fits binary64 p ≡ true → T (proportion_ok p) → Proportion p
proportion_good p f t = proportion_is p (rw f tt) t

-- ---- a proportion that equals 1.618 is it
golden-fin : Fin binary64 golden
unfolding computing Fin fits
golden-fin = tt

golden-sign : negative golden ≡ false
unfolding computing negative
golden-sign = refl

pub golden-alone : (p : Float) → Proportion p → T (eq p golden) → p ≡ golden
golden-alone p P t =
    let same = rw (val-mag binary64 p P.sign, val-mag binary64 golden golden-sign) at ((eq_is binary64 p golden P.fin golden-fin).0 t) in
    val_unique binary64 p golden P.fin golden-fin (P.sign ∙ sym golden-sign) (omega arith)

-- ---- what the answer has checked
module _ (k : ℕ) (proportion : Float) where
  pub columns_asked : columns_refusal k proportion ≡ 0 → (k ≤ max_circles) × T (proportion_ok proportion)
  unfolding circle_cap
  columns_asked h =
      let each = (columns_reads k proportion).accepted.0 h in
      ((not_too_many_iff k).0 each.0, (not_bad_proportion_iff proportion).0 each.1.0)
