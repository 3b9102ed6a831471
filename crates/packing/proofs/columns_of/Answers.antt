-- `columns_of` meets its contract: the table for 1.618 alone, else the two roots and their product raised.
use Rattle.std.proofs.Common.{T, sym, ap, ◌∙◌, subst, arith}
use Rattle.scope.specs.Numbers.{golden}
use Rattle.scope.specs.Packing.{columns}
use Rattle.promises.proofs.packing.Proportions.{columns_at_most_16}
use Rattle.packing.proofs.ColumnTable.{golden-alone, proportion_good}
use Rattle.packing.proofs.Counting.{count_small}
use Rattle.packing.proofs.RaisedWord.{raised_word_is}
use Rattle.packing.proofs.columns_of.Goals as goal

pub returns-then-proportion : goal.returns-then-proportion
unfolding golden
returns-then-proportion c =
    let same = golden-alone c.args.proportion (proportion_good c.args.proportion c.well_formed.1.0.1 c.requires.1) (subst T (sym c.if-proportion.true) tt) in
    c.golden_columns.ensures ∙ ap (columns c.args.k) (sym same)

pub returns : goal.returns
unfolding columns
returns c =
    let k = c.args.k in
    let few = columns_at_most_16 k (count_small k c.requires.0) c.args.proportion (proportion_good c.args.proportion c.well_formed.1.0.1 c.requires.1) c.requires.0 in
    c.raised.ensures ∙ rw (c.root_or_nan.ensures, c.root_or_nan-2.ensures) (raised_word_is _ (omega (arith, few)))
