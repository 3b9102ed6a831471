-- `layout_text` meets its contract: what is printed of the layout is what the definition prints.
use Rattle.scope.specs.Numbers.{golden}
use Rattle.card_output.proofs.Texts.{laid_out-given, laid_out-fits}
use Rattle.card_output.proofs.layout_text.Goals as goal

pub unwrap-laid-requires : goal.unwrap-laid-requires
unfolding golden
unwrap-laid-requires c =
    let e = c.normalize_layout_with_clusters.ensures.answer in
    laid_out-given _ _ _ _ c.requires.1 _ _ e

pub printed-requires : goal.printed-requires
unfolding golden
printed-requires c =
    let e = rw c.unwrap-laid.ensures at c.normalize_layout_with_clusters.ensures.answer in
    laid_out-fits _ _ _ _ c.requires.1 _ _ e

pub returns : goal.returns
unfolding golden
returns c =
    let e = rw c.unwrap-laid.ensures at c.normalize_layout_with_clusters.ensures.answer in
    rw (← e) c.printed.ensures
