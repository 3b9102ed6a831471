-- `check_first` meets its contract: the checks in their order.
use mathlib.Core.Path.{◌≡◌, sym, ◌∙◌}
use mathlib.Core.Bool.{not}
use lib.Dec.{eqb}
use Rattle.std.proofs.Common.{rules}
use Rattle.card_file.specs.Tags.{number}
use Rattle.scope.specs.Refusals.{front_to_back}
use Rattle.scope.specs.CardFile.{first_refusal}
use Rattle.card_file.proofs.FieldLaws.{unknown_no_factor}
use Rattle.card_file.proofs.cards.check_first.Goals as goal

pub returns-then-is_empty : goal.returns-then-is_empty
unfolding first_refusal front_to_back
returns-then-is_empty c = rw (sym c.is_empty.ensures ∙ c.if-is_empty.true)

pub returns-then-is_head_cut : goal.returns-then-is_head_cut
unfolding first_refusal front_to_back
returns-then-is_head_cut c =
    rw (sym c.is_empty.ensures ∙ c.if-is_empty.false, ← c.is_head_cut.ensures, c.if-is_head_cut.true)

pub returns-in_default : goal.returns-in_default
unfolding first_refusal front_to_back
returns-in_default c =
    let unknown = rw c.in_default.is at c.tag_at.ensures in
    rw (sym c.is_empty.ensures ∙ c.if-is_empty.false, ← c.is_head_cut.ensures, c.if-is_head_cut.false, unknown_no_factor _ unknown)

pub returns-then-ne : goal.returns-then-ne
unfolding first_refusal front_to_back
returns-then-ne c =
    let tagged = rw c.in-Some.is at c.tag_at.ensures in
    let told : c.ne.result ≡ not (eqb (number c.in-Some.tag) 1) = search rules in
    rw (sym c.is_empty.ensures ∙ c.if-is_empty.false, ← c.is_head_cut.ensures, c.if-is_head_cut.false, tagged, sym told ∙ c.if-ne.true)

pub returns : goal.returns
unfolding first_refusal front_to_back
returns c =
    let tagged = rw c.in-Some.is at c.tag_at.ensures in
    let told : c.ne.result ≡ not (eqb (number c.in-Some.tag) 1) = search rules in
    rw (sym c.is_empty.ensures ∙ c.if-is_empty.false, ← c.is_head_cut.ensures, c.if-is_head_cut.false, tagged, sym told ∙ c.if-ne.false)
    c.check_length.ensures
