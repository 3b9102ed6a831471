-- `check_next` meets its contract: the checks in their order.
use mathlib.Core.Path.{sym, ap, ◌∙◌}
use Rattle.std.proofs.lemmas.Result.{err_from_is_err_and}
use Rattle.scope.specs.Refusals.{front_to_back}
use Rattle.scope.specs.CardFile.{next_refusal}
use Rattle.refusals.specs.Numbers.{number_if}
use Rattle.card_file.proofs.FieldLaws.{unknown_misplaced}
use Rattle.card_file.proofs.cards.check_next.Goals as goal

pub returns-then-is_head_cut-clause-number : goal.returns-then-is_head_cut-clause-number
unfolding next_refusal front_to_back
returns-then-is_head_cut-clause-number c = λ card en em. rw (← c.is_head_cut.ensures, c.if-is_head_cut.true)

pub returns-in_default-clause-number : goal.returns-in_default-clause-number
unfolding next_refusal front_to_back
returns-in_default-clause-number c =
    λ card en em.
    let unknown = rw c.in_default.is at c.tag_at.ensures in
    rw (← c.is_head_cut.ensures, c.if-is_head_cut.false, unknown_misplaced card _ unknown)

pub returns-then-is_misplaced-clause-number : goal.returns-then-is_misplaced-clause-number
unfolding next_refusal front_to_back
returns-then-is_misplaced-clause-number c =
    λ card en em.
    let tagged = rw c.in-Some.is at c.tag_at.ensures in
    rw (← c.is_head_cut.ensures, c.if-is_head_cut.false, tagged, ← c.is_misplaced.ensures card em, c.if-is_misplaced.true)

pub returns-then-is_circle_too_many-clause-number : goal.returns-then-is_circle_too_many-clause-number
unfolding next_refusal front_to_back
returns-then-is_circle_too_many-clause-number c =
    λ card en em.
    let tagged = rw c.in-Some.is at c.tag_at.ensures in
    rw (
      ← c.is_head_cut.ensures,
      c.if-is_head_cut.false,
      tagged,
      ← c.is_misplaced.ensures card em,
      c.if-is_misplaced.false,
      en,
      ← c.is_circle_too_many.ensures,
      c.if-is_circle_too_many.true,
    )

pub returns-then-is_region_too_many-clause-number : goal.returns-then-is_region_too_many-clause-number
unfolding next_refusal front_to_back
returns-then-is_region_too_many-clause-number c =
    λ card en em.
    let tagged = rw c.in-Some.is at c.tag_at.ensures in
    rw (
      ← c.is_head_cut.ensures,
      c.if-is_head_cut.false,
      tagged,
      ← c.is_misplaced.ensures card em,
      c.if-is_misplaced.false,
      en,
      ← c.is_circle_too_many.ensures,
      c.if-is_circle_too_many.false,
      em,
      ← c.is_region_too_many.ensures,
      c.if-is_region_too_many.true,
    )

pub returns-in_err-check_length-clause-number : goal.returns-in_err-check_length-clause-number
unfolding next_refusal front_to_back
returns-in_err-check_length-clause-number c =
    λ card en em.
    let p = err_from_is_err_and c.from_residual.result c.from_residual.ensures.1 in
    let tagged = rw c.in-Some.is at c.tag_at.ensures in
    rw (
      p.1,
      p.2,
      ← c.is_head_cut.ensures,
      c.if-is_head_cut.false,
      tagged,
      ← c.is_misplaced.ensures card em,
      c.if-is_misplaced.false,
      en,
      ← c.is_circle_too_many.ensures,
      c.if-is_circle_too_many.false,
      em,
      ← c.is_region_too_many.ensures,
      c.if-is_region_too_many.false,
    )
    (sym (ap number_if c.in_err-check_length.was) ∙ c.check_length.ensures)

pub returns-clause-number : goal.returns-clause-number
unfolding next_refusal front_to_back
returns-clause-number c =
    λ card en em.
    let tagged = rw c.in-Some.is at c.tag_at.ensures in
    rw (
      ← c.is_head_cut.ensures,
      c.if-is_head_cut.false,
      tagged,
      ← c.is_misplaced.ensures card em,
      c.if-is_misplaced.false,
      en,
      ← c.is_circle_too_many.ensures,
      c.if-is_circle_too_many.false,
      em,
      ← c.is_region_too_many.ensures,
      c.if-is_region_too_many.false,
    )
    c.in_ok-check_length.ensures
