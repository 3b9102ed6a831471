-- `later_fields` meets its contract. The invariant: the arrays hold what stands before the place, and reading on gives what reading from the start gives.
use native.Mathlib.Omega.{arith}
use mathlib.Core.Path.{sym, ◌∙◌, subst}
use lib.ListN.{drop, replicate}
use lib.Ieee.{of_bits}
use Rattle.shapes.specs.declared.circle.Circle.{Circle}
use Rattle.scope.specs.Numbers.{nought}
use Rattle.laws.proofs.CardFiles.{stops}
use Rattle.refusals.proofs.Exits.{stopped}
use Rattle.intake.specs.Limits.{max_circles, max_regions}
use Rattle.card_file.proofs.Reading.{
  SoFar,
  nothing_yet,
  next_is_whole,
  refusal_is,
  no_factor,
  circle-fits,
  region-fits,
  turn,
  with_circle_lem,
  with_region_lem,
  all_read,
}
use Rattle.card_file.proofs.Filling.{refused_is_blank}
use Rattle.card_file.proofs.FieldLaws.{tagged-inside}
use Rattle.card_file.proofs.cards.later_fields.Goals as goal
use Rattle.card_file.proofs.cards.later_fields.Goals.{in-Circle, in-Region}

pub loop-at-init : goal.loop-at-init
unfolding of_bits
loop-at-init c =
    let a = c.args in
    subst (λ (b : Circle). SoFar a.file.now a.start a.factor 0 (replicate max_circles b) 0 (replicate max_regions 0) (replicate max_regions 0) (replicate max_regions nought) a.start)
    (sym c.blank-circles.ensures) (nothing_yet a.file.now a.start a.factor)

pub returns-in-Err-clause-answer : goal.returns-in-Err-clause-answer
returns-in-Err-clause-answer c =
    let v = c.loop-at.invariant in
    let e = stopped c.check_next.result _ (refusal_is v c.check_next.ensures.number) _ c.in-Err.is in
    rw (c.refused.ensures.refusal, e.0) (sym (turn v c.loop-at-test.true ∙ stops _ _ e.1))

pub returns-in-Err-clause-rest : goal.returns-in-Err-clause-rest
returns-in-Err-clause-rest c = refused_is_blank _ c.refused.ensures.blank

pub body_at-body-requires : goal.body_at-body-requires
body_at-body-requires c =
    let checked = c.in-Ok.ensures in
    let accepted = sym (refusal_is c.loop-at.invariant checked.number) in
    tagged-inside _ _ _ checked.tag (next_is_whole _ (drop c.loop-at.at c.args.file.now) accepted)

pub unreachable-requires : goal.unreachable-requires
unreachable-requires c =
    let checked = c.in-Ok.ensures in
    no_factor _ _ (sym (refusal_is c.loop-at.invariant checked.number)) (rw c.in-Factor.is at checked.tag)

pub bounds-circles-n : goal.bounds-circles-n
bounds-circles-n c =
    let v = c.loop-at.invariant in
    let checked = c.in-Ok.ensures in
    circle-fits v (sym (refusal_is v checked.number)) (rw c.in-Circle.is at checked.tag)

pub bounds-masks-m : goal.bounds-masks-m
bounds-masks-m c =
    let v = c.loop-at.invariant in
    let checked = c.in-Ok.ensures in
    region-fits v (sym (refusal_is v checked.number)) (rw c.in-Region.is at checked.tag)

pub bounds-patterns-m : goal.bounds-patterns-m
bounds-patterns-m c =
    let v = c.loop-at.invariant in
    let checked = c.in-Ok.ensures in
    region-fits v (sym (refusal_is v checked.number)) (rw c.in-Region.is at checked.tag)

pub bounds-areas-m : goal.bounds-areas-m
bounds-areas-m c =
    let v = c.loop-at.invariant in
    let checked = c.in-Ok.ensures in
    region-fits v (sym (refusal_is v checked.number)) (rw c.in-Region.is at checked.tag)

pub loop-at-preserved : goal.loop-at-preserved
loop-at-preserved c =
    let v = c.loop-at.invariant in
    let checked = c.in-Ok.ensures in
    let accepted = sym (refusal_is v checked.number) in
    elim c.match-tag.branch [
      | in-Circle w ↦
          rw (
            w.n-is,
            w.circles-is,
            w.m-is,
            w.masks-is,
            w.patterns-is,
            w.areas-is,
            w.circle_of.ensures,
            c.body_at-body.ensures.body,
            c.body_length.ensures.0,
            ← checked.tag,
          )
          (with_circle_lem v c.loop-at-test.true accepted (rw w.in-Circle.is at checked.tag))
      | in-Region w ↦
          rw (
            w.n-is,
            w.circles-is,
            w.m-is,
            w.masks-is,
            w.patterns-is,
            w.areas-is,
            w.word_at-pattern.ensures,
            w.word_at.ensures,
            w.float_of.ensures,
            w.word_at-pattern.ensures,
            c.body_at-body.ensures.body,
            c.body_length.ensures.0,
            ← checked.tag,
          )
          (with_region_lem v c.loop-at-test.true accepted (rw w.in-Region.is at checked.tag))
    ]

pub returns-clause-answer : goal.returns-clause-answer
returns-clause-answer c = sym (all_read c.loop-at.invariant (omega arith))

pub returns-clause-rest : goal.returns-clause-rest
returns-clause-rest c = let v = c.loop-at.invariant in record {
  circles = v.circles_used;
  masks = v.masks_used;
  patterns = v.patterns_used;
  areas = v.areas_used;
  nothing = λ e h. cc;
}
