-- `reposition_contained_child` meets its contract: each way out knows how the tests before it went.
use mathlib.Core.Path.{refl, sym, ◌∙◌}
use lib.Ieee.{of_bits}
use Rattle.intake.specs.Columns.{circles_of}
use Rattle.layout.proofs.OffsetMoves.{repositioned_by}
use Rattle.layout.proofs.offset.Discs.reposition_contained_child.Goals as goal
use Rattle.layout.proofs.offset.Discs.reposition_contained_child.Goals.{
  then-not-encloses-via-then-not-encloses,
  then-not-encloses-via-else-not-encloses+then-blocked,
}

pub returns-then-d_max : goal.returns-then-d_max
unfolding of_bits
returns-then-d_max c =
    let d = c.args.self.now in
    let cs = circles_of d.xs.now d.ys.now d.radii.now in
    let at_most = c.max_contained_offset-d_max.ensures in
    rw c.if-d_max.true
    at (repositioned_by cs _ _ _ _ c.at-parent.ensures c.at-child.ensures _ _ c.direction-u.ensures at_most _ refl)

pub returns-then-there : goal.returns-then-there
unfolding of_bits
returns-then-there c =
    let d = c.args.self.now in
    let cs = circles_of d.xs.now d.ys.now d.radii.now in
    let at_most = c.max_contained_offset-d_max.ensures in
    let there = sym (rw c.way_to.ensures at c.there.ensures) ∙ c.if-there.true in
    rw (c.if-d_max.false, there)
    at (repositioned_by cs _ _ _ _ c.at-parent.ensures c.at-child.ensures _ _ c.direction-u.ensures at_most _ refl)

pub returns-then-not-encloses : goal.returns-then-not-encloses
unfolding of_bits
returns-then-not-encloses c =
    let d = c.args.self.now in
    let cs = circles_of d.xs.now d.ys.now d.radii.now in
    let at_most = c.max_contained_offset-d_max.ensures in
    let moves = sym (rw c.way_to.ensures at c.there.ensures) ∙ c.if-there.false in
    let inside = sym c.encloses.ensures in
    let by = repositioned_by cs _ _ _ _ c.at-parent.ensures c.at-child.ensures _ _ c.direction-u.ensures at_most _ c.child_at-c.ensures in
    elim c.then-not-encloses.branch [
      | then-not-encloses-via-then-not-encloses w ↦ rw (c.if-d_max.false, moves, inside ∙ w.if-not-encloses.true) at by
      | then-not-encloses-via-else-not-encloses+then-blocked w ↦
          rw (c.if-d_max.false, moves, inside ∙ w.if-not-encloses.false, sym w.blocked.ensures ∙ w.if-blocked.true) at by
    ]

pub returns : goal.returns
unfolding of_bits
returns c =
    let d = c.args.self.now in
    let cs = circles_of d.xs.now d.ys.now d.radii.now in
    let at_most = c.max_contained_offset-d_max.ensures in
    let moves = sym (rw c.way_to.ensures at c.there.ensures) ∙ c.if-there.false in
    let inside = sym c.encloses.ensures ∙ c.if-not-encloses.false in
    let free = sym c.blocked.ensures ∙ c.if-blocked.false in
    rw (c.if-d_max.false, moves, inside, free)
    at (repositioned_by cs _ _ _ _ c.at-parent.ensures c.at-child.ensures _ _ c.direction-u.ensures at_most _ c.child_at-c.ensures)
