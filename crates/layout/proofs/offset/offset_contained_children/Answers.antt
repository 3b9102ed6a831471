-- `offset_contained_children` meets its contract: of fewer than two circles, or where none has a parent, nothing is moved.
use mathlib.Core.Path.{◌≡◌, sym, ap, ◌∙◌}
use borrow.Author.Rules.{rules}
use lib.ListN.{length}
use Rattle.scope.specs.Links.{regions}
use Rattle.scope.specs.Offset.{Moved, offset}
use Rattle.intake.specs.Columns.{circles_of}
use Rattle.intake.proofs.Columns.{length_shown}
use Rattle.layout.specs.Offsets.{moment}
use Rattle.layout.proofs.OffsetMoves.{offset_few, offset-none}
use Rattle.layout.proofs.offset.offset_contained_children.Goals as goal
use Rattle.layout.proofs.offset.offset_contained_children.Goals.{
  then-n-lt2-via-then-n-lt2,
  then-n-lt2-via-else-n-lt2+then-not-find_parents,
}

pub returns-then-n-lt2 : goal.returns-then-n-lt2
returns-then-n-lt2 c =
    let a = c.args in
    let cs = circles_of a.xs.now a.ys.now a.radii.now in
    let shown = length_shown a.xs.now a.ys.now a.radii.now in
    let same : moment cs 0 ≡ offset cs (regions a.r.now.masks.now a.r.now.areas.now) = elim c.then-n-lt2.branch [
      | then-n-lt2-via-then-n-lt2 w ↦ offset_few cs (regions a.r.now.masks.now a.r.now.areas.now) (rw shown w.if-n-lt2.true)
      | then-n-lt2-via-else-n-lt2+then-not-find_parents w ↦
          let f = w.find_parents in
          let same_length : length f.new.parents ≡ length a.xs.now = search rules in
          let long = sym f.auto.parents ∙ same_length in
          offset-none cs (regions a.r.now.masks.now a.r.now.areas.now) (rw shown w.if-n-lt2.false) f.new.parents
          (rw shown (rw long at f.ensures.all)) (rw shown (rw long at (f.ensures.none w.if-not-find_parents.true)))
    ] in
    record { circles = ap (λ (s : Moved). s.circles) same; mask = ap (λ (s : Moved). s.mask) same }

pub returns : goal.returns
returns c =
    let t = c.all_tried in
    let same_length : length c.find_parents.new.parents ≡ length c.args.xs.now = search rules in
    let same = t.ensures _ (rw (sym c.find_parents.auto.parents ∙ same_length) at c.find_parents.ensures.all) in
    record { circles = ap (λ (s : Moved). s.circles) same; mask = ap (λ (s : Moved). s.mask) same }
