-- `tried` meets its contract: each way out knows what the parent is, whether it has one child, and where that goes.
use Prim.Native.Nat.{◌+◌, ◌^◌}
use mathlib.Core.List.{List}
use mathlib.Core.Path.{ap, sym, ◌∙◌}
use lib.ListN.{length}
use Rattle.shapes.specs.declared.circle.Circle.{Circle}
use Rattle.scope.specs.Offset.{parents, tried}
use Rattle.intake.specs.Columns.{circles_of}
use Rattle.layout.specs.Offsets.{numbered, moment}
use Rattle.layout.proofs.ChildParents.{numbered_below, numbered_past, only_child_lem}
use Rattle.layout.proofs.OffsetMoves.{child-moved, tried_left, tried-moved, tried-none, tried-stays}
use Rattle.layout.proofs.offset.tried.Goals as goal
use Rattle.layout.proofs.offset.tried.Goals.{then-p-xs-via-then-p-xs, then-p-xs-via-else-p-xs+then-not-only_child}

pub returns-then-p-xs : goal.returns-then-p-xs
returns-then-p-xs c =
    let a = c.args in
    let n = length a.xs.now in
    let p = c.from-p.result in
    λ rs mask shows.
    let s = moment (circles_of a.xs.now a.ys.now a.radii.now) mask in
    elim c.then-p-xs.branch [
      | then-p-xs-via-then-p-xs w ↦
          let none_read = sym (ap (numbered n) (sym c.from-p.ensures) ∙ numbered_past n _ w.if-p-xs.true) in
          tried-none (parents n rs) s a.i ∙ ap (tried (parents n rs) s a.i) none_read
      | then-p-xs-via-else-p-xs+then-not-only_child w ↦
          let more = sym (rw c.requires.2 at w.only_child.ensures ∙ only_child_lem _ rs a.parents.now shows _) ∙ w.if-not-only_child.true in
          tried_left (parents n rs) s a.i p more
          ∙ ap (tried (parents n rs) s a.i) (sym (numbered_below _ _ w.if-p-xs.false) ∙ ap (numbered _) c.from-p.ensures)
    ]

pub returns : goal.returns
returns c =
    let a = c.args in
    let n = length a.xs.now in
    let p = c.from-p.result in
    let to = c.in-Some.c in
    let goes = c.in-Some.ensures in
    λ rs mask shows.
    let s = moment (circles_of a.xs.now a.ys.now a.radii.now) mask in
    let single = sym (rw c.requires.2 at c.only_child.ensures ∙ only_child_lem _ rs a.parents.now shows _) ∙ c.if-not-only_child.false in
    ap (λ (cs : List Circle). moment cs (mask + 2 ^ a.i)) (child-moved a.xs.now a.ys.now a.radii.now p a.i to c.requires.0 c.requires.3 c.requires.4 goes)
    ∙ tried-moved (parents n rs) s a.i p to single goes
    ∙ ap (tried (parents n rs) s a.i) (sym (numbered_below _ _ c.if-p-xs.false) ∙ ap (numbered _) c.from-p.ensures)

pub returns-in_default : goal.returns-in_default
returns-in_default c =
    let a = c.args in
    let n = length a.xs.now in
    let p = c.from-p.result in
    let stays = c.in_default.ensures in
    λ rs mask shows.
    let s = moment (circles_of a.xs.now a.ys.now a.radii.now) mask in
    let single = sym (rw c.requires.2 at c.only_child.ensures ∙ only_child_lem _ rs a.parents.now shows _) ∙ c.if-not-only_child.false in
    tried-stays (parents n rs) s a.i p single stays
    ∙ ap (tried (parents n rs) s a.i) (sym (numbered_below _ _ c.if-p-xs.false) ∙ ap (numbered _) c.from-p.ensures)
