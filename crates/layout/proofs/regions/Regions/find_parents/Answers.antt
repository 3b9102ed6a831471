-- `find_parents` meets its contract: the parents of the first i circles stand in the list, and while `any` is false none of them has one.
use Prim.Native.Nat.{◌<◌}
use native.Mathlib.Omega.{arith}
use mathlib.Core.Option.{none}
use mathlib.Core.Path.{◌≡◌, ◌∙◌}
use lib.ListN.{length}
use Rattle.scope.specs.Links.{regions}
use Rattle.scope.specs.Offset.{parent_of}
use Rattle.layout.specs.Offsets.{numbered}
use Rattle.layout.proofs.ChildParents.{at_tolerance, numbered_maybe, no-answer, one_more-number, neither}
use Rattle.layout.proofs.regions.Regions.find_parents.Goals as goal

pub loop-i-preserved : goal.loop-i-preserved
loop-i-preserved c =
    let p = c.parent_of-p in
    let l = c.loop-i in
    let n = length c.args.parents.now in
    let rs = regions c.args.self.now.masks.now c.args.self.now.areas.now in
    let inside : l.i < length l.parents = omega arith in
    let shown = numbered_maybe n p.result p.ensures.below in (
      one_more-number (λ j x. numbered n x ≡ parent_of n rs j) l.parents l.i _ inside l.invariant.0
          (rw c.unwrap_or.ensures (shown ∙ p.ensures.is ∙ at_tolerance n rs _ l.i c.requires.1)),
      λ e.
          let none_here = neither _ _ e in
          one_more-number (λ j x. numbered n x ≡ none) l.parents l.i _ inside (l.invariant.1 none_here.0)
          (rw c.unwrap_or.ensures (shown ∙ no-answer p.result (rw c.is_some-any.ensures at none_here.1))),
    )
