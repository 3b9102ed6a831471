-- `numbered` meets its contract: the clusters whose smallest circle comes before i have their number, and their circles are marked as seen.
use native.Mathlib.Omega.{arith}
use mathlib.Core.Path.{refl, ◌∙◌}
use Rattle.scope.specs.Limits.{circle_cap}
use Rattle.scope.specs.Closure.{at}
use Rattle.intake.specs.Limits.{max_circles}
use Rattle.clustering.proofs.Numbering.{numbered-none, numbered_old, numbered_new, numbered_all}
use Rattle.clustering.proofs.numbered.Goals as goal
use Rattle.clustering.proofs.numbered.Goals.{then-given-i-eq0, else-given-i-eq0}

pub loop-i-init : goal.loop-i-init
loop-i-init c = (omega arith, λ t s e. (refl, refl, numbered-none _ max_circles t))

pub loop-i-preserved : goal.loop-i-preserved
loop-i-preserved c =
    let l = c.loop-i in
    let hi = c.loop-i-test.true in
    elim c.if-given-i-eq0.branch [
      | then-given-i-eq0 w ↦ rw (w.count-is, w.given-is) (
        omega arith,
        λ t s e.
            let g = l.invariant.1 t s e in
            let given = w.give.ensures (at t l.i) (λ j hj. s.cells l.i j hi hj) in
            (given.0.long ∙ g.0, given.1.long ∙ g.1, numbered_new _ t e _ hi g.2 (omega arith) (omega arith) w.if-given-i-eq0.true given.0 given.1),
      )
      | else-given-i-eq0 w ↦ rw (w.count-is, w.given-is) (
        omega arith,
        λ t s e. let g = l.invariant.1 t s e in (g.0, g.1, numbered_old _ t e _ hi g.2 w.if-given-i-eq0.false),
      )
    ]

pub returns : goal.returns
unfolding circle_cap
returns c =
    let l = c.loop-i in
    λ t s e. numbered_all _ t e _ _ _ _ c.requires (omega arith) c.loop-i-test.false (l.invariant.1 t s e).0 (l.invariant.1 t s e).2
