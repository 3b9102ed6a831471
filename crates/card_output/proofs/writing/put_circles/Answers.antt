-- `put_circles` meets its contract: after i turns the fields of the first i circles are put, and their numbers are seen.
use native.Mathlib.Omega.{arith}
use Rattle.card_output.proofs.PutFields.{circles-none, circles_next, circles-place, circles_all, typed_next}
use Rattle.card_output.proofs.writing.put_circles.Goals as goal

pub loop-c-init : goal.loop-c-init
loop-c-init c = (circles-none c.args.circles.now _ _, λ i h. absurd (omega arith))

pub put_circle-next-requires : goal.put_circle-next-requires
put_circle-next-requires c =
    let l = c.loop-c in
    omega (arith, circles-place _ l.c-index (omega arith) l.invariant.0)

pub loop-c-preserved : goal.loop-c-preserved
loop-c-preserved c =
    let l = c.loop-c in (
      circles_next _ l.c-index _ (omega arith) l.invariant.0 c.put_circle-next.ensures.put,
      typed_next _ l.c-index _ (omega arith) l.invariant.1 c.put_circle-next.ensures.typed,
    )

pub returns : goal.returns
returns c =
    let l = c.loop-c in
    record { put = circles_all _ l.c-index (omega arith) l.invariant.0; typed = λ i h. l.invariant.1 i (omega arith) }
