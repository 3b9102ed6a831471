-- `hold_selves` meets its contract, circle by circle.
use native.Mathlib.Omega.{arith}
use Rattle.laws.proofs.PackedRows.{single_shifted}
use Rattle.intake.specs.Limits.{max_circles}
use Rattle.clustering.proofs.Linking.{selves_step}
use Rattle.clustering.proofs.hold_selves.Goals as goal

pub loop-i-preserved : goal.loop-i-preserved
loop-i-preserved c =
    let l = c.loop-i in
    let h = c.loop-i-test.true in
    rw (single_shifted max_circles l.i (omega (arith, h, c.requires.0))) (selves_step _ l.i h l.invariant)
