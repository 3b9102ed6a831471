-- `packed` meets its contract: the marks before j are packed.
use Prim.Native.Nat.{◌<◌}
use native.Mathlib.Omega.{arith}
use mathlib.Core.Path.{◌∙◌}
use Rattle.clustering.proofs.Packing.{none-packed, packed_step}
use Rattle.clustering.proofs.packed.Goals as goal

pub loop-j-init : goal.loop-j-init
loop-j-init c = λ f hi s. none-packed (f c.args.i)

pub loop-j-preserved : goal.loop-j-preserved
loop-j-preserved c =
    let l = c.loop-j in
    let i = c.args.i in
    let small : l.j < 64 = omega arith in
    λ f hi m. packed_step 64 l.j _ _ (f i) small (c.from.ensures ∙ m.cells i l.j hi c.loop-j-test.true) (l.invariant f hi m)
