-- `center_layout` meets its contract: one axis, then the other.
use Rattle.layout.proofs.Settled.{layout-centred}
use Rattle.layout.proofs.axis.center_layout.Goals as goal

pub returns : goal.returns
returns c =
    rw (c.centre.ensures, c.centre-2.ensures) (layout-centred c.args.xs.now c.args.ys.now c.args.radii.now c.requires.0 c.requires.2)
