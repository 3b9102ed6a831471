-- `settled` meets its contract: the circles along with the container, and then in it.
use Rattle.layout.proofs.Settled.{settled-along}
use Rattle.layout.proofs.settling.settled.Goals as goal

pub returns : goal.returns
returns c =
    let a = c.args in
    let went = c.go_along.ensures in
    rw (c.center_shapes_in_container.ensures, went.xs, went.ys) (settled-along a.xs.now a.ys.now a.radii.now c.requires.0 c.requires.2 a.container)
