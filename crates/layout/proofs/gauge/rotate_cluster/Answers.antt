-- `rotate_cluster` meets its contract: without a second circle all stay, else the lists are turned and mirrored.
use native.Mathlib.Omega.{arith}
use lib.ListN.{length}
use Rattle.scope.specs.Gauge.{in_cluster}
use Rattle.layout.proofs.Members.{first_is_least, none_then_none, second_is_next}
use Rattle.layout.proofs.Gauged.{one-stays, two_rotate}
use Rattle.layout.proofs.gauge.rotate_cluster.Goals as goal

pub returns-in_default : goal.returns-in_default
returns-in_default c =
    let a = c.args in
    let member = in_cluster a.numbers.now a.a in
    λ rs lifted.
    one-stays member a.xs.now a.ys.now rs c.requires.0 lifted
    (rw (← c.requires.1) (none_then_none member (length a.numbers.now) _ c.in_default.ensures.first (omega arith)))

pub returns-in_default-next_member : goal.returns-in_default-next_member
returns-in_default-next_member c =
    let a = c.args in
    let member = in_cluster a.numbers.now a.a in
    let two = second_is_next member (length a.numbers.now) _ c.in-Some.ensures.first _ c.in_default-next_member.ensures.first in
    λ rs lifted. one-stays member a.xs.now a.ys.now rs c.requires.0 lifted (rw (← c.requires.1) (omega (arith, two)))

pub returns : goal.returns
returns c =
    let a = c.args in
    let member = in_cluster a.numbers.now a.a in
    let n = length a.numbers.now in
    let one = c.in-Some.ensures in
    let two = c.in-Some-next_member.ensures in
    let turned = c.turn_level.ensures in
    λ rs lifted.
    rw (c.mirror.ensures, c.mirror-2.ensures, turned.x, turned.y)
    (two_rotate member a.xs.now a.ys.now rs c.requires.0 lifted _ _
    (rw (← c.requires.1) (first_is_least member n _ one.first)) (rw (← c.requires.1) (second_is_next member n _ one.first _ two.first))
    (rw (← c.requires.1) one.inside) (rw (← c.requires.1) two.inside))
