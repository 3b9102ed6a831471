-- `range_of` meets its contract: after some circles the range is that of those.
use native.Mathlib.Omega.{arith}
use mathlib.Core.Path.{◌≡◌, refl, ◌∙◌}
use lib.ListN.{length}
use lib.Ieee.{nan}
use Rattle.std.proofs.Common.{length-append, rules}
use Rattle.layout.proofs.Pairs.{pair_here, all_passed}
use Rattle.scope.specs.Runs.{always}
use Rattle.layout.proofs.Ranges.{none_in_range, one_in_range}
use Rattle.layout.proofs.axis.range_of.Goals as goal

pub loop-x-init : goal.loop-x-init
loop-x-init c = c.nothing-r.ensures ∙ none_in_range _ _ _

pub loop-x-preserved : goal.loop-x-preserved
loop-x-preserved c =
    let l = c.loop-x in
    let here =
    pair_here c.args.coords.now c.args.radii.now _ _ _ c.next.new.self _ l.yielded_by _ c.in-Some.is c.next.ensures.steps
    (search rules) (search rules) in
    c.widened-r.ensures ∙ rw (length-append, here.2 nan, here.3 nan) (one_in_range always _ _ (length l.yielded) refl l.invariant)

pub returns : goal.returns
returns c =
    let l = c.loop-x in
    let all =
    all_passed c.args.coords.now c.args.radii.now _ _ _ c.next.new.self _ l.yielded_by (omega arith) c.in-None.is c.next.ensures.steps
    (search rules) (search rules) in
    let each : length l.yielded ≡ length c.args.coords.now = omega arith in
    rw each at l.invariant
