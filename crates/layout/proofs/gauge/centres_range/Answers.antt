-- `centres_range` meets its contract: after some circles the range is that of those.
use native.Mathlib.Omega.{arith}
use mathlib.Core.Path.{◌≡◌, ◌∙◌}
use lib.ListN.{length}
use lib.Ieee.{nan}
use Rattle.std.proofs.Common.{length-append, rules}
use Rattle.layout.proofs.Pairs.{pair_here, all_passed}
use Rattle.layout.proofs.Members.{is_member, is_other}
use Rattle.layout.proofs.Ranges.{none_in_range, one_in_range, one-passed}
use Rattle.layout.proofs.gauge.centres_range.Goals as goal

pub loop-x-init : goal.loop-x-init
loop-x-init c = c.nothing-r.ensures ∙ none_in_range _ _ _

pub loop-x-preserved-then-from-a : goal.loop-x-preserved-then-from-a
loop-x-preserved-then-from-a c =
    let l = c.loop-x in
    let here =
    pair_here c.args.coords.now c.args.numbers.now _ _ _ c.next.new.self _ l.yielded_by _ c.in-Some.is c.next.ensures.steps
    (search rules) (search rules) in
    let number = c.from.ensures ∙ here.3 0 in
    c.widened-r.ensures
    ∙ rw (length-append, here.2 nan) (one_in_range _ _ _ (length l.yielded) (is_member number c.if-from-a.true) l.invariant)

pub loop-x-preserved : goal.loop-x-preserved
loop-x-preserved c =
    let l = c.loop-x in
    let here =
    pair_here c.args.coords.now c.args.numbers.now _ _ _ c.next.new.self _ l.yielded_by _ c.in-Some.is c.next.ensures.steps
    (search rules) (search rules) in
    let number = c.from.ensures ∙ here.3 0 in
    rw length-append (one-passed _ _ _ (length l.yielded) (is_other number c.if-from-a.false) l.invariant)

pub returns : goal.returns
returns c =
    let l = c.loop-x in
    let all =
    all_passed c.args.coords.now c.args.numbers.now _ _ _ c.next.new.self _ l.yielded_by (omega arith) c.in-None.is c.next.ensures.steps
    (search rules) (search rules) in
    let each : length l.yielded ≡ length c.args.coords.now = omega arith in
    rw each at l.invariant
