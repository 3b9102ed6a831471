-- `padding_of` meets its contract: after some boxes the sum is that of their areas.
use native.Mathlib.Omega.{arith}
use native.Mathlib.Numerals.{add-one}
use borrow.Author.Tests.{lt-ltb, le-ltb}
use mathlib.Core.Path.{◌≡◌, refl}
use lib.ListN.{length}
use lib.Ieee.{of_bits, nan}
use Rattle.std.proofs.Common.{length-append, rules}
use Rattle.layout.proofs.Pairs.{pair_here, all_passed}
use Rattle.scope.specs.Runs.{gather}
use Rattle.layout.specs.ClusterBoxes.{padding_for}
use Rattle.layout.proofs.boxes.padding_of.Goals as goal

pub returns-then-widths-lt2 : goal.returns-then-widths-lt2
unfolding padding_for of_bits
returns-then-widths-lt2 c = rw (lt-ltb _ 2 c.if-widths-lt2.true)

pub loop-width-init : goal.loop-width-init
unfolding gather of_bits
loop-width-init c = refl

pub loop-width-preserved : goal.loop-width-preserved
unfolding gather
loop-width-preserved c =
    let l = c.loop-width in
    let here =
    pair_here c.args.widths.now c.args.heights.now _ _ _ c.next.new.self _ l.yielded_by _ c.in-Some.is c.next.ensures.steps
    (search rules) (search rules) in
    rw (length-append, add-one, l.invariant, here.2 nan, here.3 nan)

pub returns : goal.returns
unfolding padding_for
returns c =
    let l = c.loop-width in
    let n = length c.args.widths.now in
    let all =
    all_passed c.args.widths.now c.args.heights.now _ _ _ c.next.new.self _ l.yielded_by (omega arith) c.in-None.is c.next.ensures.steps
    (search rules) (search rules) in
    let each : length l.yielded ≡ n = omega arith in
    rw (c.root_or_nan.ensures, l.invariant, each, le-ltb n 2 c.if-widths-lt2.false)
