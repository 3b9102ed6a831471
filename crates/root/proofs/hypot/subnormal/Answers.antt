-- `root::hypot::subnormal` meets its contract: both numbers doubled as often, and the root halved as often.
use mathlib.Core.Path.{◌≡◌, sym, subst}
use Prim.Native.Nat.{ℕ, ◌+◌, ◌-◌, ◌*◌, ◌/◌, ◌%◌, ◌^◌, ◌≤◌}
use native.Mathlib.Omega.{arith}
use Rattle.root.specs.Sums.{IsNearestRootOf}
use Rattle.root.proofs.SubnormalLaws.{brought_at_first, brought_once_more, some_digits, high_le, small-step, small-root, subnormal_is_nearest, zeros_are_nearest}
use Rattle.root.proofs.hypot.subnormal.Goals as goal

one_shifted : (x : ℕ) → x ≤ 2 ^ 52 → 1 * x % 2 ^ 64 ≡ x
one_shifted x h = omega arith

pub returns-then-p-eq0 : goal.returns-then-p-eq0
returns-then-p-eq0 c = zeros_are_nearest c.args.p c.args.q c.if-p-eq0.true c.requires.0

pub loop-a-init : goal.loop-a-init
loop-a-init c = brought_at_first c.args.p c.args.q c.if-p-eq0.false c.requires.0 c.requires.1

pub overflow_mul-a : goal.overflow_mul-a
overflow_mul-a c = let w = c.loop-a.invariant in omega (arith, w.high)

pub overflow_mul-b : goal.overflow_mul-b
overflow_mul-b c = let w = c.loop-a.invariant in omega (arith, w.order, w.high)

pub overflow_add-k : goal.overflow_add-k
overflow_add-k c = let w = c.loop-a.invariant in omega (arith, w.count)

pub loop-a-smaller : goal.loop-a-smaller
loop-a-smaller c = let s = c.loop-a in let h = some_digits c.args.p c.args.q s.a s.b s.k s.invariant in omega (arith, h, c.loop-a-test.true)

pub loop-a-preserved : goal.loop-a-preserved
loop-a-preserved c = let s = c.loop-a in brought_once_more c.args.p c.args.q s.a s.b s.k s.invariant c.loop-a-test.true

pub sum-s-requires : goal.sum-s-requires
sum-s-requires c = let w = c.loop-a.invariant in (c.loop-a-test.false, w.high, omega (arith, w.order, w.high), omega arith)

pub root-w-requires : goal.root-w-requires
root-w-requires c = let s = c.sum-s.ensures in (s.long, s.short, s.low)

pub overflow_sub-j : goal.overflow_sub-j
overflow_sub-j c =
    let w = c.root-w in
    let s = c.sum-s in
    let l = c.loop-a in
    high_le c.args.p c.args.q l.a l.b l.k s.result.hi s.result.lo s.result.high w.result.root w.result.left l.invariant c.requires.1 c.requires.0 c.loop-a-test.false s.ensures w.ensures

pub overflow_shl-result : goal.overflow_shl-result
overflow_shl-result c = let n = c.loop-a.invariant in omega (arith, n.count)

pub overflow_add-result : goal.overflow_add-result
overflow_add-result c =
    let w = c.root-w in
    let s = c.sum-s in
    let l = c.loop-a in
    omega (arith, small-step c.args.p c.args.q l.a l.b l.k s.result.hi s.result.lo s.result.high w.result.root w.result.left l.invariant c.requires.1 c.requires.0 c.loop-a-test.false s.ensures w.ensures, small-root c.args.p c.args.q l.a l.b l.k s.result.hi s.result.lo s.result.high w.result.root w.result.left l.invariant c.requires.1 c.requires.0 c.loop-a-test.false s.ensures w.ensures)

pub overflow_add-result-2 : goal.overflow_add-result-2
overflow_add-result-2 c = let n = c.loop-a.invariant in omega (arith, n.count)

pub overflow_shr-result : goal.overflow_shr-result
overflow_shr-result c = let n = c.loop-a.invariant in omega (arith, n.count)

pub returns : goal.returns
returns c =
    let w = c.root-w in
    let s = c.sum-s in
    let l = c.loop-a in
    subst (λ (x : ℕ). IsNearestRootOf (c.args.p * c.args.p + c.args.q * c.args.q) ((w.result.root + x) / 2 ^ (l.k - s.result.high + 1))) (sym (one_shifted (2 ^ (l.k - s.result.high)) (small-step c.args.p c.args.q l.a l.b l.k s.result.hi s.result.lo s.result.high w.result.root w.result.left l.invariant c.requires.1 c.requires.0 c.loop-a-test.false s.ensures w.ensures))) (subnormal_is_nearest c.args.p c.args.q l.a l.b l.k s.result.hi s.result.lo s.result.high w.result.root w.result.left l.invariant c.requires.1 c.requires.0 c.loop-a-test.false s.ensures w.ensures)
