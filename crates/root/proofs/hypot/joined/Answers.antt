-- `root::hypot::joined` meets its contract, by the laws of the rounded root.
use native.Mathlib.Omega.{arith}
use Rattle.root.proofs.JoinedLaws.{short-root, rounded_short, joined_is_nearest, joined_is_infinite}
use Rattle.root.proofs.hypot.joined.Goals as goal

pub rounded-requires : goal.rounded-requires
rounded-requires c =
    let w = c.root-w in
    let s = c.sum-s in
    (short-root c.args.a c.args.b c.args.d c.args.e s.result.hi s.result.lo s.result.high w.result.root w.result.left c.requires.4 s.ensures w.ensures, omega arith, omega arith)

pub overflow_add-z-2 : goal.overflow_add-z-2
overflow_add-z-2 c =
    let w = c.root-w in
    let s = c.sum-s in
    let short = rounded_short c.args.a c.args.b c.args.d c.args.e s.result.hi s.result.lo s.result.high w.result.root w.result.left c.requires.4 s.ensures w.ensures c.rounded.result c.rounded.ensures in
    omega arith

pub returns-then-z-lt-INFINITY : goal.returns-then-z-lt-INFINITY
returns-then-z-lt-INFINITY c =
    let r = c.rounded in
    let w = c.root-w in
    let s = c.sum-s in
    joined_is_nearest c.args.a c.args.b c.args.d c.args.e s.result.hi s.result.lo s.result.high w.result.root w.result.left c.requires.4 s.ensures w.ensures r.result r.ensures c.if-z-lt-INFINITY.true

pub returns-else-z-lt-INFINITY : goal.returns-else-z-lt-INFINITY
returns-else-z-lt-INFINITY c =
    let r = c.rounded in
    let w = c.root-w in
    let s = c.sum-s in
    joined_is_infinite c.args.a c.args.b c.args.d c.args.e s.result.hi s.result.lo s.result.high w.result.root w.result.left c.requires.4 s.ensures w.ensures r.result r.ensures c.if-z-lt-INFINITY.false c.requires.5
