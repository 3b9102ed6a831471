-- `root::squares::sum` meets its contract: the two squares added word by word, and a quarter of it where that has a digit too many.
use Prim.Native.Nat.{◌*◌, ◌^◌}
use native.Mathlib.Nat.{le_of_eq}
use native.Mathlib.Omega.{arith}
use Rattle.root.proofs.SquareLaws.{added, upper_lt, first-upper, quotient_upper, added_kept, added_over_four}
use Rattle.root.proofs.squares.sum.Goals as goal

pub quartered-q-requires : goal.quartered-q-requires
quartered-q-requires c =
    let s = c.square-s in
    (upper_lt (2 * c.args.b) s.result.hi s.result.lo (2 ^ 54) (le_of_eq s.ensures.0) (omega arith), s.ensures.1, c.requires.3)

pub overflow_add-hi : goal.overflow_add-hi
overflow_add-hi c = let w = added c.requires c.square-p.ensures c.square-s.ensures c.quartered-q.ensures in omega (arith, first-upper w, quotient_upper w)

pub overflow_add-hi-2 : goal.overflow_add-hi-2
overflow_add-hi-2 c = let w = added c.requires c.square-p.ensures c.square-s.ensures c.quartered-q.ensures in omega (arith, first-upper w, quotient_upper w, w.first-low, w.quotient_low)

pub returns-then-hi-lt-WORD : goal.returns-then-hi-lt-WORD
returns-then-hi-lt-WORD c = added_kept (added c.requires c.square-p.ensures c.square-s.ensures c.quartered-q.ensures) c.if-hi-lt-WORD.true

pub returns : goal.returns
returns c = added_over_four (added c.requires c.square-p.ensures c.square-s.ensures c.quartered-q.ensures) c.if-hi-lt-WORD.false
