-- `Numbers::give` meets its contract: the places before j have been written.
use Prim.Native.Nat.{ℕ}
use mathlib.Core.Bool.{Bool}
use Rattle.clustering.specs.Table.{Row, Given}
use Rattle.clustering.proofs.Numbers.give.Given as goal

abbrev pub invariant-loop-j : goal.invariant-loop-j
invariant-loop-j l =
    (p : ℕ → Bool) → Row l.n l.row p → Given l.j p l.number l.initial.self.numbers l.self.numbers
    × Given l.j p 1 l.initial.self.seen l.self.seen
