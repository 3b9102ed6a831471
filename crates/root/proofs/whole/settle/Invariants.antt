-- `root::whole::settle` meets its contract: the first loop ends at or below the root, the second never passes it.
use Prim.Native.Nat.{◌*◌, ◌-◌, ◌^◌, ◌≤◌, ◌<◌}
use Rattle.root.proofs.whole.settle.Given as goal

abbrev pub invariant-loop-q : goal.invariant-loop-q
invariant-loop-q l = l.q < 2 ^ 31

abbrev pub decreases-loop-q : goal.decreases-loop-q
decreases-loop-q l = l.q

abbrev pub invariant-loop-q-2 : goal.invariant-loop-q-2
invariant-loop-q-2 l = (l.q * l.q ≤ l.m) × (l.q < 2 ^ 27)

abbrev pub decreases-loop-q-2 : goal.decreases-loop-q-2
decreases-loop-q-2 l = 2 ^ 27 - l.q
