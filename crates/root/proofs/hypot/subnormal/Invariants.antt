-- `root::hypot::subnormal` meets its contract: both numbers doubled as often, and the root halved as often.
use Prim.Native.Nat.{◌-◌, ◌^◌}
use Rattle.root.proofs.SubnormalLaws.{Brought}
use Rattle.root.proofs.hypot.subnormal.Given as goal

abbrev pub invariant-loop-a : goal.invariant-loop-a
invariant-loop-a l = Brought l.p l.q l.a l.b l.k

abbrev pub decreases-loop-a : goal.decreases-loop-a
decreases-loop-a l = 2 ^ 53 - l.a
