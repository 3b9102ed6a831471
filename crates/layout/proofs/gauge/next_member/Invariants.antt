-- `next_member` meets its contract: no circle from the start up to i is in the cluster.
use Prim.Native.Nat.{ℕ, ◌≤◌, ◌<◌}
use mathlib.Core.Path.{◌≡◌}
use mathlib.Core.Bool.{false}
use Rattle.scope.specs.Gauge.{in_cluster}
use Rattle.layout.proofs.gauge.next_member.Given as goal

abbrev pub invariant-loop-i : goal.invariant-loop-i
invariant-loop-i l = (k : ℕ) → l.from ≤ k → k < l.i → in_cluster l.numbers l.a k ≡ false
