-- `next_member` meets its contract: no circle from the start up to i is in the cluster.
use native.Mathlib.Omega.{arith}
use native.Mathlib.Decide.{dec_lt}
use mathlib.Core.Path.{◌≡◌}
use Rattle.layout.proofs.Members.{is_member, is_other}
use Rattle.layout.proofs.gauge.next_member.Goals as goal

pub returns-then-from-a : goal.returns-then-from-a
returns-then-from-a c =
    let l = c.loop-i in
    record {
      first = record {
        beyond = omega arith;
        within = omega arith;
        passed = l.invariant;
        found = λ h. is_member c.from.ensures c.if-from-a.true;
      };
      inside = omega arith;
    }

pub loop-i-preserved : goal.loop-i-preserved
loop-i-preserved c =
    let l = c.loop-i in
    λ k f b.
    elim (dec_lt k l.i) [
      | yes h ↦ l.invariant k f h
      | no h ↦ let here : k ≡ l.i = omega arith in rw here (is_other c.from.ensures c.if-from-a.false)
    ]
