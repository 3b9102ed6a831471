-- `unpack` meets its contract, row by row: the rows before i show what the words hold. Equal words have equal rows, so one may be copied.
use Prim.Native.Nat.{◌<◌}
use native.Mathlib.Omega.{arith}
use Rattle.clustering.proofs.Packing.{shown_end, row_unpacked, row_copied}
use Rattle.clustering.proofs.unpack.Goals as goal
use Rattle.clustering.proofs.unpack.Goals.{then-first-i+then-rows-first, else-first-i}

pub loop-i-preserved : goal.loop-i-preserved
loop-i-preserved c =
    let l = c.loop-i in
    let hi = c.loop-i-test.true in
    λ f g h s.
    elim c.if-first-i.branch [
      | then-first-i+then-rows-first w ↦
          let earlier : c.first_of-first.result < l.i = omega arith in
          rw w.m-is (row_copied _ f g _ h l.i _ hi earlier w.if-rows-first.true (l.invariant f g h s))
      | else-first-i w ↦ rw w.m-is (row_unpacked _ f g _ h l.i hi (w.unpack_row.ensures _ _ c.requires (l.invariant f g h s)))
    ]

pub returns : goal.returns
returns c = λ f g h s. shown_end _ f g _ c.loop-i-test.false (c.loop-i.invariant f g h s)
