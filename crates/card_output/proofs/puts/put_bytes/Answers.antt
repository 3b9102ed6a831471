-- `put_bytes` meets its contract: after i turns the first i bytes are put.
use native.Mathlib.Omega.{arith}
use Rattle.card_output.proofs.Putting.{put_none, put_next, put_all, place_of}
use Rattle.card_output.proofs.puts.put_bytes.Goals as goal

pub loop-byte-init : goal.loop-byte-init
loop-byte-init c = put_none _ _

pub put_byte-next-requires : goal.put_byte-next-requires
put_byte-next-requires c =
    let l = c.loop-byte in
    omega (arith, place_of _ l.byte-index (omega arith) l.invariant)

pub loop-byte-preserved : goal.loop-byte-preserved
loop-byte-preserved c =
    let l = c.loop-byte in
    put_next _ l.byte-index (omega arith) l.invariant c.put_byte-next.ensures

pub returns : goal.returns
returns c =
    let l = c.loop-byte in
    put_all _ l.byte-index (omega arith) l.invariant
