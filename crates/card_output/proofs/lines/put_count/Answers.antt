-- `put_count` meets its contract.
use native.Mathlib.Omega.{arith}
use Rattle.laws.proofs.Decimal.{decimal-length}
use Rattle.card_output.proofs.Putting.{put_both}
use Rattle.card_output.proofs.lines.put_count.Goals as goal

pub put_decimal-requires : goal.put_decimal-requires
put_decimal-requires c =
    omega (arith, decimal-length 4 c.args.n c.requires.0, c.put_bytes-next.ensures.place)

pub returns : goal.returns
returns c =
    let word = c.put_bytes-next.ensures in
    let number = c.put_decimal.ensures in (
      put_both word number,
      omega (arith, decimal-length 4 c.args.n c.requires.0, word.place, number.place),
    )
