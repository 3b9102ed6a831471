-- `put_word` meets its contract: four times two bytes.
use native.Mathlib.Omega.{arith}
use Rattle.scope.specs.Saving.{low_bytes}
use Rattle.card_output.proofs.Putting.{put_both, put_equal}
use Rattle.card_output.proofs.ToBytes.{eight-bytes}
use Rattle.card_output.proofs.puts.put_word.Goals as goal

pub put_short-third-requires : goal.put_short-third-requires
unfolding low_bytes
put_short-third-requires c = omega arith

pub put_short-fourth-requires : goal.put_short-fourth-requires
unfolding low_bytes
put_short-fourth-requires c = omega arith

pub put_short-requires : goal.put_short-requires
unfolding low_bytes
put_short-requires c = omega arith

pub returns : goal.returns
returns c =
    put_equal (eight-bytes c.args.n)
    (put_both c.put_short-second.ensures
    (put_both c.put_short-third.ensures (put_both c.put_short-fourth.ensures c.put_short.ensures)))
