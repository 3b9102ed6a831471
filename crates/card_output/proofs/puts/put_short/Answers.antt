-- `put_short` meets its contract.
use Rattle.card_output.proofs.Putting.{put_both, put_equal}
use Rattle.card_output.proofs.ToBytes.{two_bytes}
use Rattle.card_output.proofs.puts.put_short.Goals as goal

pub returns : goal.returns
returns c =
    put_equal (two_bytes c.args.n c.requires.0) (put_both c.put_byte-next.ensures c.put_byte.ensures)
