-- `put_byte` meets its contract.
use Rattle.card_output.proofs.Putting.{put_one}
use Rattle.card_output.proofs.puts.put_byte.Goals as goal

pub returns : goal.returns
returns c = put_one _ _ _ c.requires
