-- `put_factor` meets its contract.
use native.Mathlib.Omega.{arith}
use mathlib.Core.Path.{ap}
use Rattle.scope.specs.CardFile.{length_of_body}
use Rattle.scope.specs.Saving.{low_bytes, factor_body}
use Rattle.laws.proofs.Saving.{factor_body-length}
use Rattle.card_output.proofs.Putting.{put_equal}
use Rattle.card_output.proofs.PutFields.{put_field}
use Rattle.card_output.proofs.writing.put_factor.Goals as goal

pub put_word-requires : goal.put_word-requires
unfolding low_bytes
put_word-requires c = omega arith

pub returns : goal.returns
unfolding length_of_body factor_body
returns c =
    let body = put_equal (ap (low_bytes 8) c.pattern_of.ensures) c.put_word.ensures in
    put_field 1 (factor_body-length c.args.factor) c.put_head-body.ensures body
