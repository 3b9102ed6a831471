-- `put_region` meets its contract.
use native.Mathlib.Omega.{arith}
use Rattle.scope.specs.CardFile.{length_of_body}
use Rattle.scope.specs.Saving.{low_bytes, region_body}
use Rattle.laws.proofs.Saving.{region_body-length}
use Rattle.card_output.proofs.Putting.{put_both}
use Rattle.card_output.proofs.PutFields.{put_field}
use Rattle.card_output.proofs.writing.put_region.Goals as goal

pub put_word-area_at-requires : goal.put_word-area_at-requires
unfolding low_bytes
put_word-area_at-requires c = omega arith

pub put_word-requires : goal.put_word-requires
unfolding low_bytes
put_word-requires c = omega arith

pub returns : goal.returns
unfolding length_of_body region_body
returns c =
    let a = c.args in
    put_field 3 (region_body-length a.mask a.pattern) c.put_head-body.ensures (put_both c.put_word-area_at.ensures c.put_word.ensures)
