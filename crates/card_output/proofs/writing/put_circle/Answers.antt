-- `put_circle` meets its contract.
use native.Mathlib.Omega.{arith}
use mathlib.Core.Path.{sym, ap, subst}
use lib.Dec.{T}
use Rattle.scope.specs.CardFile.{length_of_body}
use Rattle.scope.specs.Saving.{low_bytes, circle_body}
use Rattle.laws.proofs.Saving.{circle_body-length}
use Rattle.card_output.proofs.Putting.{put_both, put_equal}
use Rattle.card_output.proofs.PutFields.{put_field}
use Rattle.card_output.proofs.writing.put_circle.Goals as goal

pub put_word-y_at-requires : goal.put_word-y_at-requires
unfolding low_bytes
put_word-y_at-requires c = omega arith

pub put_word-radius_at-requires : goal.put_word-radius_at-requires
unfolding low_bytes
put_word-radius_at-requires c = omega arith

pub put_word-ink_at-requires : goal.put_word-ink_at-requires
unfolding low_bytes
put_word-ink_at-requires c = omega arith

pub put_short-requires : goal.put_short-requires
unfolding low_bytes
put_short-requires c = omega arith

pub returns-clause-put : goal.returns-clause-put
unfolding length_of_body circle_body
returns-clause-put c =
    let x = put_equal (ap (low_bytes 8) c.pattern_of.ensures) c.put_word-y_at.ensures in
    let y = put_equal (ap (low_bytes 8) c.pattern_of-2.ensures) c.put_word-radius_at.ensures in
    let radius = put_equal (ap (low_bytes 8) c.pattern_of-3.ensures) c.put_word-ink_at.ensures in
    let body = put_both (put_both (put_both x y) radius) c.put_short.ensures in
    put_field 2 (circle_body-length c.args.c) c.put_head-body.ensures body

pub returns-clause-typed : goal.returns-clause-typed
returns-clause-typed c =
    let fields = c.well_formed.1.1.0.1.1 in
    let center = fields.0.1.1 in
    record {
      x = subst T (sym center.0.1) tt;
      y = subst T (sym center.1.0.1) tt;
      radius = subst T (sym fields.1.0.1) tt;
      ink = fields.1.1.0.1;
    }
