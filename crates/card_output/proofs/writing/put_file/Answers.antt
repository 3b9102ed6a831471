-- `put_file` meets its contract: the factor's field, then the circles', then the regions'.
use native.Mathlib.Omega.{arith}
use Rattle.scope.specs.Saving.{file_of, factor_body}
use Rattle.laws.proofs.Saving.{field-length, factor_body-length, circle_fields-length}
use Rattle.card_output.proofs.Putting.{put_both}
use Rattle.card_output.proofs.writing.put_file.Goals as goal

pub put_circles-regions_at-requires : goal.put_circles-regions_at-requires
put_circles-regions_at-requires c =
    let factor = c.args.factor in
    omega (arith, c.requires.1, field-length 1 (factor_body factor), factor_body-length factor)

pub put_regions-requires : goal.put_regions-requires
put_regions-requires c =
    let a = c.args in
    let factor = field-length 1 (factor_body a.factor) in
    (c.requires.0, omega (arith, c.requires.1, factor_body-length a.factor, circle_fields-length a.circles.now))

pub returns-clause-put : goal.returns-clause-put
unfolding file_of
returns-clause-put c =
    put_both (put_both c.put_factor-circles_at.ensures c.put_circles-regions_at.ensures.put) c.put_regions.ensures
