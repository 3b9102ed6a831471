-- `skyline_pack` meets its contract: the refusal, or the boxes with their new centres.
use Rattle.std.proofs.Common.{sym, ◌∙◌}
use Rattle.std.proofs.lemmas.Result.{err_from_is_err_and}
use Rattle.refusals.proofs.Exits.{stopped}
use Rattle.packing.proofs.PackedBoxes.{sided-answers, accepted_few, put_together, by_columns}
use Rattle.packing.proofs.skyline_pack.Goals as goal

pub returns-in_err-pack_sides : goal.returns-in_err-pack_sides
returns-in_err-pack_sides c =
    let p = err_from_is_err_and c.from_residual.result c.from_residual.ensures.1 in
    let e = stopped c.pack_sides.result _ c.pack_sides.ensures.number _ c.in_err-pack_sides.was in
    let s = c.of-sides.ensures in
    rw (p.1, p.2, e.0) (sym ((sided-answers _ _ _ _ _).at_refusal e.1)) ∙ by_columns c.args.rectangles.now _ _ _ _ _ s.n s.width s.height

pub boxes_at-requires : goal.boxes_at-requires
boxes_at-requires c = accepted_few _ _ _ _ _ (sym c.in_ok-pack_sides.ensures.number)

pub returns : goal.returns
returns c =
    let e = c.in_ok-pack_sides.ensures in
    let s = c.of-sides.ensures in
    put_together _ _ _ _ _ _ _ _ _ _ (sym e.number) e.x e.y c.boxes_at.ensures ∙ by_columns c.args.rectangles.now _ _ _ _ _ s.n s.width s.height
