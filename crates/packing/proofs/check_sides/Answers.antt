-- `check_sides` meets its contract: document 01's checks of boxes, in their order.
use Rattle.std.proofs.Common.{◌∙◌, rules}
use Rattle.packing.proofs.Packings.{sides_number_lem}
use Rattle.packing.proofs.check_sides.Goals as goal

pub returns : goal.returns
returns c =
    let a = c.args in
    c.refuse_first.ensures
    ∙ rw (c.too_many.ensures, c.any_bad_side.ensures, c.any_bad_side-2.ensures, c.bad_padding.ensures, c.bad_proportion.ensures, c.looked_at-m.ensures.all)
    (sides_number_lem a.n a.widths.now a.heights.now a.padding a.proportion (search rules) (search rules))
