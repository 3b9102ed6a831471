-- `in_grid` meets its contract: room to work in, all of one length.
use Rattle.std.proofs.Common.{rules}
use Rattle.packing.proofs.in_grid.Goals as goal

pub on_axes-requires : goal.on_axes-requires
on_axes-requires c =
    (search rules, search rules, search rules, search rules, (search rules, search rules, search rules, search rules, search rules), c.requires.4)
