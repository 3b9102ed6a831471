-- `axis` meets its contract: the breadths, where the lines start, and the middle of each cell.
use Rattle.std.proofs.Common.{◌∙◌, rules}
use Rattle.packing.proofs.Grid.{placed_at}
use Rattle.packing.proofs.axis.Goals as goal

pub centres_of-requires : goal.centres_of-requires
centres_of-requires c = (search rules, search rules, search rules, search rules, c.requires.4)

pub returns : goal.returns
returns c =
    let m = c.centres_of.ensures in
    record { fits = m.fits; is = λ i h. m.is i h ∙ placed_at _ _ _ _ _ i _ _ (c.requires.4 i h) c.breadths_of.ensures (rw c.requires.3 at c.starts_of.ensures) }
