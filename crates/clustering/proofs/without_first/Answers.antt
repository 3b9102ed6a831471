-- `without_first` meets its contract.
use Rattle.clustering.proofs.Places.{without_first, smaller_without}
use Rattle.clustering.proofs.without_first.Goals as goal

pub returns : goal.returns
returns c = (smaller_without _ c.requires, λ i s j. without_first _ i j c.ranges.row.fits c.requires s)
