-- `only` meets its contract: a power of two below 2^64 is not cut.
use Rattle.laws.proofs.PackedRows.{single_shifted}
use Rattle.layout.proofs.regions.only.Goals as goal

pub returns : goal.returns
returns c = single_shifted 64 _ c.requires
