-- Document 01, "Offset": the tolerance of the offset step and of the layout's clustering, for any list of regions.
use Rattle.std.specs.Prelude.{ℕ, List, get_or, length, Float}
use Rattle.rounding.specs.Extremes.{maximum}
use Rattle.scope.specs.Numbers.{◌*ᶠ◌, nought, one, e_10, abs}
use Rattle.scope.specs.Runs.{gather, always}
use Rattle.scope.specs.Links.{Region}

-- the region at a place of the list; past the end, an empty one
unfoldable pub no_region : Region
no_region = record { mask = 0; area = nought }

abbrev pub region : List Region → ℕ → Region
region rs k = get_or rs k no_region

-- "M is the larger of 1 and the largest |area|, NaN passed over": `maximum` keeps its first operand at a NaN
unfoldable pub largest : List Region → Float
largest rs = maximum (gather maximum nought always (length rs) (λ k. abs (region rs k).area)) one

-- "tolerance is 1e-10*M"
unfoldable pub tolerance : List Region → Float
tolerance rs = e_10 *ᶠ largest rs
