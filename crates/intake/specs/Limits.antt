-- The code's own limits, in the open, so that the arithmetic prover sees them. Where the code checks a count, it is proved equal to document 01's limit.
use Rattle.std.specs.Prelude.{ℕ}

-- `MAX_CIRCLES`
abbrev pub max_circles : ℕ
max_circles = 64

-- `MAX_REGIONS`
abbrev pub max_regions : ℕ
max_regions = 2048

-- `MAX_POINTS`
abbrev pub max_points : ℕ
max_points = 1024
