-- Document 01, "Records", and document 02: how much a call takes, and the ranges of its numbers. Ends count as inside, and -0 counts as 0.
use Rattle.std.specs.Prelude.{ℕ, Bool, false, ◌&&◌, leb, pos, negsuc, Float}
use Rattle.std.specs.Float.{fin}
use Rattle.std.specs.Float.Ieee.{neg}
use Rattle.scope.specs.Numbers.{◌≤ᶠ◌, nought, one}
use Rattle.shapes.specs.Limits.{smallest_radius, largest_radius}

-- "0 to 64 circles"
unfoldable pub circle_cap : ℕ
circle_cap = 64

-- "0 to 2,048 pairs of a 64-bit mask and an area"
unfoldable pub region_cap : ℕ
region_cap = 2048

-- document 02, 8/14: "up to 1,024 points together"
unfoldable pub point_cap : ℕ
point_cap = 1024

-- "a file of at most 65,536 bytes"
unfoldable pub input_cap : ℕ
input_cap = 65536

-- lo <= x <= hi, which no NaN meets; the ends are finite, so no infinity does
unfoldable pub within : Float → Float → Float → Bool
within lo hi x = (lo ≤ᶠ x) && (x ≤ᶠ hi)

-- "coordinates at most 2^20 in size"
unfoldable pub coordinate_ok : Float → Bool
coordinate_ok x = within (neg (fin false 1 (pos 20))) (fin false 1 (pos 20)) x

-- "radii 2^-20 to 2^20"
unfoldable pub radius_ok : Float → Bool
radius_ok r = within smallest_radius largest_radius r

-- "factor 0 to 1"
unfoldable pub factor_ok : Float → Bool
factor_ok x = within nought one x

-- "sides 0 to 2^23"
unfoldable pub side_ok : Float → Bool
side_ok x = within nought (fin false 1 (pos 23)) x

-- "packing padding 0 to 2^26"
unfoldable pub padding_ok : Float → Bool
padding_ok x = within nought (fin false 1 (pos 26)) x

-- document 02, 3/14: "a proportion given with the call, from 1/4 to 4"
unfoldable pub proportion_ok : Float → Bool
proportion_ok x = within (fin false 1 (negsuc 1)) (fin false 1 (pos 2)) x

-- 5/14: "the price in cents, 1 to 100"
unfoldable pub price_ok : ℕ → Bool
price_ok cents = leb 1 cents && leb cents 100
