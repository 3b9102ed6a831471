-- Document 01, "Records": the ends of the range of radii, 2^-20 and 2^20, which count as inside, and the smallest normal number, 2^-1022.
use Rattle.std.specs.Prelude.{Bool, false, ◌&&◌, pos, negsuc, Float}
use Rattle.std.specs.Float.{fin}
use Rattle.std.specs.Float.Ieee.{le}

unfoldable pub smallest_radius : Float
smallest_radius = fin false 1 (negsuc 19)

unfoldable pub largest_radius : Float
largest_radius = fin false 1 (pos 20)

unfoldable pub smallest_normal : Float
smallest_normal = fin false 1 (negsuc 1021)

abbrev pub radius_in_range : Float → Bool
radius_in_range r = le smallest_radius r && le r largest_radius
