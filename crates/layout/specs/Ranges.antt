-- Ranges on one axis: of circles, of centres, and a layout centred by them.
use Rattle.std.specs.Prelude.{ℕ, Bool, true, false, List, length, Float}
use Rattle.std.specs.Float.{inf}
use Rattle.std.specs.Float.Ieee.{neg}
use Rattle.rounding.specs.Extremes.{minimum, maximum}
use Rattle.scope.specs.Numbers.{◌+ᶠ◌, ◌-ᶠ◌}
use Rattle.scope.specs.Runs.{gather, always}
use Rattle.scope.specs.Gauge.{middle}
use Rattle.intake.specs.Columns.{at, each}
use Rattle.layout.specs.declared.axis.Range.{Range}

-- a range that holds nothing, to start from
abbrev pub no_range : Range
no_range = record { low = inf false; high = inf true }

abbrev pub widened : Range → Float → Float → Range
widened r low high = record { low = minimum r.low low; high = maximum r.high high }

-- the lowest and the highest end of those of n things that `member` takes
abbrev pub range_over : (ℕ → Bool) → ℕ → (ℕ → Float) → (ℕ → Float) → Range
range_over member n low high = record { low = gather minimum (inf false) member n low; high = gather maximum (inf true) member n high }

-- the ends of circle i
abbrev pub low_end : List Float → List Float → ℕ → Float
low_end coords radii i = at coords i -ᶠ at radii i

abbrev pub high_end : List Float → List Float → ℕ → Float
high_end coords radii i = at coords i +ᶠ at radii i

-- the range of the circles that `member` takes
abbrev pub range_of : (ℕ → Bool) → List Float → List Float → Range
range_of member coords radii = range_over member (length coords) (low_end coords radii) (high_end coords radii)

abbrev pub range_of_all : List Float → List Float → Range
range_of_all coords radii = range_of always coords radii

abbrev pub middle_of : Range → Float
middle_of r = middle r.low r.high

-- numbers moved by -d
abbrev pub moved_back : Float → List Float → List Float
moved_back d coords = each (λ _ x. x +ᶠ neg d) coords

-- the middle of the range goes to the origin
abbrev pub centred_on : List Float → List Float → List Float
centred_on coords radii = moved_back (middle_of (range_of_all coords radii)) coords
