-- `first_of` meets its contract.
use native.Mathlib.Decide.{ℕ_discrete}
use lib.Count.{trailing_of_zero}
use Rattle.clustering.proofs.Places.{first_found, first-inside, first-none}
use Rattle.clustering.proofs.first_of.Goals as goal

pub returns : goal.returns
returns c = elim (ℕ_discrete c.args.row 0) [
  | yes z ↦ (rw (z, trailing_of_zero) first-none, λ h. absurd (h z))
  | no h ↦ (first_found _ c.ranges.row.fits h, λ g. first-inside _ c.ranges.row.fits h)
]
