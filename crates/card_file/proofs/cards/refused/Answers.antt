-- `refused` meets its contract.
use mathlib.Core.Path.{refl}
use lib.Ieee.{of_bits}
use Rattle.card_file.proofs.cards.refused.Goals as goal

pub returns-clause-blank : goal.returns-clause-blank
unfolding of_bits
returns-clause-blank c = record {
  factor = refl;
  no_circles = refl;
  circles = rw c.blank.ensures;
  no_regions = refl;
  masks = refl;
  patterns = refl;
  areas = refl;
}
