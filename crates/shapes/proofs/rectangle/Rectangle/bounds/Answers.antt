-- `Rectangle::bounds` meets its contract: the pattern of 2.0 is that of two.
use mathlib.Core.Path.{refl}
use lib.Ieee.{of_bits}
use Rattle.shapes.specs.Boxes.{half_of}
use Rattle.shapes.proofs.rectangle.Rectangle.bounds.Goals as goal

pub returns : goal.returns
unfolding half_of of_bits
returns c = refl
