-- `covers` meets its contract: where the squares are far enough apart they say how the distance lies to the radius, and elsewhere it is compared.
use mathlib.Core.Path.{refl, sym, ◌∙◌}
use lib.Dec.{lit≤}
use lib.Ieee.{of_bits, fits}
use Rattle.rounding.specs.Value.{mag, negative, Fin}
use Rattle.scope.specs.Distance.{contains_point}
use Rattle.geometry.proofs.Covering.{squares-above, squares-below}
use Rattle.geometry.proofs.Meeting.{holds_by}
use Rattle.geometry.proofs.lengths.covers.Goals as goal

pub returns-then-square-sum : goal.returns-then-square-sum
unfolding of_bits Fin fits mag negative
returns-then-square-sum c =
    holds_by _ _ _ _
    (squares-above _ _ _ _ c.well_formed.0.1 c.well_formed.1.0.1 c.well_formed.1.1.0.1 (sym c.radius_in_range.ensures ∙ c.if-radius_in_range.true) c.if-square-sum.true
    (record { fin = tt; sign = refl; small = lit≤ tt })
    (lit≤ tt))

pub returns-then-sum-square : goal.returns-then-sum-square
unfolding of_bits Fin fits mag negative
returns-then-sum-square c =
    holds_by _ _ _ _
    (squares-below _ _ _ _ c.well_formed.0.1 c.well_formed.1.0.1 c.well_formed.1.1.0.1 (sym c.radius_in_range.ensures ∙ c.if-radius_in_range.true) c.if-sum-square.true
    (record { fin = tt; sign = refl; small = lit≤ tt })
    (lit≤ tt))

pub returns : goal.returns
unfolding contains_point
returns c = λ d p ex ey er. rw (c.apart.ensures d.center p ex ey, er)
