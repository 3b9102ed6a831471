-- Document 01, "Which duds come nearest?": those that a clause of demand 3 stops, and three that hang otherwise than document 02, 7/14, says. Each on a sample that
-- is accepted.
use Rattle.std.specs.Prelude.{ℕ, ◌-◌, ◌^◌, ◌≡◌, List, [], ◌∷◌, map, replicate, Float}
use Rattle.std.specs.Float.Ieee.{neg}
use Rattle.shapes.specs.declared.circle.Circle.{Circle}
use Rattle.shapes.specs.Records.{circle_of}
use Rattle.scope.specs.Numbers.{nought, one, two, whole, golden}
use Rattle.scope.specs.Limits.{circle_cap}
use Rattle.scope.specs.Refusals.{layout_refusal}
use Rattle.scope.specs.Links.{regions}
use Rattle.scope.specs.Layout.{Result, layout}
use Rattle.scope.specs.Promises.{Promises}
use Rattle.scope.specs.Samples.{whole_circle}
use Rattle.promises.specs.Demand3.{bound}

-- an area of 1 for each region
abbrev pub areas_of : List ℕ → List Float
areas_of masks = map (λ _. one) masks

-- Of circles handed in with factor 0, at 1.618, in regions of area 1: the call is accepted, and this record and these circles break a promise.
pub record BrokenOf (masks : List ℕ) (handed : List Circle) (result : Result) (returned : List Circle) : Type 0 where
  pub accepted : layout_refusal handed nought masks (areas_of masks) golden ≡ 0
  pub broken : ¬ Promises bound handed (regions masks (areas_of masks)) result returned

-- with no region, so that each circle is a cluster
abbrev pub Broken : List Circle → Result → List Circle → Type 0
Broken = BrokenOf []

-- what the layout itself answers then
abbrev pub answered : List Circle → Result
answered handed = (layout handed nought [] [] golden).result

-- and of two circles in one region, which are one cluster
abbrev pub answered_together : List Circle → Result
answered_together handed = (layout handed nought (3 ∷ []) (areas_of (3 ∷ [])) golden).result

-- two circles that overlap
abbrev pub pair : List Circle
pair = whole_circle 0 0 1 1 ∷ whole_circle 1 0 1 2 ∷ []

pub record Duds : Type 0 where
  -- "Handing the circles back untouched": the gap clause
  pub untouched : Broken pair (answered pair) pair
  -- "All circles in a single cluster", whatever circles come back: the chain clause
  pub one_cluster : (returned : List Circle)
      → Broken pair (record { refusal = 0; count = 1; numbers = replicate circle_cap 0; moved = 0; padding = nought }) returned
  -- "Every circle marked as moved", whatever circles come back: the reach clause, since no circle has a parent
  pub all_moved : (returned : List Circle)
      → Broken pair (record { refusal = 0; count = 2; numbers = (answered pair).numbers; moved = 2 ^ 64 - 1; padding = nought }) returned
  -- "packing only the first cluster", wherever that one is put: the gap clause
  pub first-packed : (first : Circle) → Broken (whole_circle 9 0 1 3 ∷ pair) (answered (whole_circle 9 0 1 3 ∷ pair)) (first ∷ pair)
  -- no centring, wherever else the circles stand as they should: one circle is handed back where it was
  pub not_centred : Broken (whole_circle 5 0 1 1 ∷ []) (answered (whole_circle 5 0 1 1 ∷ [])) (whole_circle 5 0 1 1 ∷ [])
  -- mirrored to the other side: (0,0,1) and (4,0,1) in one cluster come back at 2 and -2, the first on the right
  pub other_side : (y z : Float)
      → BrokenOf (3 ∷ []) (whole_circle 0 0 1 1 ∷ whole_circle 4 0 1 2 ∷ []) (answered_together (whole_circle 0 0 1 1 ∷ whole_circle 4 0 1 2 ∷ []))
      (circle_of two y one 1 ∷ circle_of (neg two) z one 2 ∷ [])
  -- turned by the second circle's angle, and not back by it: (15,20) from the first it would come to (-7,24), so of (0,0,1) and (15,20,1) in one cluster the
  -- second comes back 24 above the first, wherever they stand across
  pub turned_on : (x z : Float)
      → BrokenOf (3 ∷ []) (whole_circle 0 0 1 1 ∷ whole_circle 15 20 1 2 ∷ []) (answered_together (whole_circle 0 0 1 1 ∷ whole_circle 15 20 1 2 ∷ []))
      (circle_of x (neg (whole 12)) one 1 ∷ circle_of z (whole 12) one 2 ∷ [])
