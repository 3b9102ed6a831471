-- The bound for level centres can't be halved: a card of three circles that is accepted, and whose second centre comes back 17/65,536 mm above the first.
-- 1/4,096 is 16 of these. The second circle is a child of radius 2^-20 that is moved outward in its parent of radius 2^20, until it stands almost 5 * 2^19 mm from
-- the first, and document 01 makes no turn where dy is at most 1e-10 of dx.
use Rattle.std.specs.Prelude.{ℕ, ◌*◌, ◌^◌, ◌≡◌, refl, false, List, [], ◌∷◌, negsuc, Float}
use Rattle.std.specs.Float.{fin}
use Rattle.std.specs.Float.Ieee.{neg}
use Rattle.rounding.specs.Scale.{pow2}
use Rattle.shapes.specs.Limits.{smallest_radius, largest_radius}
use Rattle.shapes.specs.declared.circle.Circle.{Circle}
use Rattle.shapes.specs.Records.{circle_of}
use Rattle.scope.specs.Numbers.{nought, one, whole, golden}
use Rattle.scope.specs.Refusals.{layout_refusal}
use Rattle.scope.specs.Links.{circle}
use Rattle.scope.specs.Layout.{Layout, layout}
use Rattle.scope.specs.Promises.{FirstTwo, Level}

-- 17 / 2^16
abbrev pub height : Float
height = fin false 17 (negsuc 15)

abbrev pub farthest : Float
farthest = whole (2 ^ 20)

unfoldable pub child_second : List Circle
child_second = circle_of (neg farthest) nought one 1 ∷ circle_of farthest height smallest_radius 2 ∷ circle_of farthest height largest_radius 3 ∷ []

-- the first circle and the parent by themselves and together, the child with its parent
abbrev pub their_masks : List ℕ
their_masks = 1 ∷ 4 ∷ 5 ∷ 6 ∷ []

abbrev pub their_areas : List Float
their_areas = whole 5 ∷ whole 10 ∷ one ∷ whole 3 ∷ []

unfoldable pub their_layout : Layout
their_layout = layout child_second nought their_masks their_areas golden

pub half_is_one_4096th : 4096 * pow2 48 ≡ 2 ^ 1074
unfolding pow2
half_is_one_4096th = refl

pub record LevelTight : Type 0 where
  pub accepted : layout_refusal child_second nought their_masks their_areas golden ≡ 0
  pub first_two : FirstTwo 3 their_layout.result 0 1
  pub not_level : ¬ Level (pow2 48) (circle their_layout.circles 0) (circle their_layout.circles 1)
