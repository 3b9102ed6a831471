-- Checks one after the other are document 01's refusal: the first cause that holds gives its number.
use Prim.Native.Nat.{ℕ}
use mathlib.Core.Path.{◌≡◌, refl}
use mathlib.Core.Bool.{Bool, true, false, not, cond, ◌||◌}
use mathlib.Core.List.{List, [], ◌∷◌}
use lib.Dec.{eqb, ltb}
use lib.Ieee.{Float}
use lib.ListN.{length}
use Rattle.shapes.specs.declared.point.Point.{Point}
use Rattle.shapes.specs.declared.circle.Circle.{Circle}
use Rattle.shapes.specs.declared.rectangle.Rectangle.{Rectangle}
use Rattle.scope.specs.Runs.{any}
use Rattle.scope.specs.Refusals.{causes, cause_holds, first, refusal, front_to_back, too_many, unequal, too_many_regions, bad_point, bad_centre, bad_radius, rising, bad_factor, bad_side, same_ink, too_many_points, too_few_answers, circles_refusal, container_refusal, card_refusal, touch_refusal}

-- of two points
pub points_in_order : (a b : Bool)
    → refusal ((3, a || b) ∷ [])
    ≡ front_to_back ((3, a) ∷ (3, b) ∷ [])
unfolding refusal first cause_holds causes front_to_back
points_in_order true b = refl
points_in_order false true = refl
points_in_order false false = refl

-- of two circles
pub pair_in_order : (a b c d : Bool)
    → refusal ((3, a || b) ∷ (4, c || d) ∷ [])
    ≡ front_to_back ((3, a) ∷ (3, b) ∷ (4, c) ∷ (4, d) ∷ [])
unfolding refusal first cause_holds causes front_to_back
pair_in_order true b c d = refl
pair_in_order false true c d = refl
pair_in_order false false true d = refl
pair_in_order false false false true = refl
pair_in_order false false false false = refl

-- of a circle and a point
pub circle_point_in_order : (a b c : Bool)
    → refusal ((3, a || b) ∷ (4, c) ∷ [])
    ≡ front_to_back ((3, a) ∷ (3, b) ∷ (4, c) ∷ [])
unfolding refusal first cause_holds causes front_to_back
circle_point_in_order true b c = refl
circle_point_in_order false true c = refl
circle_point_in_order false false true = refl
circle_point_in_order false false false = refl

-- of the column answer
pub columns_in_order : (a b : Bool)
    → refusal ((1, a) ∷ (16, b) ∷ [])
    ≡ front_to_back ((1, a) ∷ (16, b) ∷ [])
unfolding refusal first cause_holds causes front_to_back
columns_in_order true b = refl
columns_in_order false true = refl
columns_in_order false false = refl

-- of the lists of regions
pub regions_in_order : (a b c d : Bool)
    → refusal ((1, a) ∷ (13, b) ∷ (2, c) ∷ (5, d) ∷ [])
    ≡ front_to_back ((1, a) ∷ (13, b) ∷ (2, c) ∷ (5, d) ∷ [])
unfolding refusal first cause_holds causes front_to_back
regions_in_order true b c d = refl
regions_in_order false true c d = refl
regions_in_order false false true d = refl
regions_in_order false false false true = refl
regions_in_order false false false false = refl

-- of a run of circles
pub circles_in_order : (a b c d : Bool)
    → refusal ((1, a) ∷ (3, b) ∷ (4, c) ∷ (14, d) ∷ [])
    ≡ front_to_back ((1, a) ∷ (3, b) ∷ (4, c) ∷ (14, d) ∷ [])
unfolding refusal first cause_holds causes front_to_back
circles_in_order true b c d = refl
circles_in_order false true c d = refl
circles_in_order false false true d = refl
circles_in_order false false false true = refl
circles_in_order false false false false = refl

-- of boxes
pub boxes_in_order : (a b c d e : Bool)
    → refusal ((1, a) ∷ (7, b || c) ∷ (8, d) ∷ (16, e) ∷ [])
    ≡ front_to_back ((1, a) ∷ (7, b) ∷ (7, c) ∷ (8, d) ∷ (16, e) ∷ [])
unfolding refusal first cause_holds causes front_to_back
boxes_in_order true b c d e = refl
boxes_in_order false true c d e = refl
boxes_in_order false false true d e = refl
boxes_in_order false false false true e = refl
boxes_in_order false false false false true = refl
boxes_in_order false false false false false = refl

-- of circles in a container
pub container_in_order : (a b c d e f : Bool)
    → refusal ((1, a) ∷ (3, b || c) ∷ (4, d) ∷ (7, e) ∷ (14, f) ∷ [])
    ≡ front_to_back ((1, a) ∷ (3, b) ∷ (3, c) ∷ (4, d) ∷ (7, e) ∷ (14, f) ∷ [])
unfolding refusal first cause_holds causes front_to_back
container_in_order true b c d e f = refl
container_in_order false true c d e f = refl
container_in_order false false true d e f = refl
container_in_order false false false true e f = refl
container_in_order false false false false true f = refl
container_in_order false false false false false true = refl
container_in_order false false false false false false = refl

-- of a batch of points
pub touch_in_order : (a b c d e f g : Bool)
    → refusal ((1, a) ∷ (3, b || c) ∷ (4, d) ∷ (14, e) ∷ (18, f) ∷ (19, g) ∷ [])
    ≡ front_to_back ((1, a) ∷ (3, b) ∷ (3, c) ∷ (4, d) ∷ (14, e) ∷ (18, f) ∷ (19, g) ∷ [])
unfolding refusal first cause_holds causes front_to_back
touch_in_order true b c d e f g = refl
touch_in_order false true c d e f g = refl
touch_in_order false false true d e f g = refl
touch_in_order false false false true e f g = refl
touch_in_order false false false false true f g = refl
touch_in_order false false false false false true g = refl
touch_in_order false false false false false false true = refl
touch_in_order false false false false false false false = refl

-- of a card
pub card_in_order : (a b c d e f g h : Bool)
    → refusal ((1, a) ∷ (13, b) ∷ (2, c) ∷ (3, d) ∷ (4, e) ∷ (5, f) ∷ (6, g) ∷ (14, h) ∷ [])
    ≡ front_to_back ((1, a) ∷ (13, b) ∷ (2, c) ∷ (3, d) ∷ (4, e) ∷ (5, f) ∷ (6, g) ∷ (14, h) ∷ [])
unfolding refusal first cause_holds causes front_to_back
card_in_order true b c d e f g h = refl
card_in_order false true c d e f g h = refl
card_in_order false false true d e f g h = refl
card_in_order false false false true e f g h = refl
card_in_order false false false false true f g h = refl
card_in_order false false false false false true g h = refl
card_in_order false false false false false false true h = refl
card_in_order false false false false false false false true = refl
card_in_order false false false false false false false false = refl

-- the proportion after a card
pub proportion_after_card : (a b c d e f g h z : Bool)
    → refusal ((1, a) ∷ (13, b) ∷ (2, c) ∷ (3, d) ∷ (4, e) ∷ (5, f) ∷ (6, g) ∷ (14, h) ∷ (16, z) ∷ [])
    ≡ cond (eqb (refusal ((1, a) ∷ (13, b) ∷ (2, c) ∷ (3, d) ∷ (4, e) ∷ (5, f) ∷ (6, g) ∷ (14, h) ∷ [])) 0) (cond z 16 0)
    (refusal ((1, a) ∷ (13, b) ∷ (2, c) ∷ (3, d) ∷ (4, e) ∷ (5, f) ∷ (6, g) ∷ (14, h) ∷ []))
unfolding refusal first cause_holds causes
proportion_after_card true b c d e f g h z = refl
proportion_after_card false true c d e f g h z = refl
proportion_after_card false false true d e f g h z = refl
proportion_after_card false false false true e f g h z = refl
proportion_after_card false false false false true f g h z = refl
proportion_after_card false false false false false true g h z = refl
proportion_after_card false false false false false false true h z = refl
proportion_after_card false false false false false false false true z = refl
proportion_after_card false false false false false false false false true = refl
proportion_after_card false false false false false false false false false = refl

-- the price after a layout
pub price_after_layout : (a b c d e f g h i z : Bool)
    → refusal ((1, a) ∷ (13, b) ∷ (2, c) ∷ (3, d) ∷ (4, e) ∷ (5, f) ∷ (6, g) ∷ (14, h) ∷ (16, i) ∷ (17, z) ∷ [])
    ≡ cond (eqb (refusal ((1, a) ∷ (13, b) ∷ (2, c) ∷ (3, d) ∷ (4, e) ∷ (5, f) ∷ (6, g) ∷ (14, h) ∷ (16, i) ∷ [])) 0) (cond z 17 0)
    (refusal ((1, a) ∷ (13, b) ∷ (2, c) ∷ (3, d) ∷ (4, e) ∷ (5, f) ∷ (6, g) ∷ (14, h) ∷ (16, i) ∷ []))
unfolding refusal first cause_holds causes
price_after_layout true b c d e f g h i z = refl
price_after_layout false true c d e f g h i z = refl
price_after_layout false false true d e f g h i z = refl
price_after_layout false false false true e f g h i z = refl
price_after_layout false false false false true f g h i z = refl
price_after_layout false false false false false true g h i z = refl
price_after_layout false false false false false false true h i z = refl
price_after_layout false false false false false false false true i z = refl
price_after_layout false false false false false false false false true z = refl
price_after_layout false false false false false false false false false true = refl
price_after_layout false false false false false false false false false false = refl

-- the output after a card
pub output_after_card : (a b c d e f g h z : Bool)
    → refusal ((1, a) ∷ (13, b) ∷ (2, c) ∷ (3, d) ∷ (4, e) ∷ (5, f) ∷ (6, g) ∷ (14, h) ∷ (15, z) ∷ [])
    ≡ cond (eqb (refusal ((1, a) ∷ (13, b) ∷ (2, c) ∷ (3, d) ∷ (4, e) ∷ (5, f) ∷ (6, g) ∷ (14, h) ∷ [])) 0) (cond z 15 0)
    (refusal ((1, a) ∷ (13, b) ∷ (2, c) ∷ (3, d) ∷ (4, e) ∷ (5, f) ∷ (6, g) ∷ (14, h) ∷ []))
unfolding refusal first cause_holds causes
output_after_card true b c d e f g h z = refl
output_after_card false true c d e f g h z = refl
output_after_card false false true d e f g h z = refl
output_after_card false false false true e f g h z = refl
output_after_card false false false false true f g h z = refl
output_after_card false false false false false true g h z = refl
output_after_card false false false false false false true h z = refl
output_after_card false false false false false false false true z = refl
output_after_card false false false false false false false false true = refl
output_after_card false false false false false false false false false = refl

-- ---- of more circles than there may be, none is looked at: the count decides

-- those that are looked at
abbrev pub seen : List Circle → List Circle
seen cs = cond (too_many (length cs)) [] cs

pub seen_all : (cs : List Circle) → too_many (length cs) ≡ false → seen cs ≡ cs
seen_all cs few = rw few refl

pub circles_seen : (cs : List Circle) → front_to_back ((1, too_many (length cs)) ∷ (3, any bad_centre (seen cs)) ∷ (4, any bad_radius (seen cs)) ∷ (14, same_ink (seen cs)) ∷ []) ≡ circles_refusal cs
unfolding circles_refusal front_to_back
circles_seen cs = by_count (too_many (length cs)) refl
  where
    by_count : (many : Bool) → too_many (length cs) ≡ many → front_to_back ((1, too_many (length cs)) ∷ (3, any bad_centre (seen cs)) ∷ (4, any bad_radius (seen cs)) ∷ (14, same_ink (seen cs)) ∷ []) ≡ circles_refusal cs
    by_count true e = rw (e, circles_in_order)
    by_count false e = rw (seen_all cs e, circles_in_order)

pub container_seen : (cs : List Circle) (r : Rectangle) → front_to_back ((1, too_many (length cs)) ∷ (3, any bad_centre (seen cs)) ∷ (3, bad_point r.center) ∷ (4, any bad_radius (seen cs)) ∷ (7, bad_side r) ∷ (14, same_ink (seen cs)) ∷ []) ≡ container_refusal cs r
unfolding container_refusal front_to_back
container_seen cs r = by_count (too_many (length cs)) refl
  where
    by_count : (many : Bool) → too_many (length cs) ≡ many → front_to_back ((1, too_many (length cs)) ∷ (3, any bad_centre (seen cs)) ∷ (3, bad_point r.center) ∷ (4, any bad_radius (seen cs)) ∷ (7, bad_side r) ∷ (14, same_ink (seen cs)) ∷ []) ≡ container_refusal cs r
    by_count true e = rw (e, container_in_order)
    by_count false e = rw (seen_all cs e, container_in_order)

pub touch_seen : (cs : List Circle) (ps : List Point) (room : ℕ) → front_to_back ((1, too_many (length cs)) ∷ (3, any bad_centre (seen cs)) ∷ (3, any bad_point ps) ∷ (4, any bad_radius (seen cs)) ∷ (14, same_ink (seen cs)) ∷ (18, too_many_points (length ps)) ∷ (19, ltb room (length ps)) ∷ []) ≡ touch_refusal cs ps (length ps) room
unfolding touch_refusal too_few_answers front_to_back
touch_seen cs ps room = by_count (too_many (length cs)) refl
  where
    by_count : (many : Bool) → too_many (length cs) ≡ many → front_to_back ((1, too_many (length cs)) ∷ (3, any bad_centre (seen cs)) ∷ (3, any bad_point ps) ∷ (4, any bad_radius (seen cs)) ∷ (14, same_ink (seen cs)) ∷ (18, too_many_points (length ps)) ∷ (19, ltb room (length ps)) ∷ []) ≡ touch_refusal cs ps (length ps) room
    by_count true e = rw (e, touch_in_order)
    by_count false e = rw (seen_all cs e, touch_in_order)

pub card_seen : (cs : List Circle) (factor : Float) (masks : List ℕ) (areas : List Float) → front_to_back ((1, too_many (length cs)) ∷ (13, not (eqb (length masks) (length areas))) ∷ (2, too_many_regions (length masks)) ∷ (3, any bad_centre (seen cs)) ∷ (4, any bad_radius (seen cs)) ∷ (5, not (rising masks)) ∷ (6, bad_factor factor) ∷ (14, same_ink (seen cs)) ∷ []) ≡ card_refusal cs factor masks areas
unfolding card_refusal unequal front_to_back
card_seen cs factor masks areas = by_count (too_many (length cs)) refl
  where
    by_count : (many : Bool) → too_many (length cs) ≡ many → front_to_back ((1, too_many (length cs)) ∷ (13, not (eqb (length masks) (length areas))) ∷ (2, too_many_regions (length masks)) ∷ (3, any bad_centre (seen cs)) ∷ (4, any bad_radius (seen cs)) ∷ (5, not (rising masks)) ∷ (6, bad_factor factor) ∷ (14, same_ink (seen cs)) ∷ []) ≡ card_refusal cs factor masks areas
    by_count true e = rw (e, card_in_order)
    by_count false e = rw (seen_all cs e, card_in_order)
