-- Document 01, the table of causes in "Records", and document 02, which appends to it: which number comes back. Each call's checks stand below the causes.
use Rattle.std.specs.Prelude.{ℕ, zero, suc, Bool, true, false, not, ◌&&◌, ◌||◌, cond, List, [], ◌∷◌, ◌++◌, map, eqb, ltb, length, Float}
use Rattle.shapes.specs.declared.point.Point.{Point}
use Rattle.shapes.specs.declared.circle.Circle.{Circle}
use Rattle.shapes.specs.declared.rectangle.Rectangle.{Rectangle}
use Rattle.scope.specs.Runs.{any}
use Rattle.scope.specs.Limits.{circle_cap, region_cap, point_cap, coordinate_ok, radius_ok, factor_ok, side_ok, padding_ok, proportion_ok, price_ok}

-- ---- "The lowest wins, but 13 goes before 2." Document 02, 1/14: 14 is "looked for after every check of document 01"; 2/14: 15 is "after all value checks";
-- 3/14: 16 is "checked after 15"; 5/14: 17 is "after 16"; 8/14: 18 and 19 are "in that order after 17".
unfoldable pub causes : List ℕ
causes = 1 ∷ 13 ∷ 2 ∷ 3 ∷ 4 ∷ 5 ∷ 6 ∷ 7 ∷ 8 ∷ 9 ∷ 10 ∷ 11 ∷ 12 ∷ 14 ∷ 15 ∷ 16 ∷ 17 ∷ 18 ∷ 19 ∷ []

-- What a call checks: numbers, and whether the cause of each holds.
abbrev pub Checks : Type 0
Checks = List (ℕ × Bool)

-- whether a check has the number k and its cause holds
unfoldable pub cause_holds : Checks → ℕ → Bool
cause_holds [] k = false
cause_holds (c ∷ cs) k = (eqb c.0 k && c.1) || cause_holds cs k

-- the first number that passes, and 0 if none does
unfoldable pub first : (ℕ → Bool) → List ℕ → ℕ
first p [] = 0
first p (k ∷ ks) = cond (p k) k (first p ks)

-- "A call checks only what it takes, and a number comes back only for its cause": 0 if it is accepted
unfoldable pub refusal : Checks → ℕ
refusal cs = first (cause_holds cs) causes

-- checks that run front to back: the number of the first whose cause holds
unfoldable pub front_to_back : Checks → ℕ
front_to_back [] = 0
front_to_back (c ∷ cs) = cond c.1 c.0 (front_to_back cs)

-- an answer that is a value or a refusal
pub data Answer (A : Type 0) : Type 0 where
  refused : ℕ → Answer A
  given : A → Answer A

unfoldable pub answer : {A : Type 0} → ℕ → A → Answer A
answer zero a = given a
answer (suc k) a = refused (suc k)

-- ---- the causes

-- 1, "more than 64 circles or rectangles"
unfoldable pub too_many : ℕ → Bool
too_many n = ltb circle_cap n

-- 13, "mask and area lists of unequal length"
unfoldable pub unequal : List ℕ → List Float → Bool
unequal masks areas = not (eqb (length masks) (length areas))

-- 2, "more than 2,048 regions"
unfoldable pub too_many_regions : ℕ → Bool
too_many_regions n = ltb region_cap n

-- 3, "a coordinate or container centre not finite or out of range"
unfoldable pub bad_point : Point → Bool
bad_point p = not (coordinate_ok p.x && coordinate_ok p.y)

unfoldable pub bad_centre : Circle → Bool
bad_centre c = bad_point c.center

-- 4, "radius not finite or out of range"
unfoldable pub bad_radius : Circle → Bool
bad_radius c = not (radius_ok c.radius)

-- 5, "masks not rising strictly"
unfoldable pub rising : List ℕ → Bool
rising [] = true
rising (a ∷ []) = true
rising (a ∷ b ∷ l) = ltb a b && rising (b ∷ l)

-- 6, "factor not finite or out of range"
unfoldable pub bad_factor : Float → Bool
bad_factor x = not (factor_ok x)

-- 7, "a rectangle or container side not finite or out of range"
unfoldable pub bad_side : Rectangle → Bool
bad_side r = not (side_ok r.width && side_ok r.height)

-- 8, "packing padding not finite or out of range"
unfoldable pub bad_padding : Float → Bool
bad_padding x = not (padding_ok x)

-- 14, "Two circles of one layout may not have the same number": the number of one stands again further on
unfoldable pub repeated : List ℕ → Bool
repeated [] = false
repeated (k ∷ ks) = any (eqb k) ks || repeated ks

-- the ink numbers of circles, in their order
unfoldable pub inks : List Circle → List ℕ
inks cs = map (λ c. c.ink) cs

unfoldable pub same_ink : List Circle → Bool
same_ink cs = repeated (inks cs)

-- 15, "A lent output too short": it has room for fewer bytes than are to be written
unfoldable pub too_short : ℕ → ℕ → Bool
too_short room size = ltb room size

-- 16, "A proportion not finite or out of range"
unfoldable pub bad_proportion : Float → Bool
bad_proportion x = not (proportion_ok x)

-- 17, "A price outside its range"
unfoldable pub bad_price : ℕ → Bool
bad_price cents = not (price_ok cents)

-- 18, "More than 1,024 points"
unfoldable pub too_many_points : ℕ → Bool
too_many_points m = ltb point_cap m

-- 19, "an answer list shorter than the point list"
unfoldable pub too_few_answers : ℕ → ℕ → Bool
too_few_answers room m = ltb room m

-- ---- what each call checks; 9, 10 and 11 stand with the card file, 12 with the root. "Duplicate ink numbers give 14 wherever a call takes a list of circles"

-- the distance of two points
unfoldable pub points_refusal : Point → Point → ℕ
points_refusal p q = refusal ((3, bad_point p || bad_point q) ∷ [])

-- distance, contains and intersects of two circles
unfoldable pub pair_refusal : Circle → Circle → ℕ
pair_refusal a b = refusal ((3, bad_centre a || bad_centre b) ∷ (4, bad_radius a || bad_radius b) ∷ [])

-- `contains_point`
unfoldable pub circle_point_refusal : Circle → Point → ℕ
circle_point_refusal c p = refusal ((3, bad_centre c || bad_point p) ∷ (4, bad_radius c) ∷ [])

-- `find_clusters`
unfoldable pub circles_refusal : List Circle → ℕ
circles_refusal cs = refusal ((1, too_many (length cs)) ∷ (3, any bad_centre cs) ∷ (4, any bad_radius cs) ∷ (14, same_ink cs) ∷ [])

-- `find_clusters_from_exclusive_regions`
unfoldable pub regions_refusal : ℕ → List ℕ → List Float → ℕ
regions_refusal n masks areas =
    refusal ((1, too_many n) ∷ (13, unequal masks areas) ∷ (2, too_many_regions (length masks)) ∷ (5, not (rising masks)) ∷ [])

-- the column answer
unfoldable pub columns_refusal : ℕ → Float → ℕ
columns_refusal k proportion = refusal ((1, too_many k) ∷ (16, bad_proportion proportion) ∷ [])

-- packing: "does not look at a rectangle's centre"
unfoldable pub pack_refusal : List Rectangle → Float → Float → ℕ
pack_refusal rects padding proportion =
    refusal ((1, too_many (length rects)) ∷ (7, any bad_side rects) ∷ (8, bad_padding padding) ∷ (16, bad_proportion proportion) ∷ [])

-- `normalize_layout_with_container`
unfoldable pub container_refusal : List Circle → Rectangle → ℕ
container_refusal cs container =
    refusal
    ((1, too_many (length cs)) ∷ (3, any bad_centre cs || bad_point container.center) ∷ (4, any bad_radius cs) ∷ (7, bad_side container)
    ∷ (14, same_ink cs) ∷ [])

-- the values of a card: what the reader takes, and the first thing that the layout and the writer look at
abbrev pub card_checks : List Circle → Float → List ℕ → List Float → Checks
card_checks cs factor masks areas =
    (1, too_many (length cs)) ∷ (13, unequal masks areas) ∷ (2, too_many_regions (length masks)) ∷ (3, any bad_centre cs) ∷ (4, any bad_radius cs)
    ∷ (5, not (rising masks)) ∷ (6, bad_factor factor) ∷ (14, same_ink cs) ∷ []

unfoldable pub card_refusal : List Circle → Float → List ℕ → List Float → ℕ
card_refusal cs factor masks areas = refusal (card_checks cs factor masks areas)

-- what a layout takes: a card's values, then the proportion
abbrev pub layout_checks : List Circle → Float → List ℕ → List Float → Float → Checks
layout_checks cs factor masks areas proportion = card_checks cs factor masks areas ++ (16, bad_proportion proportion) ∷ []

-- the whole layout, `normalize_layout_with_clusters`
unfoldable pub layout_refusal : List Circle → Float → List ℕ → List Float → Float → ℕ
layout_refusal cs factor masks areas proportion = refusal (layout_checks cs factor masks areas proportion)

-- the charge for card stock: a layout's values, then the price
unfoldable pub stock_refusal : List Circle → Float → List ℕ → List Float → Float → ℕ → ℕ
stock_refusal cs factor masks areas proportion cents = refusal (layout_checks cs factor masks areas proportion ++ (17, bad_price cents) ∷ [])

-- a batch of m points, those handed in being ps, with an output of `room` answers: "Points obey the coordinate range (3)"
abbrev pub touch_checks : List Circle → List Point → ℕ → ℕ → Checks
touch_checks cs ps m room =
    (1, too_many (length cs)) ∷ (3, any bad_centre cs || any bad_point ps) ∷ (4, any bad_radius cs) ∷ (14, same_ink cs) ∷ (18, too_many_points m)
    ∷ (19, too_few_answers room m) ∷ []

unfoldable pub touch_refusal : List Circle → List Point → ℕ → ℕ → ℕ
touch_refusal cs ps m room = refusal (touch_checks cs ps m room)

-- the card writer, with an output of `room` bytes for a file of `size`: a card's values, then the output
unfoldable pub writer_refusal : List Circle → Float → List ℕ → List Float → ℕ → ℕ → ℕ
writer_refusal cs factor masks areas room size = refusal (card_checks cs factor masks areas ++ (15, too_short room size) ∷ [])

-- a text written into a lent list
unfoldable pub text_refusal : ℕ → ℕ → ℕ
text_refusal room size = refusal ((15, too_short room size) ∷ [])
