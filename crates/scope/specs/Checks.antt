-- More samples, proved by computation: document 01's "By program" and "Mistakes to catch", each refusal of the card reader, ends of ranges, distances, the
-- writer, proportions, packed rows, card stock and touch points.
use Rattle.std.specs.Prelude.{ℕ, ◌-◌, ◌*◌, ◌/◌, ◌%◌, ◌^◌, ◌≡◌, refl, Bool, true, false, List, [], ◌∷◌, ◌++◌, map, pos, negsuc, eqb, get_or, replicate, take, Float}
use Rattle.std.specs.Int.Bits.{bit_or}
use Rattle.std.specs.Float.{nan, inf, fin, binary64}
use Rattle.std.specs.Float.Ieee.{neg, of_bits, to_bits}
use Rattle.shapes.specs.Limits.{smallest_radius}
use Rattle.shapes.specs.declared.point.Point.{Point}
use Rattle.shapes.specs.declared.circle.Circle.{Circle}
use Rattle.shapes.specs.declared.rectangle.Rectangle.{Rectangle}
use Rattle.scope.specs.Numbers.{nought, one, two, half, whole, e_10, golden}
use Rattle.scope.specs.Runs.{tab, filled}
use Rattle.scope.specs.Limits.{circle_cap, coordinate_ok, radius_ok, factor_ok, side_ok, padding_ok, proportion_ok, price_ok}
use Rattle.scope.specs.Refusals.{refused, given, card_refusal}
use Rattle.shapes.specs.Records.{point_at, circle_of, rectangle_of}
use Rattle.scope.specs.Distance.{root_answer, distance_answer, circle_distance_answer, contains_answer, contains_point_answer, intersects_answer}
use Rattle.scope.specs.Links.{regions}
use Rattle.scope.specs.Offset.{magnitude}
use Rattle.scope.specs.PackedRows.{packed_row, unpacked_row, packed_words, mark_of, joined_words}
use Rattle.scope.specs.Groups.{refused_grouping, area_grouping, plain_grouping, clusters}
use Rattle.scope.specs.Tolerance.{tolerance}
use Rattle.scope.specs.Packing.{skyline_pack, columns_answer, rows, no_rectangle, refused_packing}
use Rattle.scope.specs.Container.{contained}
use Rattle.scope.specs.Layout.{layout, refused_layout}
use Rattle.scope.specs.CardStock.{refused_charge, card_stock}
use Rattle.scope.specs.Touch.{refused_touch, touched}
use Rattle.scope.specs.CardFile.{factor_field, circle_field, region_field, Card, read_field, field_body, next_refusal, read_card}
use Rattle.scope.specs.Text.{bytes}
use Rattle.scope.specs.Print.{card_text, float}
use Rattle.scope.specs.Saving.{card_of, file_of, refused_saving, write_card, write_text}
use Rattle.scope.specs.Twins.{first_written, first_stock, first_touched}
use Rattle.scope.specs.Computing.{computing}
use Rattle.scope.specs.Samples.{whole_circle, grouped, file_j}

-- ---- ranges and root

-- which f64 pass, each given by its bits
abbrev pub passing : (Float → Bool) → List ℕ → List Bool
passing ok patterns = map (λ p. ok (of_bits binary64 p)) patterns

-- the bits of -0, and of the f64 next below it, -5e-324
abbrev pub minus_zero : ℕ
minus_zero = 0x8000_0000_0000_0000

abbrev pub below_zero : ℕ
below_zero = 0x8000_0000_0000_0001

pub record RangeChecks : Type 0 where
  -- "Coordinate 1048576 passes, the next f64 gives 3." So too below 0.
  pub coordinate_ends : passing coordinate_ok (0x4130_0000_0000_0000 ∷ 0xc130_0000_0000_0000 ∷ []) ≡ true ∷ true ∷ []
  pub coordinate_past : passing coordinate_ok (0x4130_0000_0000_0001 ∷ 0xc130_0000_0000_0001 ∷ []) ≡ false ∷ false ∷ []
  pub coordinate_nan : coordinate_ok nan ≡ false
  pub coordinate_inf : coordinate_ok (inf true) ≡ false
  -- 2^-20 and 2^20 pass, the f64 beyond each does not, nor does -0
  pub radius-ends : passing radius_ok (0x3eb0_0000_0000_0000 ∷ 0x4130_0000_0000_0000 ∷ []) ≡ true ∷ true ∷ []
  pub radius_past : passing radius_ok (0x3eaf_ffff_ffff_ffff ∷ 0x4130_0000_0000_0001 ∷ []) ≡ false ∷ false ∷ []
  pub radius-zero : radius_ok (neg nought) ≡ false
  -- "-0 counts as 0": -0, 0 and the upper end (1, 2^23, 2^26) pass, and -5e-324 and the f64 past that end do not
  pub factor-ends : passing factor_ok (minus_zero ∷ 0 ∷ 0x3ff0_0000_0000_0000 ∷ []) ≡ true ∷ true ∷ true ∷ []
  pub factor_past : passing factor_ok (below_zero ∷ 0x3ff0_0000_0000_0001 ∷ []) ≡ false ∷ false ∷ []
  pub side_ends : passing side_ok (minus_zero ∷ 0 ∷ 0x4160_0000_0000_0000 ∷ []) ≡ true ∷ true ∷ true ∷ []
  pub side_past : passing side_ok (below_zero ∷ 0x4160_0000_0000_0001 ∷ []) ≡ false ∷ false ∷ []
  pub padding-ends : passing padding_ok (minus_zero ∷ 0 ∷ 0x4190_0000_0000_0000 ∷ []) ≡ true ∷ true ∷ true ∷ []
  pub padding_past : passing padding_ok (below_zero ∷ 0x4190_0000_0000_0001 ∷ []) ≡ false ∷ false ∷ []
  -- 12
  pub root-nan : root_answer nan ≡ refused 12
  pub root_below : root_answer (neg one) ≡ refused 12
  pub root_minus_inf : root_answer (inf true) ≡ refused 12
  pub root-minus_zero : root_answer (neg nought) ≡ given (neg nought)
  pub root-inf : root_answer (inf false) ≡ given (inf false)

pub ranges : RangeChecks
unfolding computing
ranges =
    record {
      coordinate_ends = refl;
      coordinate_past = refl;
      coordinate_nan = refl;
      coordinate_inf = refl;
      radius-ends = refl;
      radius_past = refl;
      radius-zero = refl;
      factor-ends = refl;
      factor_past = refl;
      side_ends = refl;
      side_past = refl;
      padding-ends = refl;
      padding_past = refl;
      root-nan = refl;
      root_below = refl;
      root_minus_inf = refl;
      root-minus_zero = refl;
      root-inf = refl;
    }

-- ---- distances

abbrev pub tenth : Float
tenth = of_bits binary64 0x3fb9_9999_9999_999a

pub record DistanceChecks : Type 0 where
  pub points : distance_answer (point_at (whole 1) (whole 2)) (point_at (whole 4) (whole 6)) ≡ given (whole 5)
  pub points-nan : distance_answer (point_at nan nought) (point_at nought nought) ≡ refused 3
  pub circles : circle_distance_answer (whole_circle 0 0 1 1) (whole_circle 3 4 2 2) ≡ given (whole 2)
  pub circles_touch : circle_distance_answer (whole_circle 0 0 2 1) (whole_circle 3 4 3 2) ≡ given nought
  pub circles_both : circle_distance_answer (circle_of nan nought nought 1) (whole_circle 3 4 3 1) ≡ refused 3
  pub circles-radius : circle_distance_answer (whole_circle 0 0 0 1) (whole_circle 3 4 3 2) ≡ refused 4
  pub on_the_edge : contains_point_answer (whole_circle 0 0 5 1) (point_at (whole 3) (whole 4)) ≡ given true
  -- document 02, 6/14: (0,0) and (0.1,0.1) are one last place nearer than the root of the rounded squares says
  pub not_the_root_of_rounded_squares : distance_answer (point_at nought nought) (point_at tenth tenth) ≡ given (of_bits binary64 0x3fc2_1a18_51ff_630a)
  -- which the magnitude inside the offset step still is: it "keeps its written formula"
  pub magnitude_by_its_formula : magnitude tenth tenth ≡ of_bits binary64 0x3fc2_1a18_51ff_630b
  -- so one circle there contains another, and two of one radius cross; and two at (0,0) and (0.5,0.3), which are a last place further apart, only touch
  pub contained_by_a_place : contains_answer (circle_of nought nought (of_bits binary64 0x3fca_1a18_51ff_630a) 1) (circle_of tenth tenth (fin false 1 (negsuc 3)) 2) ≡ given true
  pub crossing_by_a_place : intersects_answer (circle_of nought nought (of_bits binary64 0x3fb2_1a18_51ff_630b) 1) (circle_of tenth tenth (of_bits binary64 0x3fb2_1a18_51ff_630b) 2) ≡ given true
  pub only-touching : plain_grouping (circle_of nought nought (of_bits binary64 0x3fd2_a8b7_3e29_4fb5) 1 ∷ circle_of half (of_bits binary64 0x3fd3_3333_3333_3333) (of_bits binary64 0x3fd2_a8b7_3e29_4fb5) 2 ∷ []) ≡ grouped 2 (0 ∷ 1 ∷ [])
  -- exact roots half-way between two f64, of 54 digits: 11258999135535105 and 10977524293042179, over 2^34. The first goes down to the even one, the second up
  pub tie_down : distance_answer (point_at nought nought) (point_at (fin false 9007199187632127 (negsuc 33)) (fin false 100663299 (negsuc 7))) ≡ given (fin false 167772161 (negsuc 7))
  pub tie_up : distance_answer (point_at nought nought) (point_at (fin false 4222124449333245 (negsuc 33)) (fin false 301989897 (negsuc 8))) ≡ given (fin false 2744381073260545 (negsuc 31))
  -- "the differences being rounded first": 1 less 2^-54 counts as 1, so that this is the root of 2, and not the f64 below
  pub rounded_first : distance_answer (point_at one one) (point_at (fin false 1 (negsuc 53)) nought) ≡ given (of_bits binary64 0x3ff6_a09e_667f_3bcd)
  -- no square is lost: the smallest f64
  pub smallest : distance_answer (point_at (of_bits binary64 1) nought) (point_at nought nought) ≡ given (of_bits binary64 1)

pub distances : DistanceChecks
unfolding computing
distances =
    record {
      points = refl;
      points-nan = refl;
      circles = refl;
      circles_touch = refl;
      circles_both = refl;
      circles-radius = refl;
      on_the_edge = refl;
      not_the_root_of_rounded_squares = refl;
      magnitude_by_its_formula = refl;
      contained_by_a_place = refl;
      crossing_by_a_place = refl;
      only-touching = refl;
      tie_down = refl;
      tie_up = refl;
      rounded_first = refl;
      smallest = refl;
    }

-- ---- clusters

pub record GroupChecks : Type 0 where
  -- a chain of three
  pub chain : area_grouping 3 (3 ∷ 6 ∷ []) (one ∷ one ∷ []) e_10 ≡ grouped 1 (0 ∷ 0 ∷ 0 ∷ [])
  -- numbers go by smallest member
  pub by_smallest : area_grouping 4 (10 ∷ []) (one ∷ []) e_10 ≡ grouped 3 (0 ∷ 1 ∷ 2 ∷ 1 ∷ [])
  -- bits at or above n are allowed
  pub high_bits : area_grouping 2 (7 ∷ []) (one ∷ []) e_10 ≡ grouped 1 (0 ∷ 0 ∷ [])
  -- a NaN area does not link; at a NaN tolerance every finite area does, one below 0 too
  pub nan-area : area_grouping 2 (3 ∷ []) (nan ∷ []) e_10 ≡ grouped 2 (0 ∷ 1 ∷ [])
  pub nan-tolerance : area_grouping 2 (3 ∷ []) (neg one ∷ []) nan ≡ grouped 1 (0 ∷ 0 ∷ [])
  pub minus_infinity : area_grouping 2 (3 ∷ []) (neg one ∷ []) (inf true) ≡ grouped 1 (0 ∷ 0 ∷ [])
  -- alone, the clustering takes a list in any order
  pub unsorted : clusters 3 (regions (6 ∷ 3 ∷ []) (one ∷ one ∷ [])) e_10 ≡ record { count = 1; numbers = 0 ∷ 0 ∷ 0 ∷ [] }
  -- "Masks 3, 3 give 5."
  pub equal_masks : area_grouping 2 (3 ∷ 3 ∷ []) (one ∷ one ∷ []) e_10 ≡ refused_grouping 5
  -- 13 goes before 2, and 1 before both
  pub unequal-first : area_grouping 2 (replicate 2049 3) (one ∷ []) e_10 ≡ refused_grouping 13
  pub too_many-regions : area_grouping 2 (replicate 2049 3) (replicate 2049 one) e_10 ≡ refused_grouping 2
  pub too_many-circles : area_grouping 65 (replicate 2049 3) (one ∷ []) e_10 ≡ refused_grouping 1
  -- a circle that touches its parent's edge from inside is not apart; one that touches from outside is
  pub touches-inside : plain_grouping (whole_circle 0 0 3 1 ∷ whole_circle 2 0 1 2 ∷ []) ≡ grouped 1 (0 ∷ 0 ∷ [])
  pub touches-outside : plain_grouping (whole_circle 0 0 1 1 ∷ whole_circle 2 0 1 2 ∷ []) ≡ grouped 2 (0 ∷ 1 ∷ [])
  pub crosses : plain_grouping (whole_circle 0 0 2 1 ∷ whole_circle 9 0 1 2 ∷ whole_circle 3 0 2 3 ∷ []) ≡ grouped 2 (0 ∷ 1 ∷ 0 ∷ [])
  -- M is at least 1, and passes over NaN
  pub tolerance-none : tolerance [] ≡ e_10
  pub tolerance-nan : tolerance (regions (1 ∷ 2 ∷ 3 ∷ []) (neg (whole 2) ∷ nan ∷ one ∷ [])) ≡ tolerance (regions (1 ∷ []) (whole 2 ∷ []))
  pub tolerance-inf : tolerance (regions (1 ∷ []) (inf true ∷ [])) ≡ inf false

pub groups : GroupChecks
unfolding computing
groups =
    record {
      chain = refl;
      by_smallest = refl;
      high_bits = refl;
      nan-area = refl;
      nan-tolerance = refl;
      minus_infinity = refl;
      unsorted = refl;
      equal_masks = refl;
      unequal-first = refl;
      too_many-regions = refl;
      too_many-circles = refl;
      touches-inside = refl;
      touches-outside = refl;
      crosses = refl;
      tolerance-none = refl;
      tolerance-nan = refl;
      tolerance-inf = refl;
    }

-- ---- whole cards, from the file to the text

-- the eight bytes of a number, and the fields of a card; a float is given by its bits
unfoldable pub eight : ℕ → List ℕ
eight n = tab 8 (λ i. n / 256 ^ i % 256)

unfoldable pub factor_bytes : ℕ → List ℕ
factor_bytes f = 1 ∷ 8 ∷ 0 ∷ eight f

unfoldable pub circle_bytes : ℕ → ℕ → ℕ → ℕ → List ℕ
circle_bytes x y r k = 2 ∷ 26 ∷ 0 ∷ eight x ++ eight y ++ eight r ++ k % 256 ∷ k / 256 ∷ []

unfoldable pub region_bytes : ℕ → ℕ → List ℕ
region_bytes m a = 3 ∷ 16 ∷ 0 ∷ eight m ++ eight a

-- the bits of a whole number
unfoldable pub whole_bits : ℕ → ℕ
whole_bits n = to_bits binary64 (whole n)

-- (0,0,4) of ink 1, (0,0,1) of ink 2: a parent and a child in its middle
unfoldable pub nested : List ℕ
nested = factor_bytes 0 ++ circle_bytes 0 0 (whole_bits 4) 1 ++ circle_bytes 0 0 (whole_bits 1) 2

pub record CardChecks : Type 0 where
  -- "areas 10 on mask 1 and 3 on mask 3: the child ends within 2^-40 of (1.5,0)": it ends at 3ff7ffffffffffdc, 36 units of 2^-52 below 1.5
  pub child : card_text (nested ++ region_bytes 1 (whole_bits 10) ++ region_bytes 3 (whole_bits 3))
      ≡ bytes "circles 2 clusters 1 moved 0000000000000002 padding 0000000000000000\n"
      ++ bytes "0 0 0000000000000000 0000000000000000 4010000000000000 1\n"
      ++ bytes "1 0 3ff7ffffffffffdc 0000000000000000 3ff0000000000000 2\n"
  -- a NaN area: the child's total is NaN, so it is not moved, and nothing links it
  pub nan-area : card_text (nested ++ region_bytes 1 (whole_bits 10) ++ region_bytes 3 0x7ff8_0000_0000_0000)
      ≡ bytes "circles 2 clusters 2 moved 0000000000000000 padding 0000000000000000\n"
      ++ bytes "0 0 bff0000000000000 0000000000000000 4010000000000000 1\n"
      ++ bytes "1 1 4010000000000000 0000000000000000 3ff0000000000000 2\n"
  -- a bit above n is a second partner, so the child is not moved
  pub two_partners : card_text (nested ++ region_bytes 1 (whole_bits 10) ++ region_bytes 7 (whole_bits 3))
      ≡ bytes "circles 2 clusters 1 moved 0000000000000000 padding 0000000000000000\n"
      ++ bytes "0 0 0000000000000000 0000000000000000 4010000000000000 1\n"
      ++ bytes "1 0 0000000000000000 0000000000000000 3ff0000000000000 2\n"
  -- two children of one parent both stay, though there is room for either
  pub siblings : card_text
      (factor_bytes 0 ++ circle_bytes 0 0 (whole_bits 4) 1 ++ circle_bytes 0 0 0x3fd0_0000_0000_0000 2 ++ circle_bytes 0 0 0x3fd0_0000_0000_0000 3
      ++ region_bytes 1 (whole_bits 10) ++ region_bytes 3 (whole_bits 3) ++ region_bytes 5 (whole_bits 3))
      ≡ bytes "circles 3 clusters 1 moved 0000000000000000 padding 0000000000000000\n"
      ++ bytes "0 0 0000000000000000 0000000000000000 4010000000000000 1\n"
      ++ bytes "1 0 0000000000000000 0000000000000000 3fd0000000000000 2\n"
      ++ bytes "2 0 0000000000000000 0000000000000000 3fd0000000000000 3\n"
  -- an area equal to the tolerance 1e-10 does not link
  pub at_tolerance : card_text (nested ++ region_bytes 1 (whole_bits 1) ++ region_bytes 3 0x3ddb_7cdf_d9d7_bdbb)
      ≡ bytes "circles 2 clusters 2 moved 0000000000000000 padding 0000000000000000\n"
      ++ bytes "0 0 bff0000000000000 0000000000000000 4010000000000000 1\n"
      ++ bytes "1 1 4010000000000000 0000000000000000 3ff0000000000000 2\n"
  -- mistake: "summing areas in another order than rising masks". Summed the other way the parent's total is larger, and the child would move.
  pub sum_order : card_text
      (nested ++ region_bytes 1 (whole_bits 9007208261) ++ region_bytes 3 (whole_bits (2 ^ 53)) ++ region_bytes 5 (whole_bits 1) ++ region_bytes 9 (whole_bits 1))
      ≡ bytes "circles 2 clusters 1 moved 0000000000000000 padding 0000000000000000\n"
      ++ bytes "0 0 0000000000000000 0000000000000000 4010000000000000 1\n"
      ++ bytes "1 0 0000000000000000 0000000000000000 3ff0000000000000 2\n"
  -- mistake: "mirroring by boxes instead of centres". (0,0,1), (4,0,1), (-3,0,5): 0 is left of the centres' middle, 1/2, and right of the boxes', -3/2.
  pub mirror : card_text
      (factor_bytes 0 ++ circle_bytes 0 0 (whole_bits 1) 1 ++ circle_bytes (whole_bits 4) 0 (whole_bits 1) 2 ++ circle_bytes 0xc008_0000_0000_0000 0 (whole_bits 5) 3
      ++ region_bytes 7 (whole_bits 1))
      ≡ bytes "circles 3 clusters 1 moved 0000000000000000 padding 0000000000000000\n"
      ++ bytes "0 0 3ff8000000000000 0000000000000000 3ff0000000000000 1\n"
      ++ bytes "1 0 4016000000000000 0000000000000000 3ff0000000000000 2\n"
      ++ bytes "2 0 bff8000000000000 0000000000000000 4014000000000000 3\n"
  -- mistake: "taking the first circle's angle with the wrong sign". (0,0,1), (3,4,1) end level, up to 2^-51.
  pub angle : card_text
      (factor_bytes 0 ++ circle_bytes 0 0 (whole_bits 1) 1 ++ circle_bytes (whole_bits 3) (whole_bits 4) (whole_bits 1) 2 ++ region_bytes 3 (whole_bits 1))
      ≡ bytes "circles 2 clusters 1 moved 0000000000000000 padding 0000000000000000\n"
      ++ bytes "0 0 c004000000000000 bcb0000000000000 3ff0000000000000 1\n"
      ++ bytes "1 0 4004000000000000 3cb0000000000000 3ff0000000000000 2\n"
  -- factor 1/2, (0,0,1), (10,0,2), (0,9,1), three clusters: the largest box goes first, and the padding is half the root of 24. Ink numbers have two bytes.
  pub padded : card_text
      (factor_bytes 0x3fe0_0000_0000_0000 ++ circle_bytes 0 0 (whole_bits 1) 65535 ++ circle_bytes (whole_bits 10) 0 (whole_bits 2) 0
      ++ circle_bytes 0 (whole_bits 9) (whole_bits 1) 258)
      ≡ bytes "circles 3 clusters 3 moved 0000000000000000 padding 4003988e1409212e\n"
      ++ bytes "0 0 3feffffffffffff8 bcc0000000000000 3ff0000000000000 65535\n"
      ++ bytes "1 1 c011cc470a049097 bcc0000000000000 4000000000000000 0\n"
      ++ bytes "2 2 4015cc470a049097 0000000000000000 3ff0000000000000 258\n"
  -- "Either zero prints as sixteen 0s."
  pub minus_zero_lem : float (neg nought) ≡ bytes "0000000000000000"
  -- "No circles: accepted, all 0."
  pub none : card_text (factor_bytes 0) ≡ bytes "circles 0 clusters 0 moved 0000000000000000 padding 0000000000000000\n"

pub cards : CardChecks
unfolding computing nested factor_bytes circle_bytes region_bytes eight whole_bits
cards =
    record {
      child = refl;
      nan-area = refl;
      two_partners = refl;
      siblings = refl;
      at_tolerance = refl;
      sum_order = refl;
      mirror = refl;
      angle = refl;
      padded = refl;
      minus_zero_lem = refl;
      none = refl;
    }

-- ---- refusals of the card reader, each by the text that `card` prints

unfoldable pub unit : List ℕ
unit = circle_bytes 0 0 (whole_bits 1) 7

-- a card so far: n circles and m regions
unfoldable pub so_far : ℕ → ℕ → Card
so_far n m =
    record {
      factor = nought;
      circles = replicate n (circle_of nought nought one 7);
      masks = replicate m 1;
      patterns = replicate m 0;
      areas = replicate m nought;
    }

pub record ReaderChecks : Type 0 where
  pub empty : card_text [] ≡ bytes "refused 9\n"
  pub head_cut_lem : card_text (1 ∷ []) ≡ bytes "refused 11\n"
  -- the head goes before the tag
  pub later-head_cut : card_text (factor_bytes 0 ++ 7 ∷ 0 ∷ []) ≡ bytes "refused 11\n"
  pub circle-first : card_text unit ≡ bytes "refused 9\n"
  pub second_factor : card_text (factor_bytes 0 ++ factor_bytes 0) ≡ bytes "refused 9\n"
  pub unknown-tag : card_text (factor_bytes 0 ++ 4 ∷ 16 ∷ 0 ∷ []) ≡ bytes "refused 9\n"
  pub circle_after_region : card_text (factor_bytes 0 ++ region_bytes 1 0 ++ unit) ≡ bytes "refused 9\n"
  pub wrong_length_lem : card_text (factor_bytes 0 ++ 2 ∷ 16 ∷ 0 ∷ []) ≡ bytes "refused 10\n"
  pub high-length : card_text (1 ∷ 8 ∷ 1 ∷ eight 0) ≡ bytes "refused 10\n"
  pub body_cut_lem : card_text (take 20 file_j) ≡ bytes "refused 11\n"
  -- the 65th circle and the 2,049th region, each before its length
  pub circle_65 : next_refusal (so_far 64 0) (2 ∷ 0 ∷ 0 ∷ []) ≡ 1
  pub circle_64 : next_refusal (so_far 63 0) unit ≡ 0
  pub region_2049 : next_refusal (so_far 1 2048) (3 ∷ 0 ∷ 0 ∷ []) ≡ 2
  pub region_2048 : next_refusal (so_far 1 2047) (region_bytes 5 0) ≡ 0
  -- a misplaced circle is looked at before the count
  pub place-first : next_refusal (so_far 64 1) (2 ∷ 26 ∷ 0 ∷ []) ≡ 9
  -- "Then values, by the table."
  pub bad_coordinate : card_text (factor_bytes 0 ++ circle_bytes 0x4130_0000_0000_0001 0 0 7) ≡ bytes "refused 3\n"
  pub bad_radius_lem : card_text (factor_bytes 0 ++ circle_bytes 0x4130_0000_0000_0000 0 0 7) ≡ bytes "refused 4\n"
  pub equal_masks : card_text (factor_bytes (whole_bits 2) ++ unit ++ unit ++ region_bytes 3 0 ++ region_bytes 3 0) ≡ bytes "refused 5\n"
  pub bad_factor_lem : card_text (factor_bytes (whole_bits 2) ++ unit) ≡ bytes "refused 6\n"
  -- "64 circles pass, 65 give 1."
  pub circles_64 : card_refusal (tab 64 (whole_circle 0 0 1)) nought [] [] ≡ 0
  pub circles_65 : card_refusal (replicate 65 (whole_circle 0 0 1 1)) nought [] [] ≡ 1
  -- two circles of one ink, after every other check
  pub same_ink_lem : card_text (factor_bytes 0 ++ unit ++ unit) ≡ bytes "refused 14\n"
  pub factor-first : card_text (factor_bytes (whole_bits 2) ++ unit ++ unit) ≡ bytes "refused 6\n"
  pub ink_last : card_refusal (tab 63 (whole_circle 0 0 1) ++ whole_circle 0 0 1 62 ∷ []) nought [] [] ≡ 14
  pub ink_plain : plain_grouping (whole_circle 0 0 1 5 ∷ whole_circle 9 0 1 5 ∷ []) ≡ refused_grouping 14
  -- a circle field without a number
  pub old_circle : card_text (factor_bytes 0 ++ 2 ∷ 24 ∷ 0 ∷ eight 0 ++ eight 0 ++ eight (whole_bits 1)) ≡ bytes "refused 10\n"
  -- "Longer input prints `refused 2`"
  pub too_long : card_text (replicate 65537 0) ≡ bytes "refused 2\n"
  pub long_enough : card_text (replicate 65536 0) ≡ bytes "refused 9\n"
  -- the two field calls
  pub factor-read : read_field file_j 0 ≡ given (factor_field nought)
  pub circle-read : read_field file_j 40 ≡ given (circle_field (whole_circle 10 0 1 2))
  pub region-read : read_field (region_bytes 5 (whole_bits 3)) 0 ≡ given (region_field 5 (whole 3))
  pub nan-read : read_field (factor_bytes 0xfff0_0000_0000_0001) 0 ≡ given (factor_field nan)
  pub read_at_end : read_field file_j 69 ≡ refused 11
  pub read_past_end : read_field file_j 900 ≡ refused 11
  pub read-empty : read_field [] 0 ≡ refused 11
  pub read-unknown : read_field (0 ∷ 0 ∷ 0 ∷ []) 0 ≡ refused 9
  pub read-wrong_length : read_field (1 ∷ 9 ∷ 0 ∷ []) 0 ≡ refused 10
  pub read_cut : read_field (1 ∷ 8 ∷ 0 ∷ 0 ∷ []) 0 ≡ refused 11
  pub body_handed : field_body (region_bytes 5 0) 0 ≡ 5 ∷ replicate 15 0
  pub body_refused : field_body file_j 1 ≡ []

pub reader : ReaderChecks
unfolding computing file_j unit so_far factor_bytes circle_bytes region_bytes eight whole_bits
reader =
    record {
      empty = refl;
      head_cut_lem = refl;
      later-head_cut = refl;
      circle-first = refl;
      second_factor = refl;
      unknown-tag = refl;
      circle_after_region = refl;
      wrong_length_lem = refl;
      high-length = refl;
      body_cut_lem = refl;
      circle_65 = refl;
      circle_64 = refl;
      region_2049 = refl;
      region_2048 = refl;
      place-first = refl;
      bad_coordinate = refl;
      bad_radius_lem = refl;
      equal_masks = refl;
      bad_factor_lem = refl;
      circles_64 = refl;
      circles_65 = refl;
      same_ink_lem = refl;
      factor-first = refl;
      ink_last = refl;
      ink_plain = refl;
      old_circle = refl;
      too_long = refl;
      long_enough = refl;
      factor-read = refl;
      circle-read = refl;
      region-read = refl;
      nan-read = refl;
      read_at_end = refl;
      read_past_end = refl;
      read-empty = refl;
      read-unknown = refl;
      read-wrong_length = refl;
      read_cut = refl;
      body_handed = refl;
      body_refused = refl;
    }

-- ---- the card writer

-- an output of n bytes, none of which a file has at its place
abbrev pub lent_bytes : ℕ → List ℕ
lent_bytes n = replicate n 0xaa

-- sample (j)'s card, and one with a region
abbrev pub card_j : Card
card_j = card_of nought (whole_circle 0 0 1 1 ∷ whole_circle 10 0 1 2 ∷ []) [] []

abbrev pub one_region : Float → ℕ → Card
one_region factor pattern = card_of factor (whole_circle 0 0 1 7 ∷ []) (5 ∷ []) (pattern ∷ [])

pub record SavingChecks : Type 0 where
  -- the file of sample (j), byte for byte
  pub sample_j : file_of card_j ≡ file_j
  -- "all bits kept": a factor of -0, a NaN with digits, masks by eight bytes
  pub all_bits : file_of (one_region (neg nought) 0xfff0_0000_0000_0001) ≡ factor_bytes minus_zero ++ unit ++ region_bytes 5 0xfff0_0000_0000_0001
  -- read again, the same card
  pub back : read_card (file_of (one_region (neg nought) 0xfff0_0000_0000_0001)) ≡ given (one_region (neg nought) 0xfff0_0000_0000_0001)
  -- the shortest file has 11 bytes, and what lies behind them stays
  pub shortest : write_card (card_of nought [] [] []) (lent_bytes 12) ≡ record { refusal = 0; written = 11; output = factor_bytes 0 ++ 0xaa ∷ [] }
  -- "too short": one byte less is 15 and changes nothing, the very length serves
  pub exactly : write_card card_j (lent_bytes 69) ≡ record { refusal = 0; written = 69; output = file_j }
  pub one_less : write_card card_j (lent_bytes 68) ≡ refused_saving (lent_bytes 68) 15
  -- "after all value checks"
  pub ink_first : write_card (card_of nought (whole_circle 0 0 1 7 ∷ whole_circle 9 0 1 7 ∷ []) [] []) [] ≡ refused_saving [] 14
  pub lists_first : write_card (card_of (whole 2) (whole_circle 0 0 0 1 ∷ []) (5 ∷ []) []) [] ≡ refused_saving [] 13
  pub coordinate_first : write_card (card_of (whole 2) (circle_of (whole 1048577) nought one 1 ∷ []) [] []) [] ≡ refused_saving [] 3
  pub output_last : write_card (one_region nought 0) [] ≡ refused_saving [] 15
  -- circles at or past the count are not looked at
  pub first_one : first_written 1 (whole_circle 0 0 1 7 ∷ whole_circle 0 0 0 7 ∷ []) nought [] [] (lent_bytes 40)
      ≡ record { refusal = 0; written = 40; output = factor_bytes 0 ++ unit }
  pub count_65 : first_written 65 [] nan [] [] [] ≡ refused_saving [] 1
  -- the text of a card, in a list that is long enough and in one that is not
  pub text : write_text [] (lent_bytes 11) ≡ record { refusal = 0; written = 10; output = bytes "refused 9\n" ++ 0xaa ∷ [] }
  pub text-short : write_text [] (lent_bytes 9) ≡ refused_saving (lent_bytes 9) 15

pub savings : SavingChecks
unfolding computing file_j unit factor_bytes circle_bytes region_bytes eight whole_bits
savings =
    record {
      sample_j = refl;
      all_bits = refl;
      back = refl;
      shortest = refl;
      exactly = refl;
      one_less = refl;
      ink_first = refl;
      lists_first = refl;
      coordinate_first = refl;
      output_last = refl;
      first_one = refl;
      count_65 = refl;
      text = refl;
      text-short = refl;
    }

-- ---- packing and container

-- a box at (9, 9), where packing does not look
unfoldable pub box : Float → Rectangle
box s = rectangle_of (point_at (whole 9) (whole 9)) s s

abbrev pub square_box : Float → Float → Float → Rectangle
square_box x y s = rectangle_of (point_at x y) s s

pub record PackingChecks : Type 0 where
  -- sides 2, 1, 2 and padding 1/2: mistake "sorting equal boxes backwards"
  pub equal_boxes : skyline_pack (box (whole 2) ∷ box one ∷ box (whole 2) ∷ []) half golden
      ≡ record {
        refusal = 0;
        rectangles =
            filled circle_cap no_rectangle
            (square_box (fin false 5 (negsuc 1)) (fin false 5 (negsuc 1)) (whole 2)
            ∷ square_box (fin false 23 (negsuc 1)) (fin false 5 (negsuc 1)) one
            ∷ square_box (fin false 15 (negsuc 1)) (fin false 5 (negsuc 1)) (whole 2)
            ∷ []);
      }
  -- 4 by 2 and 3 by 1, side by side: a column is as wide as its box, and the row as high as the higher one
  pub own_sides :
      map (λ (r : Rectangle). r.center)
      (take 2 (skyline_pack (rectangle_of (point_at nan nan) (whole 4) (whole 2) ∷ rectangle_of (point_at nan nan) (whole 3) one ∷ []) nought (whole 4)).rectangles)
      ≡ point_at (whole 2) one ∷ point_at (fin false 11 (negsuc 0)) one ∷ []
  pub bad_side_lem : skyline_pack (box (neg one) ∷ []) nan nan ≡ refused_packing 7
  pub bad_padding_lem : skyline_pack (box one ∷ []) nan nan ≡ refused_packing 8
  -- "No boxes have 0 columns."
  pub columns_0 : columns_answer 0 golden ≡ given 0
  pub columns_65 : columns_answer 65 nan ≡ refused 1
  pub rows_61 : rows 61 10 ≡ 7
  -- the container goes to the origin and the circle to its middle
  pub container : contained (whole_circle 5 5 1 1 ∷ []) (square_box (whole 4) (whole 4) (whole 10))
      ≡ record { refusal = 0; container = square_box nought nought (whole 10); circles = whole_circle 0 0 1 1 ∷ [] }
  -- a circle that reaches past stays where step 1 left it
  pub past : contained (whole_circle 5 5 9 1 ∷ []) (square_box (whole 4) (whole 4) (whole 10))
      ≡ record { refusal = 0; container = square_box nought nought (whole 10); circles = whole_circle 1 1 9 1 ∷ [] }
  -- a container's side goes before the ink, and after 14, as after any number, all comes back as given
  pub same_ink_lem : contained (whole_circle 5 5 1 1 ∷ whole_circle 6 5 1 1 ∷ []) (square_box (whole 4) (whole 4) (whole 10))
      ≡ record { refusal = 14; container = square_box (whole 4) (whole 4) (whole 10); circles = whole_circle 5 5 1 1 ∷ whole_circle 6 5 1 1 ∷ [] }
  pub side_first : (contained (whole_circle 5 5 1 1 ∷ whole_circle 6 5 1 1 ∷ []) (square_box (whole 4) (whole 4) (neg one))).refusal ≡ 7
  pub bad_container : contained (whole_circle 5 5 1 1 ∷ []) (square_box (whole 4) (whole 4) (neg one))
      ≡ record { refusal = 7; container = square_box (whole 4) (whole 4) (neg one); circles = whole_circle 5 5 1 1 ∷ [] }

pub packs : PackingChecks
unfolding computing box
packs =
    record {
      equal_boxes = refl;
      own_sides = refl;
      bad_side_lem = refl;
      bad_padding_lem = refl;
      columns_0 = refl;
      columns_65 = refl;
      rows_61 = refl;
      container = refl;
      past = refl;
      same_ink_lem = refl;
      side_first = refl;
      bad_container = refl;
    }

-- ---- document 02, 3/14: the proportion

abbrev pub quarter : Float
quarter = fin false 1 (negsuc 1)

abbrev pub four : Float
four = fin false 1 (pos 2)

-- the f64 next above 1
abbrev pub past_one : Float
past_one = of_bits binary64 0x3ff0_0000_0000_0001

pub record ProportionChecks : Type 0 where
  -- "from 1/4 to 4": the ends, and the f64 next to each
  pub ends : passing proportion_ok (0x3fd0_0000_0000_0000 ∷ 0x3fcf_ffff_ffff_ffff ∷ 0x4010_0000_0000_0000 ∷ 0x4010_0000_0000_0001 ∷ [])
      ≡ true ∷ false ∷ true ∷ false ∷ []
  -- zeros, -1/4, NaN and the infinities
  pub outside : map proportion_ok (nought ∷ neg nought ∷ neg quarter ∷ nan ∷ inf false ∷ inf true ∷ []) ≡ replicate 6 false
  -- 64 boxes have from 4 columns to 16
  pub columns_64 : map (columns_answer 64) (quarter ∷ half ∷ one ∷ two ∷ four ∷ []) ≡ given 4 ∷ given 6 ∷ given 8 ∷ given 12 ∷ given 16 ∷ []
  -- the product of the two rounded roots: the root of the product would have 1, 2 and 2
  pub rounded_twice : columns_answer 2 half ≡ given 2
  pub rounded_2 : columns_answer 2 two ≡ given 3
  pub rounded_8 : columns_answer 8 half ≡ given 3
  -- one box has one column up to 1 and, by rounding, at the next f64
  pub columns_1 : map (columns_answer 1) (quarter ∷ one ∷ past_one ∷ two ∷ four ∷ []) ≡ given 1 ∷ given 1 ∷ given 1 ∷ given 2 ∷ given 2 ∷ []
  -- no boxes have 0 columns, and are refused for their proportion all the same
  pub columns_0 : map (columns_answer 0) (quarter ∷ four ∷ nought ∷ nan ∷ []) ≡ given 0 ∷ given 0 ∷ refused 16 ∷ refused 16 ∷ []
  -- three boxes at 1 stand in two columns, so the third starts a row
  pub second_row : skyline_pack (box (whole 2) ∷ box (whole 2) ∷ box (whole 2) ∷ []) nought one
      ≡ record {
        refusal = 0;
        rectangles =
            filled circle_cap no_rectangle
            (square_box one one (whole 2) ∷ square_box (whole 3) one (whole 2) ∷ square_box one (whole 3) (whole 2) ∷ []);
      }
  -- two circles at 1/4 stand one over the other, and at 4 side by side
  pub tall : (layout (whole_circle 0 0 1 1 ∷ whole_circle 10 0 1 2 ∷ []) nought [] [] quarter).circles
      ≡ circle_of nought (neg one) one 1 ∷ circle_of nought one one 2 ∷ []
  pub wide : (layout (whole_circle 0 0 1 1 ∷ whole_circle 10 0 1 2 ∷ []) nought [] [] four).circles
      ≡ circle_of (neg one) nought one 1 ∷ circle_of one nought one 2 ∷ []
  -- "checked after 15": after every other cause, and the circles come back as given
  pub alone : layout (whole_circle 3 4 1 1 ∷ []) nought [] [] nan ≡ refused_layout 16 (whole_circle 3 4 1 1 ∷ [])
  pub ink_first : (layout (whole_circle 0 0 1 1 ∷ whole_circle 10 0 1 1 ∷ []) nought [] [] nan).result.refusal ≡ 14
  pub no_box : skyline_pack [] nought nan ≡ refused_packing 16
  pub padding-first : skyline_pack [] nan nan ≡ refused_packing 8

pub proportions : ProportionChecks
unfolding computing box
proportions =
    record {
      ends = refl;
      outside = refl;
      columns_64 = refl;
      rounded_twice = refl;
      rounded_2 = refl;
      rounded_8 = refl;
      columns_1 = refl;
      columns_0 = refl;
      second_row = refl;
      tall = refl;
      wide = refl;
      alone = refl;
      ink_first = refl;
      no_box = refl;
      padding-first = refl;
    }

-- ---- document 02, 4/14: packed rows

-- a row with the marks 1 0 1 1
abbrev pub four_marks : List Bool
four_marks = true ∷ false ∷ true ∷ true ∷ []

abbrev pub in_four : ℕ → Bool
in_four j = get_or four_marks j false

pub record RowChecks : Type 0 where
  -- place j is worth 2^j: 1 + 4 + 8
  pub four-packed : packed_row 4 in_four ≡ 13
  pub four_unpacked : unpacked_row 4 13 ≡ four_marks
  -- what is past the row's width is not packed, and the last place of 64 is
  pub two-packed : packed_row 2 in_four ≡ 1
  pub last_place : packed_row 64 (λ j. eqb j 63) ≡ 0x8000_0000_0000_0000
  pub every_place : packed_row 64 (λ j. true) ≡ 2 ^ 64 - 1
  -- joined: 1 0 1 and 0 1 1 are 1 1 1
  pub either : unpacked_row 3 (bit_or 5 6) ≡ true ∷ true ∷ true ∷ []
  -- in two words of two places, the lowest first
  pub in_words : packed_words 2 2 in_four ≡ 1 ∷ 3 ∷ []
  pub from_words : map (mark_of 2 (1 ∷ 3 ∷ [])) (0 ∷ 1 ∷ 2 ∷ 3 ∷ []) ≡ four_marks
  pub words-joined : joined_words 2 (1 ∷ 2 ∷ []) (2 ∷ 2 ∷ []) ≡ 3 ∷ 2 ∷ []

pub packed_rows : RowChecks
unfolding computing
packed_rows =
    record {
      four-packed = refl;
      four_unpacked = refl;
      two-packed = refl;
      last_place = refl;
      every_place = refl;
      either = refl;
      in_words = refl;
      from_words = refl;
      words-joined = refl;
    }

-- ---- document 02, 5/14: card stock

-- a circle of radius 7 and 1/32: 14 and 1/16 across
abbrev pub fourteen : Circle
fourteen = circle_of nought nought (fin false 225 (negsuc 4)) 1

-- a circle whose radius is the f64 next above 5
abbrev pub past_five : Circle
past_five = circle_of nought nought (of_bits binary64 0x4014_0000_0000_0001) 1

-- two circles in one cluster, whose box is 90 and half a rounding wide
abbrev pub half_past_ninety : List Circle
half_past_ninety = whole_circle 0 0 10 1 ∷ circle_of nought (whole 70) (of_bits binary64 0x4024_0000_0000_0004) 2 ∷ []

-- two circles of diameter 1, so far apart, in one cluster: a sheet 1 tall
abbrev pub in_line : ℕ → List Circle
in_line far = circle_of nought nought half 1 ∷ circle_of (whole far) nought half 2 ∷ []

pub record StockChecks : Type 0 where
  -- "An empty layout costs 0", if its price is one
  pub empty : card_stock [] nought [] [] one 100 ≡ record { refusal = 0; amount = 0 }
  pub empty_unpriced : card_stock [] nought [] [] one 0 ≡ refused_charge 17
  -- 10 by 10, whole already: 100 square millimetres
  pub whole_sides : card_stock (whole_circle 3 4 5 1 ∷ []) nought [] [] one 7 ≡ record { refusal = 0; amount = 7 }
  -- a hair more, so 11 by 11
  pub hair_above : card_stock (past_five ∷ []) nought [] [] one 7 ≡ record { refusal = 0; amount = 14 }
  -- 100 by 1, and 101 by 1
  pub hundred : card_stock (in_line 99) nought (3 ∷ []) (one ∷ []) one 100 ≡ record { refusal = 0; amount = 100 }
  pub hundred_and_one : card_stock (in_line 100) nought (3 ∷ []) (one ∷ []) one 100 ≡ record { refusal = 0; amount = 200 }
  -- each side raised, 15 by 15: the area raised would be 198
  pub sides_raised : card_stock (fourteen ∷ []) nought [] [] one 1 ≡ record { refusal = 0; amount = 3 }
  -- "as `Bounds` computes them", 90 by 21: the exact width would be raised to 91
  pub as_bounds_computes : card_stock half_past_ninety nought (3 ∷ []) (one ∷ []) one 1 ≡ record { refusal = 0; amount = 19 }
  -- the smallest circle costs the price
  pub smallest : card_stock (circle_of nought nought smallest_radius 1 ∷ []) nought [] [] one 9 ≡ record { refusal = 0; amount = 9 }
  -- finished, 4 by 2: the sheet as handed in has 2,004 square millimetres
  pub finished : card_stock (whole_circle 0 0 1 1 ∷ whole_circle 1000 0 1 2 ∷ []) nought [] [] four 100 ≡ record { refusal = 0; amount = 100 }
  -- "1 to 100"
  pub prices : map price_ok (0 ∷ 1 ∷ 100 ∷ 101 ∷ []) ≡ false ∷ true ∷ true ∷ false ∷ []
  pub too_dear : card_stock (whole_circle 0 0 1 1 ∷ []) nought [] [] one 101 ≡ refused_charge 17
  -- "after 16"
  pub proportion_first : card_stock (whole_circle 0 0 1 1 ∷ []) nought [] [] nan 0 ≡ refused_charge 16
  pub ink_first : card_stock (whole_circle 0 0 1 1 ∷ whole_circle 9 0 1 1 ∷ []) nought [] [] nan 0 ≡ refused_charge 14
  -- of an array, the first n
  pub first_one : first_stock 1 (whole_circle 3 4 5 1 ∷ whole_circle 99 0 5 1 ∷ []) nought [] [] one 7 ≡ record { refusal = 0; amount = 7 }
  pub too_many : first_stock 65 [] nan [] [] nan 0 ≡ refused_charge 1

pub stocks : StockChecks
unfolding computing
stocks =
    record {
      empty = refl;
      empty_unpriced = refl;
      whole_sides = refl;
      hair_above = refl;
      hundred = refl;
      hundred_and_one = refl;
      sides_raised = refl;
      as_bounds_computes = refl;
      smallest = refl;
      finished = refl;
      prices = refl;
      too_dear = refl;
      proportion_first = refl;
      ink_first = refl;
      first_one = refl;
      too_many = refl;
    }

-- ---- document 02, 8/14: touch points

abbrev pub whole_point : ℕ → ℕ → Point
whole_point x y = point_at (whole x) (whole y)

-- a circle, a small one inside it, and one far off
abbrev pub three : List Circle
three = whole_circle 0 0 5 1 ∷ whole_circle 3 0 1 2 ∷ whole_circle 100 0 1 3 ∷ []

-- two circles of one ink
abbrev pub alike : List Circle
alike = whole_circle 0 0 5 1 ∷ whole_circle 3 0 1 1 ∷ []

-- as many points as there may be, and as many answers of 7
abbrev pub full_batch : List Point
full_batch = replicate 1024 (whole_point 9 9)

abbrev pub sevens : ℕ → List ℕ
sevens n = replicate n 7

pub record TouchChecks : Type 0 where
  -- on the first one's edge, in two circles, on the edge of the third, in none; "answers beyond the point count are untouched"
  pub four-points : touched three (whole_point 3 4 ∷ whole_point 3 0 ∷ whole_point 100 1 ∷ whole_point 50 50 ∷ []) (sevens 6)
      ≡ record { refusal = 0; answers = 1 ∷ 3 ∷ 4 ∷ 0 ∷ 7 ∷ 7 ∷ [] }
  -- the f64 next above 5 is outside
  pub past_the_edge : touched three (point_at nought (of_bits binary64 0x4014_0000_0000_0001) ∷ []) (sevens 1) ≡ record { refusal = 0; answers = 0 ∷ [] }
  -- no circles, no points
  pub no_circles : touched [] (whole_point 0 0 ∷ []) (sevens 2) ≡ record { refusal = 0; answers = 0 ∷ 7 ∷ [] }
  pub no_points_lem : touched three [] (sevens 2) ≡ record { refusal = 0; answers = sevens 2 }
  -- the last circle of 64 is the highest bit
  pub highest : touched (tab 64 (λ i. whole_circle (10 * i) 0 1 i)) (whole_point 630 0 ∷ []) (sevens 1) ≡ record { refusal = 0; answers = 2 ^ 63 ∷ [] }
  -- "up to 1,024 points"; equal length serves
  pub full : touched [] full_batch (sevens 1024) ≡ record { refusal = 0; answers = replicate 1024 0 }
  pub one_more : touched [] (whole_point 9 9 ∷ full_batch) (sevens 1025) ≡ refused_touch (sevens 1025) 18
  pub short : touched three (whole_point 3 4 ∷ whole_point 3 0 ∷ []) (sevens 1) ≡ refused_touch (sevens 1) 19
  -- "in that order after 17": 18 before 19, and what the circles give before both
  pub many_before_short : touched [] (whole_point 9 9 ∷ full_batch) [] ≡ refused_touch [] 18
  pub ink_before_many : touched alike (whole_point 9 9 ∷ full_batch) [] ≡ refused_touch [] 14
  pub ink_before_short : touched alike (whole_point 9 9 ∷ []) [] ≡ refused_touch [] 14
  -- "Points obey the coordinate range (3)", each of them, and before a radius
  pub bad_point_lem : touched three (whole_point 3 4 ∷ point_at nought nan ∷ []) (sevens 2) ≡ refused_touch (sevens 2) 3
  pub bad_point_past_the_last : touched [] (full_batch ++ whole_point 1048577 0 ∷ []) [] ≡ refused_touch [] 3
  pub point_before_radius : touched (whole_circle 0 0 0 1 ∷ []) (point_at (inf true) nought ∷ []) [] ≡ refused_touch [] 3
  pub bad_radius_lem : touched (whole_circle 0 0 0 1 ∷ []) (whole_point 1048576 0 ∷ []) [] ≡ refused_touch [] 4
  -- of arrays, the first n circles and the first m points
  pub first_ones : first_touched 1 alike 1 (whole_point 3 0 ∷ point_at nan nan ∷ []) (sevens 2) ≡ record { refusal = 0; answers = 1 ∷ 7 ∷ [] }
  pub too_many_by_count : first_touched 65 [] 1 (point_at nan nan ∷ []) [] ≡ refused_touch [] 1
  pub too_many_points_by_count : first_touched 0 [] 1025 full_batch [] ≡ refused_touch [] 18

pub touches : TouchChecks
unfolding computing
touches =
    record {
      four-points = refl;
      past_the_edge = refl;
      no_circles = refl;
      no_points_lem = refl;
      highest = refl;
      full = refl;
      one_more = refl;
      short = refl;
      many_before_short = refl;
      ink_before_many = refl;
      ink_before_short = refl;
      bad_point_lem = refl;
      bad_point_past_the_last = refl;
      point_before_radius = refl;
      bad_radius_lem = refl;
      first_ones = refl;
      too_many_by_count = refl;
      too_many_points_by_count = refl;
    }
