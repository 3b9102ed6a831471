-- Lets one say what each call by value checks: first its count, then the first n records of the array and nothing past them.
use Rattle.std.specs.Prelude.{ℕ, not, ◌||◌, List, [], ◌∷◌, ◌++◌, map, length, take, Float}
use Rattle.shapes.specs.declared.point.Point.{Point}
use Rattle.shapes.specs.declared.circle.Circle.{Circle}
use Rattle.shapes.specs.declared.rectangle.Rectangle.{Rectangle}
use Rattle.scope.specs.Runs.{any}
use Rattle.scope.specs.Refusals.{Checks, too_many, unequal, too_many_regions, bad_point, bad_centre, bad_radius, rising}
use Rattle.scope.specs.Refusals.{bad_factor, bad_side, bad_padding, same_ink, too_short, bad_proportion, bad_price, too_many_points, too_few_answers}
use Rattle.scope.specs.CardFile.{float_of}
use Rattle.scope.specs.Saving.{file_of, card_of}

-- `find_clusters`
abbrev pub first_circles_checks : ℕ → List Circle → Checks
first_circles_checks n cs = (1, too_many n) ∷ (3, any bad_centre (take n cs)) ∷ (4, any bad_radius (take n cs)) ∷ (14, same_ink (take n cs)) ∷ []

-- packing
abbrev pub first_pack_checks : ℕ → List Rectangle → Float → Float → Checks
first_pack_checks n rects padding proportion =
    (1, too_many n) ∷ (7, any bad_side (take n rects)) ∷ (8, bad_padding padding) ∷ (16, bad_proportion proportion) ∷ []

-- `normalize_layout_with_container`
abbrev pub first_container_checks : ℕ → List Circle → Rectangle → Checks
first_container_checks n cs container =
    (1, too_many n) ∷ (3, any bad_centre (take n cs) || bad_point container.center) ∷ (4, any bad_radius (take n cs)) ∷ (7, bad_side container)
    ∷ (14, same_ink (take n cs)) ∷ []

-- a card's values
abbrev pub first_card_checks : ℕ → List Circle → Float → List ℕ → List Float → Checks
first_card_checks n cs factor masks areas =
    (1, too_many n) ∷ (13, unequal masks areas) ∷ (2, too_many_regions (length masks)) ∷ (3, any bad_centre (take n cs)) ∷ (4, any bad_radius (take n cs))
    ∷ (5, not (rising masks)) ∷ (6, bad_factor factor) ∷ (14, same_ink (take n cs)) ∷ []

-- the whole layout
abbrev pub first_layout_checks : ℕ → List Circle → Float → List ℕ → List Float → Float → Checks
first_layout_checks n cs factor masks areas proportion = first_card_checks n cs factor masks areas ++ (16, bad_proportion proportion) ∷ []

-- the charge for card stock
abbrev pub first_stock_checks : ℕ → List Circle → Float → List ℕ → List Float → Float → ℕ → Checks
first_stock_checks n cs factor masks areas proportion cents = first_layout_checks n cs factor masks areas proportion ++ (17, bad_price cents) ∷ []

-- `touch_points`: of the first m points of an array, and a list of `room` answers
abbrev pub first_touch_checks : ℕ → List Circle → ℕ → List Point → ℕ → Checks
first_touch_checks n cs m ps room =
    (1, too_many n) ∷ (3, any bad_centre (take n cs) || any bad_point (take m ps)) ∷ (4, any bad_radius (take n cs)) ∷ (14, same_ink (take n cs))
    ∷ (18, too_many_points m) ∷ (19, too_few_answers room m) ∷ []

-- `write_card`: an area is that of its pattern, and the size that of the file of the first n circles
abbrev pub first_writer_checks : ℕ → List Circle → Float → List ℕ → List ℕ → List ℕ → Checks
first_writer_checks n cs factor masks patterns out =
    first_card_checks n cs factor masks (map float_of patterns)
    ++ (15, too_short (length out) (length (file_of (card_of factor (take n cs) masks patterns)))) ∷ []
