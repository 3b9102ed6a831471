-- Document 01, "first a by-value layout, then a thin call over the lent records": the calls on the first n records of an array of 64. A count above the cap
-- gives 1 and no record is looked at; records at or past the count are neither checked nor changed; after a refusal the records come back as given.
use Rattle.std.specs.Prelude.{ℕ, cond, List, ◌++◌, take, drop, Float}
use Rattle.shapes.specs.declared.point.Point.{Point}
use Rattle.shapes.specs.declared.circle.Circle.{Circle}
use Rattle.shapes.specs.declared.rectangle.Rectangle.{Rectangle}
use Rattle.scope.specs.Refusals.{too_many}
use Rattle.scope.specs.Groups.{Grouping, refused_grouping, plain_grouping}
use Rattle.scope.specs.Packing.{Packing, refused_packing, skyline_pack}
use Rattle.scope.specs.Container.{Contained, refused_container, contained}
use Rattle.scope.specs.Layout.{Layout, layout, refused_layout}
use Rattle.scope.specs.CardStock.{Charge, refused_charge, card_stock}
use Rattle.scope.specs.Touch.{Touched, refused_touch, counted_touch}
use Rattle.scope.specs.Saving.{Saved, refused_saving, card_of, write_card}

-- what is answered of n records, unless there are too many
abbrev pub unless_many : {X : Type 0} → ℕ → X → X → X
unless_many n bad good = cond (too_many n) bad good

-- ---- `find_clusters`

-- the plain clustering of circles that are n by count; a count above the cap is refused, and no circle looked at
unfoldable pub counted_grouping : ℕ → List Circle → Grouping
counted_grouping n cs = unless_many n (refused_grouping 1) (plain_grouping cs)

-- of the first n circles of an array
abbrev pub first_grouping : ℕ → List Circle → Grouping
first_grouping n cs = counted_grouping n (take n cs)

-- ---- `skyline_pack`: the first n boxes of an array packed
unfoldable pub first_packing : ℕ → List Rectangle → Float → Float → Packing
first_packing n rects padding proportion = unless_many n (refused_packing 1) (skyline_pack (take n rects) padding proportion)

-- ---- the whole layout of the first n circles of an array, and the circles past them as they were

abbrev pub with_others : ℕ → List Circle → Layout → Layout
with_others n cs l = record { result = l.result; circles = l.circles ++ drop n cs }

unfoldable pub first_layout : ℕ → List Circle → Float → List ℕ → List Float → Float → Layout
first_layout n cs factor masks areas proportion =
    unless_many n (refused_layout 1 cs) (with_others n cs (layout (take n cs) factor masks areas proportion))

-- ---- `normalize_layout_with_container`, likewise

abbrev pub with_rest : ℕ → List Circle → Contained → Contained
with_rest n cs r = record { refusal = r.refusal; container = r.container; circles = r.circles ++ drop n cs }

unfoldable pub first_contained : ℕ → List Circle → Rectangle → Contained
first_contained n cs container = unless_many n (refused_container cs container 1) (with_rest n cs (contained (take n cs) container))

-- ---- `write_card`: the card of the first n circles of an array
unfoldable pub first_written : ℕ → List Circle → Float → List ℕ → List ℕ → List ℕ → Saved
first_written n cs factor masks patterns out = unless_many n (refused_saving out 1) (write_card (card_of factor (take n cs) masks patterns) out)

-- ---- `card_stock`: the charge for the layout of the first n circles of an array
unfoldable pub first_stock : ℕ → List Circle → Float → List ℕ → List Float → Float → ℕ → Charge
first_stock n cs factor masks areas proportion cents = unless_many n (refused_charge 1) (card_stock (take n cs) factor masks areas proportion cents)

-- ---- `touch_points`: the first m points of an array over the first n circles of another. A count of points above the cap gives 18, unless a circle or a point of
-- the array is refused before.
unfoldable pub first_touched : ℕ → List Circle → ℕ → List Point → List ℕ → Touched
first_touched n cs m ps out = unless_many n (refused_touch out 1) (counted_touch m (take n cs) (take m ps) out)
