-- Each entry point's number, read off its checks both ways: they stand in the order of the causes, so they run front to back, by computation.
use Prim.Native.Nat.{ℕ, suc}
use native.Mathlib.Omega.{arith}
use mathlib.Core.Logic.{◌≢◌}
use mathlib.Core.Bool.{not, ◌&&◌, ◌||◌, or-false}
use mathlib.Core.List.{List, [], ◌∷◌, ◌++◌}
use lib.ListN.{length}
use lib.Dec.{eqb}
use lib.Ieee.{Float}
use Rattle.shapes.specs.declared.point.Point.{Point}
use Rattle.shapes.specs.declared.circle.Circle.{Circle}
use Rattle.shapes.specs.declared.rectangle.Rectangle.{Rectangle}
use Rattle.scope.specs.Runs.{any}
use Rattle.scope.specs.Limits.{circle_cap}
use Rattle.scope.specs.Refusals.{causes, cause_holds, first, refusal, front_to_back, too_many, unequal, too_many_regions, bad_point, bad_centre, bad_radius, rising, bad_side, bad_padding, same_ink, points_refusal, pair_refusal, circle_point_refusal, circles_refusal, regions_refusal, columns_refusal, pack_refusal, container_refusal, card_checks, card_refusal, layout_checks, layout_refusal, stock_refusal, too_short, writer_refusal, text_refusal, bad_proportion, bad_price, touch_checks, touch_refusal}
use Rattle.scope.specs.Distance.{no_root, root_refusal}
use Rattle.scope.specs.CardFile.{Card, tag, head_cut, body_cut, unknown, wrong_length, misplaced, field_refusal, first_refusal, next_refusal}
use Rattle.laws.specs.BothWays.{Reads}
use Rattle.laws.proofs.FrontToBack.{front_to_back_reads, as_front_to_back, only_for_its_cause}

pub root_reads : (x : Float) → Reads (root_refusal x) ((12, no_root x) ∷ [])
unfolding root_refusal refusal first cause_holds causes front_to_back
root_reads x = as_front_to_back _ tt (simp or-false)

pub points_reads : (p q : Point) → Reads (points_refusal p q) ((3, bad_point p || bad_point q) ∷ [])
unfolding points_refusal refusal first cause_holds causes front_to_back
points_reads p q = as_front_to_back _ tt (simp or-false)

pub pair_reads : (a b : Circle) → Reads (pair_refusal a b) ((3, bad_centre a || bad_centre b) ∷ (4, bad_radius a || bad_radius b) ∷ [])
unfolding pair_refusal refusal first cause_holds causes front_to_back
pair_reads a b = as_front_to_back _ tt (simp or-false)

pub circle_point_reads : (c : Circle) (p : Point) → Reads (circle_point_refusal c p) ((3, bad_centre c || bad_point p) ∷ (4, bad_radius c) ∷ [])
unfolding circle_point_refusal refusal first cause_holds causes front_to_back
circle_point_reads c p = as_front_to_back _ tt (simp or-false)

pub circles_reads : (cs : List Circle) → Reads (circles_refusal cs) ((1, too_many (length cs)) ∷ (3, any bad_centre cs) ∷ (4, any bad_radius cs) ∷ (14, same_ink cs) ∷ [])
unfolding circles_refusal refusal first cause_holds causes front_to_back
circles_reads cs = as_front_to_back _ tt (simp or-false)

pub regions_reads : (n : ℕ) (masks : List ℕ) (areas : List Float)
    → Reads (regions_refusal n masks areas) ((1, too_many n) ∷ (13, unequal masks areas) ∷ (2, too_many_regions (length masks)) ∷ (5, not (rising masks)) ∷ [])
unfolding regions_refusal refusal first cause_holds causes front_to_back
regions_reads n masks areas = as_front_to_back _ tt (simp or-false)

pub columns_reads : (k : ℕ) (proportion : Float) → Reads (columns_refusal k proportion) ((1, too_many k) ∷ (16, bad_proportion proportion) ∷ [])
unfolding columns_refusal refusal first cause_holds causes front_to_back
columns_reads k proportion = as_front_to_back _ tt (simp or-false)

pub pack_reads : (rects : List Rectangle) (padding proportion : Float)
    → Reads (pack_refusal rects padding proportion)
    ((1, too_many (length rects)) ∷ (7, any bad_side rects) ∷ (8, bad_padding padding) ∷ (16, bad_proportion proportion) ∷ [])
unfolding pack_refusal refusal first cause_holds causes front_to_back
pack_reads rects padding proportion = as_front_to_back _ tt (simp or-false)

pub container_reads : (cs : List Circle) (container : Rectangle)
    → Reads (container_refusal cs container)
    ((1, too_many (length cs)) ∷ (3, any bad_centre cs || bad_point container.center) ∷ (4, any bad_radius cs) ∷ (7, bad_side container) ∷ (14, same_ink cs) ∷ [])
unfolding container_refusal refusal first cause_holds causes front_to_back
container_reads cs container = as_front_to_back _ tt (simp or-false)

pub card_reads : (cs : List Circle) (factor : Float) (masks : List ℕ) (areas : List Float)
    → Reads (card_refusal cs factor masks areas) (card_checks cs factor masks areas)
unfolding card_refusal refusal first cause_holds causes front_to_back
card_reads cs factor masks areas = as_front_to_back _ tt (simp or-false)

pub layout_reads : (cs : List Circle) (factor : Float) (masks : List ℕ) (areas : List Float) (proportion : Float)
    → Reads (layout_refusal cs factor masks areas proportion) (layout_checks cs factor masks areas proportion)
unfolding layout_refusal refusal first cause_holds causes front_to_back
layout_reads cs factor masks areas proportion = as_front_to_back _ tt (simp or-false)

pub stock_reads : (cs : List Circle) (factor : Float) (masks : List ℕ) (areas : List Float) (proportion : Float) (cents : ℕ)
    → Reads (stock_refusal cs factor masks areas proportion cents) (layout_checks cs factor masks areas proportion ++ (17, bad_price cents) ∷ [])
unfolding stock_refusal refusal first cause_holds causes front_to_back
stock_reads cs factor masks areas proportion cents = as_front_to_back _ tt (simp or-false)

pub writer_reads : (cs : List Circle) (factor : Float) (masks : List ℕ) (areas : List Float) (room size : ℕ)
    → Reads (writer_refusal cs factor masks areas room size) (card_checks cs factor masks areas ++ (15, too_short room size) ∷ [])
unfolding writer_refusal refusal first cause_holds causes front_to_back
writer_reads cs factor masks areas room size = as_front_to_back _ tt (simp or-false)

pub text_reads : (room size : ℕ) → Reads (text_refusal room size) ((15, too_short room size) ∷ [])
unfolding text_refusal refusal first cause_holds causes front_to_back
text_reads room size = as_front_to_back _ tt (simp or-false)

pub touch_reads : (cs : List Circle) (ps : List Point) (m room : ℕ) → Reads (touch_refusal cs ps m room) (touch_checks cs ps m room)
unfolding touch_refusal refusal first cause_holds causes front_to_back
touch_reads cs ps m room = as_front_to_back _ tt (simp or-false)

-- ---- the card file: each call's checks run front to back as they stand

pub field_reads : (rest : List ℕ)
    → Reads (field_refusal rest) ((11, head_cut rest) ∷ (9, unknown (tag rest)) ∷ (10, wrong_length rest) ∷ (11, body_cut rest) ∷ [])
unfolding field_refusal
field_reads rest = front_to_back_reads _ tt

pub first_field_reads : (file : List ℕ)
    → Reads (first_refusal file) ((9, eqb (length file) 0) ∷ (11, head_cut file) ∷ (9, not (eqb (tag file) 1)) ∷ (10, wrong_length file) ∷ (11, body_cut file) ∷ [])
unfolding first_refusal
first_field_reads file = front_to_back_reads _ tt

pub next_field_reads : (card : Card) (rest : List ℕ)
    → Reads (next_refusal card rest)
    ((11, head_cut rest) ∷ (9, misplaced card (tag rest)) ∷ (1, eqb (tag rest) 2 && too_many (suc (length card.circles)))
    ∷ (2, eqb (tag rest) 3 && too_many_regions (suc (length card.masks))) ∷ (10, wrong_length rest) ∷ (11, body_cut rest) ∷ [])
unfolding next_refusal
next_field_reads card rest = front_to_back_reads _ tt

-- two circles are never "too many"
pub two_circles_not_1 : (a b : Circle) (factor : Float) (masks : List ℕ) (areas : List Float) (proportion : Float)
    → layout_refusal (a ∷ b ∷ []) factor masks areas proportion ≢ 1
unfolding cause_holds too_many circle_cap
two_circles_not_1 a b factor masks areas proportion e = only_for_its_cause (layout_reads (a ∷ b ∷ []) factor masks areas proportion) 1 (omega arith) e
