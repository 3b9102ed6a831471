-- Card stock at document 01's numbers: a column or a row of an accepted layout's sheet takes at most 2^26 + 2^23 + 1 mm, so the charge stays below 2^59 cents: a
-- price of at most 100 undoes the division by 100.
use Prim.Native.Nat.{ℕ, ◌+◌, ◌*◌, ◌/◌, ◌^◌, ◌≤◌, ◌<◌}
use native.Mathlib.Nat.{le_trans, lt_of_le_of_lt, mul-le-mul_left, div-mul-le_self}
use native.Mathlib.Omega.{arith}
use mathlib.Core.Path.{◌≡◌, ap, ◌∙◌}
use mathlib.Core.List.{List, [], ◌∷◌}
use lib.Dec.{T, leb, leb→le, lit≤}
use lib.ListN.{length}
use lib.Ieee.{Float, binary64, fits}
use Rattle.algebra.specs.Integer.{Z, nat, ◌≼◌, ◌≺◌}
use Rattle.rounding.specs.Scale.{pow2}
use Rattle.shapes.specs.declared.circle.Circle.{Circle}
use Rattle.scope.specs.Limits.{circle_cap, factor_ok, proportion_ok, price_ok}
use Rattle.scope.specs.Refusals.{card_refusal, layout_refusal}
use Rattle.scope.specs.Links.{regions, circle}
use Rattle.scope.specs.Groups.{Clusters}
use Rattle.scope.specs.Padding.{boxes, padding}
use Rattle.scope.specs.Layout.{Layout, arranged, layout}
use Rattle.scope.specs.CardStock.{wide, tall, started_hundreds, stock_for}
use Rattle.scope.specs.Promises.{units}
use Rattle.promises.specs.Demand3.{AreDoubles}
use Rattle.promises.specs.CardStock.{SheetFits, lines_most, line_most, area_most, EverySheetFits, EveryChargeFits}
use Rattle.laws.specs.Limits.{WithinLimits}
use Rattle.laws.proofs.Cases.{and_iff}
use Rattle.laws.proofs.Accepted.{within_limits, layout_accepted_iff}
use Rattle.laws.proofs.AfterRefusal.{layout-answers}
use Rattle.promises.proofs.numbers.InRange.{radius_bounded, radius_at_least}
use Rattle.promises.proofs.offset.AfterOffset.{offset-length}
use Rattle.promises.proofs.packing.Proportions.{Proportion, proportion_is, grid_fits_64}
use Rattle.promises.proofs.packing.Returned.{returned}
use Rattle.promises.proofs.packing.Sheet.{SheetBudget, sheet-fits, sheet_area_at_most}
use Rattle.promises.proofs.whole.SixtyFour.{Gauged64, few_clusters, proportion_arranged_64}
use Rattle.promises.proofs.whole.Demand3.{accepted_handed_over}
use Rattle.promises.proofs.whole.Lengths.{gauged-length, arranged-length}

-- ---- the sheet
sheet_budget64 : SheetBudget 35 37 38 23 3 lines_most (pow2 80) 38 (pow2 90) line_most
unfolding pow2
sheet_budget64 = record { te = tt; centres = lit≤ tt; ends = lit≤ tt; one_line = lit≤ tt; all_lines = lit≤ tt }

-- of what the gauge hands over
sheet_fits_64 : {g : Clusters} {cs : List Circle} → Gauged64 g cs → (factor : Float) → T (fits binary64 factor) → T (factor_ok factor) → (proportion : Float) → Proportion proportion → 0 < length cs
    → SheetFits lines_most line_most (returned proportion g.count g.numbers cs (padding (boxes g.count g.numbers cs) factor))
sheet_fits_64 {g} {cs} G factor fit ok proportion P some =
    let counted : 0 < g.count = omega (arith, G.numbering.inside 0 some) in
    sheet-fits sheet_budget64 (proportion_arranged_64 G factor fit ok proportion P) (grid_fits_64 g.count counted (few_clusters G) proportion P) counted G.numbering.few
    (λ j l. radius_bounded (circle cs j).radius (G.radius-fits j l) (G.radius_ok_lem j l))
    (λ j l. above (units (circle cs j).radius) (radius_at_least (circle cs j).radius (G.radius-fits j l) (G.radius_ok_lem j l)))
  where
    apart : pow2 38 < pow2 40
    apart = unfold pow2 in lit≤ tt

    above : (r : Z) → nat (pow2 40) ≼ r → nat (pow2 38) ≺ r
    above r h = omega (arith, apart)

-- of an accepted call
module _ (cs : List Circle) (factor : Float) (masks : List ℕ) (areas : List Float) (proportion : Float) (accepted : layout_refusal cs factor masks areas proportion ≡ 0) where
  inside : (card_refusal cs factor masks areas ≡ 0) × T (proportion_ok proportion)
  inside = (layout_accepted_iff cs factor masks areas proportion).0 accepted

  limits : WithinLimits cs factor masks areas
  limits = within_limits cs factor masks areas inside.0

  circles_are : (layout cs factor masks areas proportion).circles ≡ (arranged proportion cs factor (regions masks areas)).circles
  circles_are = ap (λ (l : Layout). l.circles) ((layout-answers cs factor masks areas proportion).on_acceptance accepted)

  none_lost : length (layout cs factor masks areas proportion).circles ≡ length cs
  none_lost = ap length circles_are ∙ arranged-length proportion cs factor (regions masks areas)

  layout_sheet_fits : AreDoubles cs factor → T (fits binary64 proportion) → 0 < length cs → SheetFits lines_most line_most (layout cs factor masks areas proportion).circles
  layout_sheet_fits d fit some =
      rw circles_are
      (unfold arranged in sheet_fits_64 (accepted_handed_over cs factor masks areas d limits) factor d.factor limits.factor-inside proportion (proportion_is proportion fit inside.1) (rw (gauged-length, offset-length) some))

  few_circles : length (layout cs factor masks areas proportion).circles ≤ circle_cap
  few_circles = rw none_lost limits.few_circles

pub every_sheet_fits : EverySheetFits
unfolding EverySheetFits area_most
every_sheet_fits cs factor masks areas proportion d fit h some =
    let S = layout_sheet_fits cs factor masks areas proportion h d fit some in
    (S, sheet_area_at_most circle_cap S (few_circles cs factor masks areas proportion h))

-- ---- the charge
module _ (area cents : ℕ) (few : area ≤ area_most) (ok : T (price_ok cents)) where
  area-below : area + 99 < 2 ^ 59
  area-below = lt_of_le_of_lt (more few) closed
    where
      more : {a b : ℕ} → a ≤ b → a + 99 ≤ b + 99
      more {a} {b} h = omega arith

      closed : area_most + 99 < 2 ^ 59
      closed = unfold area_most circle_cap in lit≤ tt

  charge_below : (area + 99) / 100 * cents < 2 ^ 59
  charge_below = lt_of_le_of_lt (le_trans (mul-le-mul_left ((area + 99) / 100) cheap) (div-mul-le_self (area + 99) 100)) area-below
    where
      cheap : cents ≤ 100
      cheap = unfold price_ok in leb→le cents 100 ((and_iff (leb 1 cents) (leb cents 100)).0 ok).1

  -- neither the sum nor the product on the way passes 64 bits
  pub charge_fits : (area + 99 < 2 ^ 64) × ((area + 99) / 100 * cents < 2 ^ 64)
  charge_fits = (omega (arith, area-below), omega (arith, charge_below))

stock_below : (cs : List Circle) (cents : ℕ) → T (price_ok cents) → (0 < length cs → wide cs * tall cs ≤ area_most) → stock_for cs cents < 2 ^ 59
unfolding stock_for started_hundreds
stock_below [] cents ok few = lit≤ tt
stock_below (c ∷ cs) cents ok few = charge_below (wide (c ∷ cs) * tall (c ∷ cs)) cents (few (omega arith)) ok

pub every_charge_fits : EveryChargeFits
unfolding EveryChargeFits EverySheetFits
every_charge_fits cs factor masks areas proportion d fit h cents ok =
    stock_below (layout cs factor masks areas proportion).circles cents ok (λ some. (every_sheet_fits cs factor masks areas proportion d fit h (rw (none_lost cs factor masks areas proportion h) at some)).1)
