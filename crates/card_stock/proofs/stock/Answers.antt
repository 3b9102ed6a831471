-- `stock` meets its contract: both sides are those of the sheet, and its area is too small for anything to wrap.
use Prim.Native.Nat.{ℕ, ◌*◌, ◌^◌, ◌≤◌, ◌<◌}
use native.Mathlib.Omega.{arith}
use mathlib.Core.Path.{◌≡◌, sym, ◌∙◌}
use mathlib.Core.List.{List}
use lib.Ieee.{Float}
use Rattle.shapes.specs.declared.bounds.Bounds.{Bounds}
use Rattle.shapes.specs.declared.circle.Circle.{Circle}
use Rattle.shapes.specs.Boxes.{width_of, height_of}
use Rattle.scope.specs.CardStock.{sheet, wide, tall, started_hundreds}
use Rattle.packing.specs.Raised.{raised_word}
use Rattle.promises.specs.CardStock.{area_most}
use Rattle.promises.proofs.whole.CardStock.{charge_fits}
use Rattle.card_stock.specs.Sheets.{SheetSmall}
use Rattle.card_stock.proofs.Sheets.{stock_of_none, stock_of_some, none_there, some_there, wide_is, tall_is}
use Rattle.card_stock.proofs.stock.Goals as goal

-- both sides that were worked out are those of the sheet, and its area is small
both_sides : (cs : List Circle) → SheetSmall cs → {b : Bounds} {w h : Float} {x y : ℕ} → b ≡ sheet cs → w ≡ width_of b → h ≡ height_of b → x ≡ raised_word w → y ≡ raised_word h
    → (x ≡ wide cs) × (y ≡ tall cs) × (x * y ≤ area_most)
both_sides cs small {b} {w} {h} {x} {y} box width height across up =
    let wide_side = wide_is cs small b box w x across width in
    let tall_side = tall_is cs small b box h y up height in
    (wide_side, tall_side, rw (wide_side, tall_side) small.1)

pub returns-then-is_empty : goal.returns-then-is_empty
returns-then-is_empty c = stock_of_none _ c.args.cents (none_there _ (sym c.is_empty.ensures ∙ c.if-is_empty.true))

pub overflow_mul-wide : goal.overflow_mul-wide
overflow_mul-wide c =
    let s = both_sides c.args.circles.now (c.requires.0 (some_there _ (sym c.is_empty.ensures ∙ c.if-is_empty.false))) c.sheet-box_of_all.ensures c.width.ensures c.height.ensures c.raised-wide.ensures c.raised-tall.ensures in
    omega (arith, (charge_fits _ c.args.cents s.2 c.requires.1).0)

pub started_hundreds-requires : goal.started_hundreds-requires
started_hundreds-requires c =
    let s = both_sides c.args.circles.now (c.requires.0 (some_there _ (sym c.is_empty.ensures ∙ c.if-is_empty.false))) c.sheet-box_of_all.ensures c.width.ensures c.height.ensures c.raised-wide.ensures c.raised-tall.ensures in
    (charge_fits _ c.args.cents s.2 c.requires.1).0

pub overflow_mul-result : goal.overflow_mul-result
unfolding started_hundreds
overflow_mul-result c =
    let s = both_sides c.args.circles.now (c.requires.0 (some_there _ (sym c.is_empty.ensures ∙ c.if-is_empty.false))) c.sheet-box_of_all.ensures c.width.ensures c.height.ensures c.raised-wide.ensures c.raised-tall.ensures in
    let fits : c.started_hundreds.result * c.args.cents < 2 ^ 64 = rw c.started_hundreds.ensures (charge_fits _ c.args.cents s.2 c.requires.1).1 in
    omega (arith, fits)

pub returns : goal.returns
returns c =
    let s = both_sides c.args.circles.now (c.requires.0 (some_there _ (sym c.is_empty.ensures ∙ c.if-is_empty.false))) c.sheet-box_of_all.ensures c.width.ensures c.height.ensures c.raised-wide.ensures c.raised-tall.ensures in
    rw (c.started_hundreds.ensures, s.0, s.1) (stock_of_some _ c.args.cents (some_there _ (sym c.is_empty.ensures ∙ c.if-is_empty.false)))
