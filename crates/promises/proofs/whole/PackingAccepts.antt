-- The packing refuses no accepted layout: its clusters' sides and its padding are within the packing's ranges, as the proportion is.
use Prim.Native.Nat.{ℕ, ◌<◌}
use native.Mathlib.Omega.{arith}
use mathlib.Core.Path.{◌≡◌}
use mathlib.Core.Bool.{false, ◌&&◌}
use mathlib.Core.List.{List}
use lib.Dec.{T}
use lib.IntN.{pos}
use lib.Ieee.{Float, fin, binary64, fits}
use lib.ListN.{length}
use Rattle.algebra.specs.Integer.{Z, nat, Within, ◌≼◌}
use Rattle.rounding.specs.Value.{mag, negative, val, Fin}
use Rattle.rounding.specs.Scale.{pow2}
use Rattle.shapes.specs.declared.circle.Circle.{Circle}
use Rattle.shapes.specs.declared.rectangle.Rectangle.{Rectangle}
use Rattle.scope.specs.Limits.{circle_cap, side_ok, padding_ok, factor_ok, proportion_ok}
use Rattle.scope.specs.Links.{regions}
use Rattle.scope.specs.Refusals.{bad_side, bad_padding, pack_refusal}
use Rattle.scope.specs.Groups.{Clusters, clusters}
use Rattle.scope.specs.Tolerance.{tolerance}
use Rattle.scope.specs.Offset.{offset}
use Rattle.scope.specs.Gauge.{gauged}
use Rattle.scope.specs.Packing.{no_rectangle, rectangle}
use Rattle.scope.specs.Padding.{boxes, padding}
use Rattle.scope.specs.Promises.{units}
use Rattle.promises.specs.Demand3.{AreDoubles}
use Rattle.laws.proofs.Cases.{and_iff, not_iff}
use Rattle.laws.proofs.Runs.{any_at}
use Rattle.laws.specs.Limits.{WithinLimits}
use Rattle.laws.proofs.Accepted.{not_too_many_iff, not_bad_proportion_iff}
use Rattle.laws.proofs.EntryPoints.{pack_reads}
use Rattle.promises.proofs.numbers.Bounded.{Bounded, Upto, not_below}
use Rattle.promises.proofs.numbers.InRange.{passes_from_nought}
use Rattle.promises.proofs.packing.PackedCircles.{boxes-length}
use Rattle.promises.proofs.whole.SixtyFour.{Gauged64, few_clusters, width_64, height_64, padding_64, padding_not_negative_64}
use Rattle.promises.proofs.whole.Demand3.{accepted_handed_over}

upper : {b : ℕ} {x : Z} → Within x b → x ≼ nat b
upper {b} {x} h = omega arith

side_passes : (x : Float) → Upto (pow2 83) x → T (side_ok x)
unfolding side_ok Fin fits val mag negative pow2
side_passes x h = passes_from_nought (fin false 1 (pos 23)) x tt h.fin (not_below x h.sign) (upper h.within)

padding-passes : (x : Float) → Bounded (pow2 86) x → nat 0 ≼ units x → T (padding_ok x)
unfolding padding_ok Fin fits val mag negative pow2
padding-passes x h low = passes_from_nought (fin false 1 (pos 26)) x tt h.fin low (upper h.within)

-- ---- of what the gauge hands over
module _ {g : Clusters} {cs : List Circle} (G : Gauged64 g cs) (factor : Float) (fit : T (fits binary64 factor)) (ok : T (factor_ok factor)) where
  abbrev rects : List Rectangle
  rects = boxes g.count g.numbers cs

  sides_pass : (a : ℕ) → a < length rects → ¬ T (bad_side (rectangle rects a))
  unfolding bad_side
  sides_pass a l t =
      let below : a < g.count = rw (boxes-length g.count g.numbers cs) at l in
      (not_iff (side_ok (rectangle rects a).width && side_ok (rectangle rects a).height)).0 t
      ((and_iff (side_ok (rectangle rects a).width) (side_ok (rectangle rects a).height)).1 (side_passes _ (width_64 G factor fit ok a below), side_passes _ (height_64 G factor fit ok a below)))

  pub packing_accepts : (proportion : Float) → T (proportion_ok proportion) → pack_refusal rects (padding rects factor) proportion ≡ 0
  unfolding bad_padding circle_cap
  packing_accepts proportion inside =
      (pack_reads rects (padding rects factor) proportion).accepted.1 (
        (not_too_many_iff (length rects)).1 (rw (boxes-length g.count g.numbers cs) (few_clusters G)),
        (
          λ t. let e = (any_at bad_side rects no_rectangle).0 t in sides_pass e.0 e.1 e.2,
          (λ t. (not_iff (padding_ok (padding rects factor))).0 t (padding-passes _ (padding_64 G factor fit ok) (padding_not_negative_64 G factor fit ok)), ((not_bad_proportion_iff proportion).1 inside, tt)),
        ),
      )

-- ---- of a call within the limits
pub layout-packs : (cs : List Circle) (factor : Float) (masks : List ℕ) (areas : List Float) (proportion : Float) → AreDoubles cs factor
    → WithinLimits cs factor masks areas → T (proportion_ok proportion)
    → let rs = regions masks areas in let g = clusters (length cs) rs (tolerance rs) in let turned = gauged g.count g.numbers (offset cs rs).circles in
    pack_refusal (boxes g.count g.numbers turned) (padding (boxes g.count g.numbers turned) factor) proportion ≡ 0
layout-packs cs factor masks areas proportion d a inside = packing_accepts (accepted_handed_over cs factor masks areas d a) factor d.factor a.factor-inside proportion inside
