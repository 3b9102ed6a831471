-- Document 01, the whole layout: `normalize_layout_with_clusters` with areas given, and the result record.
use Rattle.std.specs.Prelude.{ℕ, zero, suc, List, [], length, Float}
use Rattle.shapes.specs.declared.circle.Circle.{Circle}
use Rattle.scope.specs.Numbers.{nought}
use Rattle.scope.specs.Runs.{filled}
use Rattle.scope.specs.Limits.{circle_cap}
use Rattle.scope.specs.Refusals.{layout_refusal}
use Rattle.scope.specs.Links.{Region, regions}
use Rattle.scope.specs.Groups.{clusters}
use Rattle.scope.specs.Tolerance.{tolerance}
use Rattle.scope.specs.Offset.{offset}
use Rattle.scope.specs.Gauge.{gauged}
use Rattle.scope.specs.Padding.{boxes, padding, pack_clusters}
use Rattle.scope.specs.Centring.{centred_layout}

-- "Result: refusal number (0 if accepted), cluster count, one cluster number per circle, moved mask, padding."
pub record Result : Type 0 where
  pub refusal : ℕ
  pub count : ℕ
  pub numbers : List ℕ
  pub moved : ℕ
  pub padding : Float

-- the result, and the circles as the call leaves them
pub record Layout : Type 0 where
  pub result : Result
  pub circles : List Circle

-- offset, clusters, gauge, packing, centring
unfoldable pub arranged : Float → List Circle → Float → List Region → Layout
arranged proportion cs factor rs =
    let m = offset cs rs in
    let g = clusters (length cs) rs (tolerance rs) in
    let turned = gauged g.count g.numbers m.circles in
    let bs = boxes g.count g.numbers turned in
    let pad = padding bs factor in
    record {
      result = record { refusal = 0; count = g.count; numbers = filled circle_cap 0 g.numbers; moved = m.mask; padding = pad };
      circles = centred_layout (pack_clusters proportion g.numbers bs pad turned);
    }

-- "number, rest 0", and "Left as it was: all circles"
unfoldable pub refused_layout : ℕ → List Circle → Layout
refused_layout k cs = record { result = record { refusal = k; count = 0; numbers = filled circle_cap 0 []; moved = 0; padding = nought }; circles = cs }

unfoldable pub if_accepted : ℕ → List Circle → Layout → Layout
if_accepted zero cs l = l
if_accepted (suc k) cs l = refused_layout (suc k) cs

unfoldable pub layout : List Circle → Float → List ℕ → List Float → Float → Layout
layout cs factor masks areas proportion =
    let l = arranged proportion cs factor (regions masks areas) in
    if_accepted (layout_refusal cs factor masks areas proportion) cs l
