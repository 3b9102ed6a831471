-- Document 01, "Packing and centring": "Then `center_layout`".
use Rattle.std.specs.Prelude.{List, length, Float}
use Rattle.std.specs.Float.Ieee.{neg}
use Rattle.shapes.specs.declared.circle.Circle.{Circle}
use Rattle.scope.specs.Runs.{tab, always}
use Rattle.scope.specs.Links.{circle}
use Rattle.scope.specs.Offset.{translated}
use Rattle.scope.specs.Gauge.{middle_x, middle_y}
use Rattle.scope.specs.Padding.{box_all}

-- every circle translated by (dx, dy)
unfoldable pub all_translated : Float → Float → List Circle → List Circle
all_translated dx dy cs = tab (length cs) (λ i. translated (circle cs i) dx dy)

-- the middle of the box of all circles goes to the origin
unfoldable pub centred_layout : List Circle → List Circle
centred_layout cs =
    let box = box_all always cs in
    all_translated (neg (middle_x box)) (neg (middle_y box)) cs
