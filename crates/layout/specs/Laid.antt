-- The last steps of a layout, and what they ask.
use Rattle.std.specs.Prelude.{ℕ, ◌≡◌, List, Float}
use Rattle.shapes.specs.declared.circle.Circle.{Circle}
use Rattle.scope.specs.Refusals.{pack_refusal}
use Rattle.scope.specs.Padding.{boxes, padding, pack_clusters}
use Rattle.scope.specs.Centring.{centred_layout}

-- the boxes and the padding of these clusters, and the proportion, are within the packing's ranges
abbrev pub WithinPacking : ℕ → List ℕ → List Circle → Float → Float → Type 0
WithinPacking count numbers cs factor proportion = pack_refusal (boxes count numbers cs) (padding (boxes count numbers cs) factor) proportion ≡ 0

-- the clusters packed, and then the whole centred
abbrev pub packed_clusters : Float → ℕ → List ℕ → Float → List Circle → List Circle
packed_clusters proportion count numbers factor cs = pack_clusters proportion numbers (boxes count numbers cs) (padding (boxes count numbers cs) factor) cs

abbrev pub settled_clusters : Float → ℕ → List ℕ → Float → List Circle → List Circle
settled_clusters proportion count numbers factor cs = centred_layout (packed_clusters proportion count numbers factor cs)
