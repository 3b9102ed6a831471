-- Document 02, 1/14: ink numbers travel with circles. Every step carries the inks, and what a call hands back has the inks that it was handed, in order.
use Rattle.std.specs.Prelude.{ℕ, ◌≡◌, Bool, List, Float}
use Rattle.shapes.specs.declared.point.Point.{Point}
use Rattle.shapes.specs.declared.circle.Circle.{Circle}
use Rattle.shapes.specs.declared.rectangle.Rectangle.{Rectangle}
use Rattle.shapes.specs.Lift.{moved_to}
use Rattle.scope.specs.Refusals.{inks, layout_refusal, container_refusal}
use Rattle.scope.specs.Links.{Region}
use Rattle.scope.specs.Groups.{plain_clusters}
use Rattle.scope.specs.Offset.{translated, offset}
use Rattle.scope.specs.Gauge.{Turn, rotated, turned, mirror_x, mirror_y, mirrored, gauged}
use Rattle.scope.specs.Padding.{shift, pack_clusters}
use Rattle.scope.specs.Centring.{centred_layout}
use Rattle.scope.specs.Container.{settled, contained}
use Rattle.scope.specs.Layout.{arranged, layout}
use Rattle.scope.specs.Twins.{first_layout, first_contained}
use Rattle.laws.specs.Inks.{inked, Carries, CarriesAll, Blind}

pub record InksTravel : Type 0 where
  -- "Every move, turn and mirror carries it through": one circle moved, turned about a pivot, mirrored on either axis, shifted with its cluster's box
  pub one-moved : (x y : Float) → Carries (λ c. moved_to c x y)
  pub one-translated : (dx dy : Float) → Carries (λ c. translated c dx dy)
  pub one-turned : (t : Turn) (pivot : Point) → Carries (rotated t pivot)
  pub one-mirrored_x : (m : Float) → Carries (mirror_x m)
  pub one-mirrored_y : (m : Float) → Carries (mirror_y m)
  pub one_shifted : (old new : Rectangle) → Carries (shift old new)
  -- "the layout otherwise comes out as before": so every step of all circles, and the clusters by how the circles lie do not look at the inks
  pub after_offset : (rs : List Region) → CarriesAll (λ cs. (offset cs rs).circles)
  pub moved-mask : (rs : List Region) → Blind (λ cs. (offset cs rs).mask)
  pub after_turn : (member : ℕ → Bool) (i j : ℕ) → CarriesAll (turned member i j)
  pub after_mirrors : (member : ℕ → Bool) (i : ℕ) → CarriesAll (mirrored member i)
  pub after_gauge : (count : ℕ) (numbers : List ℕ) → CarriesAll (gauged count numbers)
  pub after_packing : (proportion : Float) (numbers : List ℕ) (rects : List Rectangle) (pad : Float) → CarriesAll (pack_clusters proportion numbers rects pad)
  pub after_centring : CarriesAll centred_layout
  pub in_container_lem : (container : Rectangle) → CarriesAll (λ cs. (settled container cs).circles)
  pub plain_clusters_same : Blind plain_clusters
  pub whole-circles : (proportion factor : Float) (rs : List Region) → CarriesAll (λ cs. (arranged proportion cs factor rs).circles)
  pub whole-result : (proportion factor : Float) (rs : List Region) → Blind (λ cs. (arranged proportion cs factor rs).result)
  -- so two accepted layouts of the same circles with other inks differ in the inks alone, and so do two in a container
  pub layout_as_before : (is js : List ℕ) (cs : List Circle) (factor : Float) (masks : List ℕ) (areas : List Float) (proportion : Float)
      → layout_refusal (inked is cs) factor masks areas proportion ≡ 0 → layout_refusal (inked js cs) factor masks areas proportion ≡ 0
      → ((layout (inked is cs) factor masks areas proportion).result ≡ (layout (inked js cs) factor masks areas proportion).result)
      × ((layout (inked is cs) factor masks areas proportion).circles ≡ inked is (layout (inked js cs) factor masks areas proportion).circles)
  pub container_as_before : (is js : List ℕ) (cs : List Circle) (container : Rectangle)
      → container_refusal (inked is cs) container ≡ 0 → container_refusal (inked js cs) container ≡ 0
      → (contained (inked is cs) container).circles ≡ inked is (contained (inked js cs) container).circles
  -- each call that rewrites circles, accepted or refused: the inks are those handed in, in order
  pub layout_keeps : (cs : List Circle) (factor : Float) (masks : List ℕ) (areas : List Float) (proportion : Float)
      → inks (layout cs factor masks areas proportion).circles ≡ inks cs
  pub container_keeps : (cs : List Circle) (container : Rectangle) → inks (contained cs container).circles ≡ inks cs
  pub first_layout_keeps : (n : ℕ) (cs : List Circle) (factor : Float) (masks : List ℕ) (areas : List Float) (proportion : Float)
      → inks (first_layout n cs factor masks areas proportion).circles ≡ inks cs
  pub first_container_keeps : (n : ℕ) (cs : List Circle) (container : Rectangle) → inks (first_contained n cs container).circles ≡ inks cs
