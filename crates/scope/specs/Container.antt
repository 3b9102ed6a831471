-- Document 01, "Container and bounds.rs": `normalize_layout_with_container`. "The container is returned by value with the number."
use Rattle.std.specs.Prelude.{ℕ, zero, suc, Bool, ◌&&◌, ◌||◌, cond, List, eqb, length}
use Rattle.std.specs.Float.Ieee.{neg}
use Rattle.rounding.specs.Extremes.{maximum}
use Rattle.shapes.specs.declared.bounds.Bounds.{Bounds}
use Rattle.shapes.specs.declared.circle.Circle.{Circle}
use Rattle.shapes.specs.declared.rectangle.Rectangle.{Rectangle}
use Rattle.scope.specs.Numbers.{◌+ᶠ◌, ◌-ᶠ◌, ◌*ᶠ◌, ◌/ᶠ◌, ◌<ᶠ◌, nought, one, two, e_9, e_12, abs}
use Rattle.scope.specs.Runs.{always}
use Rattle.scope.specs.Refusals.{container_refusal}
use Rattle.shapes.specs.Records.{point_at, rectangle_of}
use Rattle.scope.specs.Gauge.{middle_x, middle_y}
use Rattle.scope.specs.Padding.{box_all}
use Rattle.scope.specs.Centring.{all_translated}

pub record Contained : Type 0 where
  pub refusal : ℕ
  pub container : Rectangle
  pub circles : List Circle

-- whether the box reaches past a container that stands at the origin, by more than the tolerance
unfoldable pub reaches_past : Rectangle → Bounds → Bool
reaches_past container b =
    let halfW = container.width /ᶠ two in
    let halfH = container.height /ᶠ two in
    let tol = e_9 *ᶠ maximum (maximum halfW halfH) one in
    (b.x_min <ᶠ neg halfW -ᶠ tol) || (halfW +ᶠ tol <ᶠ b.x_max) || (b.y_min <ᶠ neg halfH -ᶠ tol) || (halfH +ᶠ tol <ᶠ b.y_max)

-- `center_shapes_in_container`: the circles, unless there are none, or one reaches past, or the middle is at the origin as near as 1e-12
unfoldable pub centred_in : Rectangle → List Circle → List Circle
centred_in container cs =
    let box = box_all always cs in
    let dx = middle_x box in
    let dy = middle_y box in
    let near = (abs dx <ᶠ e_12) && (abs dy <ᶠ e_12) in
    let result = all_translated (neg dx) (neg dy) cs in
    cond (eqb (length cs) 0 || reaches_past container box || near) cs result

-- step 1: the container to the origin and the circles along, if it is further off than 1e-12; step 2: the circles centred in it
unfoldable pub settled : Rectangle → List Circle → Contained
settled container cs =
    let cx = container.center.x in
    let cy = container.center.y in
    let off = (e_12 <ᶠ abs cx) || (e_12 <ᶠ abs cy) in
    let container' = cond off (rectangle_of (point_at nought nought) container.width container.height) container in
    let along = cond off (all_translated (neg cx) (neg cy) cs) cs in
    record { refusal = 0; container = container'; circles = centred_in container' along }

-- "after any refusal it comes back as given"
abbrev pub refused_container : List Circle → Rectangle → ℕ → Contained
refused_container cs container k = record { refusal = k; container = container; circles = cs }

unfoldable pub contained_answer : ℕ → Rectangle → List Circle → Contained → Contained
contained_answer zero container cs r = r
contained_answer (suc k) container cs r = refused_container cs container (suc k)

unfoldable pub contained : List Circle → Rectangle → Contained
contained cs container =
    let r = settled container cs in
    contained_answer (container_refusal cs container) container cs r
