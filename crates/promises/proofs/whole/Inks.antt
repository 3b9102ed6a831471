-- Ink numbers travel with circles: the laws of the steps, and that no call changes how many circles there are.
use Prim.Native.Nat.{ℕ}
use native.Mathlib.Decide.{ℕ_discrete}
use mathlib.Core.Path.{◌≡◌, refl, sym, ap, ◌∙◌}
use mathlib.Core.Bool.{◌&&◌, ◌||◌}
use mathlib.Core.List.{List, [], ◌∷◌, ◌++◌}
use lib.Dec.{eqb}
use lib.Ieee.{Float, neg}
use lib.ListN.{length, take, drop, take-append-drop}
use Rattle.shapes.specs.declared.circle.Circle.{Circle}
use Rattle.shapes.specs.declared.rectangle.Rectangle.{Rectangle}
use Rattle.scope.specs.Numbers.{◌<ᶠ◌, e_12, abs}
use Rattle.scope.specs.Runs.{always}
use Rattle.scope.specs.Refusals.{inks, layout_refusal, container_refusal}
use Rattle.scope.specs.Links.{regions}
use Rattle.scope.specs.Offset.{Moved}
use Rattle.scope.specs.Layout.{Layout, arranged, layout, refused_layout}
use Rattle.scope.specs.Centring.{all_translated}
use Rattle.scope.specs.Container.{reaches_past, settled, centred_in, contained}
use Rattle.scope.specs.Gauge.{middle_x, middle_y}
use Rattle.scope.specs.Padding.{box_all}
use Rattle.scope.specs.Twins.{first_layout, first_contained}
use Rattle.laws.proofs.Runs.{length-tab, either-length}
use Rattle.laws.proofs.AfterRefusal.{layout-answers, container-answers}
use Rattle.laws.proofs.Counted.{by_many}
use Rattle.laws.specs.Inks.{inked}
use Rattle.laws.proofs.Inks.{inked-again, carried, moved_carries, translated_carries, rotated_carries, mirror_x_carries, mirror_y_carries, shift_carries, offset_carries, turned_carries, mirrored_carries, gauged_carries, pack_carries, centred_carries, settled_carries, plain_clusters_blind, arranged_carries}
use Rattle.promises.specs.Inks.{InksTravel}
use Rattle.promises.proofs.whole.Lengths.{arranged-length}

-- ---- the calls on a run

layout-inks : (cs : List Circle) (factor : Float) (masks : List ℕ) (areas : List Float) (proportion : Float)
    → inks (layout cs factor masks areas proportion).circles ≡ inks cs
unfolding refused_layout
layout-inks cs factor masks areas proportion =
    let answers = layout-answers cs factor masks areas proportion in
    let rs = regions masks areas in
    elim (ℕ_discrete (layout_refusal cs factor masks areas proportion) 0) [
      | yes z ↦ rw (answers.on_acceptance z) (carried (λ ds. (arranged proportion ds factor rs).circles) (λ is ds. ap (λ (l : Layout). l.circles) (arranged_carries proportion factor rs is ds)) (λ ds. arranged-length proportion ds factor rs) cs)
      | no z ↦ rw (answers.at_refusal z)
    ]

translated-length : (dx dy : Float) (cs : List Circle) → length (all_translated dx dy cs) ≡ length cs
unfolding all_translated
translated-length dx dy cs = length-tab (length cs) _

centred_in_length : (container : Rectangle) (cs : List Circle) → length (centred_in container cs) ≡ length cs
unfolding centred_in
centred_in_length container cs =
    let box = box_all always cs in
    let dx = middle_x box in
    let dy = middle_y box in
    either-length (eqb (length cs) 0 || reaches_past container box || ((abs dx <ᶠ e_12) && (abs dy <ᶠ e_12))) (length cs) cs (all_translated (neg dx) (neg dy) cs) refl
    (translated-length (neg dx) (neg dy) cs)

settled-length : (container : Rectangle) (cs : List Circle) → length (settled container cs).circles ≡ length cs
unfolding settled
settled-length container cs =
    let cx = container.center.x in
    let cy = container.center.y in
    centred_in_length _ _
    ∙ either-length ((e_12 <ᶠ abs cx) || (e_12 <ᶠ abs cy)) (length cs) (all_translated (neg cx) (neg cy) cs) cs (translated-length (neg cx) (neg cy) cs) refl

contained-inks : (cs : List Circle) (container : Rectangle) → inks (contained cs container).circles ≡ inks cs
contained-inks cs container =
    let answers = container-answers cs container in
    elim (ℕ_discrete (container_refusal cs container) 0) [
      | yes z ↦ rw (answers.on_acceptance z) (carried (λ ds. (settled container ds).circles) (settled_carries container) (settled-length container) cs)
      | no z ↦ rw (answers.at_refusal z)
    ]

-- ---- accepted calls with other inks

layout_as_before : (is js : List ℕ) (cs : List Circle) (factor : Float) (masks : List ℕ) (areas : List Float) (proportion : Float)
    → layout_refusal (inked is cs) factor masks areas proportion ≡ 0 → layout_refusal (inked js cs) factor masks areas proportion ≡ 0
    → ((layout (inked is cs) factor masks areas proportion).result ≡ (layout (inked js cs) factor masks areas proportion).result)
    × ((layout (inked is cs) factor masks areas proportion).circles ≡ inked is (layout (inked js cs) factor masks areas proportion).circles)
layout_as_before is js cs factor masks areas proportion h g =
    let rs = regions masks areas in
    rw (
      (layout-answers (inked is cs) factor masks areas proportion).on_acceptance h,
      (layout-answers (inked js cs) factor masks areas proportion).on_acceptance g,
      arranged_carries proportion factor rs is cs,
      arranged_carries proportion factor rs js cs,
    ) (refl, sym (inked-again is js (arranged proportion cs factor rs).circles))

container_as_before : (is js : List ℕ) (cs : List Circle) (container : Rectangle) → container_refusal (inked is cs) container ≡ 0
    → container_refusal (inked js cs) container ≡ 0 → (contained (inked is cs) container).circles ≡ inked is (contained (inked js cs) container).circles
container_as_before is js cs container h g =
    rw (
      (container-answers (inked is cs) container).on_acceptance h,
      (container-answers (inked js cs) container).on_acceptance g,
      settled_carries container is cs,
      settled_carries container js cs,
    ) (sym (inked-again is js (settled container cs).circles))

-- ---- and on the first circles of an array

inks_append : (cs ds : List Circle) → inks (cs ++ ds) ≡ inks cs ++ inks ds
unfolding inks
inks_append [] ds = refl
inks_append (c ∷ cs) ds = ap (λ (is : List ℕ). c.ink ∷ is) (inks_append cs ds)

behind : (n : ℕ) (cs front : List Circle) → inks front ≡ inks (take n cs) → inks (front ++ drop n cs) ≡ inks cs
behind n cs front e = inks_append front (drop n cs) ∙ rw (e, ← inks_append (take n cs) (drop n cs), take-append-drop n cs)

first_layout-inks : (n : ℕ) (cs : List Circle) (factor : Float) (masks : List ℕ) (areas : List Float) (proportion : Float)
    → inks (first_layout n cs factor masks areas proportion).circles ≡ inks cs
unfolding first_layout refused_layout
first_layout-inks n cs factor masks areas proportion = by_many n (λ h. rw h) (λ h. rw h (behind n cs _ (layout-inks (take n cs) factor masks areas proportion)))

first_contained-inks : (n : ℕ) (cs : List Circle) (container : Rectangle) → inks (first_contained n cs container).circles ≡ inks cs
unfolding first_contained
first_contained-inks n cs container = by_many n (λ h. rw h) (λ h. rw h (behind n cs _ (contained-inks (take n cs) container)))

pub inks_travel : InksTravel
inks_travel =
    record {
      one-moved = moved_carries;
      one-translated = translated_carries;
      one-turned = rotated_carries;
      one-mirrored_x = mirror_x_carries;
      one-mirrored_y = mirror_y_carries;
      one_shifted = shift_carries;
      after_offset = λ rs is cs. ap (λ (s : Moved). s.circles) (offset_carries rs is cs);
      moved-mask = λ rs is cs. ap (λ (s : Moved). s.mask) (offset_carries rs is cs);
      after_turn = turned_carries;
      after_mirrors = mirrored_carries;
      after_gauge = gauged_carries;
      after_packing = pack_carries;
      after_centring = centred_carries;
      in_container_lem = settled_carries;
      plain_clusters_same = plain_clusters_blind;
      whole-circles = λ proportion factor rs is cs. ap (λ (l : Layout). l.circles) (arranged_carries proportion factor rs is cs);
      whole-result = λ proportion factor rs is cs. ap (λ (l : Layout). l.result) (arranged_carries proportion factor rs is cs);
      layout_as_before = layout_as_before;
      container_as_before = container_as_before;
      layout_keeps = layout-inks;
      container_keeps = contained-inks;
      first_layout_keeps = first_layout-inks;
      first_container_keeps = first_contained-inks;
    }
