-- `rotate_cluster` as a whole: one motion carries every member of the cluster, and nothing else is touched. No turn and no mirror are motions too.
use mathlib.Core.Path.{◌≡◌, refl, sym, ap, ◌∙◌}
use mathlib.Core.Bool.{Bool, true, false, cond}
use mathlib.Core.List.{List}
use Prim.Native.Nat.{ℕ, ◌+◌, ◌<◌}
use native.Mathlib.Omega.{arith}
use native.Mathlib.Decide.{dec_lt}
use lib.Dec.{T, ltb, ltb→lt}
use lib.ListN.{length, get_or-eq_default}
use lib.Ieee.{Float}
use Rattle.rounding.specs.Scale.{pow2}
use Rattle.rounding.proofs.Double.{pow2-le}
use Rattle.shapes.specs.declared.point.Point.{Point}
use Rattle.shapes.specs.declared.bounds.Bounds.{Bounds}
use Rattle.shapes.specs.declared.circle.Circle.{Circle}
use Rattle.scope.specs.Numbers.{◌-ᶠ◌, ◌<ᶠ◌}
use Rattle.scope.specs.Links.{circle, nowhere}
use Rattle.scope.specs.Gauge.{changed, level, turn, rotated, turned, centres_box, middle_x, middle_y, mirror_x, mirror_y, mirrored_x, mirrored_y, mirrored, rotate_cluster}
use Rattle.laws.proofs.Cases.{tested, is_true, is_false}
use Rattle.laws.proofs.Runs.{length-tab, get_or_tab, get_or_tab_past}
use Rattle.laws.proofs.FirstTwo.{first_of, second_of, both_found}
use Rattle.promises.proofs.gauge.Turn.{turn_is_unit, not_level_some}
use Rattle.promises.proofs.gauge.Carried.{Motion, Carried, StandsWithin, centre_bound, in_reach_of_turn, carried_loosely, still, stays}
use Rattle.promises.proofs.gauge.Level.{dx_is, dy_is}
use Rattle.promises.proofs.gauge.Rotate.{turn_about, rotation_carries}
use Rattle.promises.proofs.gauge.Mirror.{applied, mirrored_by, mirrors_carry}
use Rattle.promises.proofs.gauge.Centres.{middle_x_is, middle_y_is, middle-inside}

-- ---- the circles of a cluster changed, where b says so
module _ (member : ℕ → Bool) (f : Circle → Circle) (cs : List Circle) where
  changed-length : length (changed member f cs) ≡ length cs
  unfolding changed
  changed-length = length-tab (length cs) _

  pub changed_member : (i : ℕ) → i < length cs → T (member i) → circle (changed member f cs) i ≡ f (circle cs i)
  unfolding changed
  changed_member i h t = get_or_tab (length cs) _ i nowhere h ∙ rw (is_true (member i) t)

  changed_other : (i : ℕ) → ¬ T (member i) → circle (changed member f cs) i ≡ circle cs i
  unfolding changed
  changed_other i t = elim (dec_lt i (length cs)) [
    | yes h ↦ get_or_tab (length cs) _ i nowhere h ∙ rw (is_false (member i) t)
    | no h ↦ get_or_tab_past (length cs) _ i nowhere (omega arith) ∙ sym (get_or-eq_default cs nowhere (omega arith))
  ]

  -- the mirrors and the turn either change the cluster or hand back what they are given
  abbrev maybe : Bool → List Circle
  maybe b = cond b (changed member f cs) cs

  maybe_length : (b : Bool) → length (maybe b) ≡ length cs
  maybe_length true = changed-length
  maybe_length false = refl

  maybe_member : (b : Bool) (i : ℕ) → i < length cs → T (member i) → circle (maybe b) i ≡ applied b f (circle cs i)
  maybe_member true i h t = changed_member i h t
  maybe_member false i h t = refl

  maybe_other : (b : Bool) (i : ℕ) → ¬ T (member i) → circle (maybe b) i ≡ circle cs i
  maybe_other true i t = changed_other i t
  maybe_other false i t = refl

-- ---- one motion for every member
abbrev pub AllPlaced : (ℕ → Bool) → List Circle → Type 0
AllPlaced member cs = (i : ℕ) → i < length cs → T (member i) → StandsWithin centre_bound (circle cs i)

abbrev pub AllCarried : Motion → ℕ → ℕ → (ℕ → Bool) → List Circle → List Circle → Type 0
AllCarried g e b member from to = (i : ℕ) → i < length from → T (member i) → Carried g e b (circle from i) (circle to i)

-- ---- the turn
module _ (member : ℕ → Bool) (i j : ℕ) (cs : List Circle) where
  abbrev pivot : Point
  pivot = (circle cs i).center

  abbrev dx : Float
  dx = (circle cs j).center.x -ᶠ (circle cs i).center.x

  abbrev dy : Float
  dy = (circle cs j).center.y -ᶠ (circle cs i).center.y

  turned_is : turned member i j cs ≡ cond (level dx dy) cs (changed member (rotated (turn dx dy) pivot) cs)
  unfolding turned
  turned_is = refl

  pub turned-level : T (level dx dy) → turned member i j cs ≡ cs
  turned-level t = rw (turned_is, is_true (level dx dy) t)

  pub turned_steep : ¬ T (level dx dy) → turned member i j cs ≡ changed member (rotated (turn dx dy) pivot) cs
  turned_steep t = rw (turned_is, is_false (level dx dy) t)

  pub turned-length : length (turned member i j cs) ≡ length cs
  turned-length = elim (tested (level dx dy)) [ yes t ↦ rw (turned-level t) | no t ↦ rw (turned_steep t) (changed-length member (rotated (turn dx dy) pivot) cs) ]

  turned_other : (k : ℕ) → ¬ T (member k) → circle (turned member i j cs) k ≡ circle cs k
  turned_other k h = elim (tested (level dx dy)) [ yes t ↦ rw (turned-level t) | no t ↦ rw (turned_steep t) (changed_other member (rotated (turn dx dy) pivot) cs k h) ]

  -- the turn of two placed centres that are not level
  module _ (first-placed : StandsWithin centre_bound (circle cs i)) (second-placed : StandsWithin centre_bound (circle cs j)) where
    pub turned_carries : AllPlaced member cs → (g : Motion) × AllCarried g (pow2 34) (pow2 85) member cs (turned member i j cs)
    turned_carries placed = elim (tested (level dx dy)) [
      | yes t ↦ (still, λ k h m. rw (turned-level t) (carried_loosely (pow2 34) (pow2 85) (omega arith) (pow2-le 82 85 tt) (stays (circle cs k) (in_reach_of_turn (placed k h m)))))
      | no t ↦
          let px = (dx_is (circle cs i) (circle cs j) first-placed second-placed).0 in
          let py = (dy_is (circle cs i) (circle cs j) first-placed second-placed).0 in
          let u = turn_is_unit dx dy px py (not_level_some dx dy px py t) in (
            turn_about (turn dx dy) u pivot,
            λ k h m. rw (turned_steep t, changed_member member (rotated (turn dx dy) pivot) cs k h m) (rotation_carries (turn dx dy) u (circle cs i) (circle cs k) (in_reach_of_turn first-placed) (in_reach_of_turn (placed k h m))),
          )
    ]

-- ---- the mirrors
module _ (member : ℕ → Bool) (i : ℕ) (cs : List Circle) where
  abbrev pub box : Bounds
  box = centres_box member cs

  abbrev pub in_x : Bool
  in_x = middle_x box <ᶠ (circle cs i).center.x

  abbrev pub half_way : List Circle
  half_way = maybe member (mirror_x (middle_x box)) cs in_x

  abbrev pub in_y : Bool
  in_y = middle_y box <ᶠ (circle half_way i).center.y

  mirrored_is : mirrored member i cs ≡ maybe member (mirror_y (middle_y box)) half_way in_y
  unfolding mirrored mirrored_x mirrored_y
  mirrored_is = refl

  half_way_length : length half_way ≡ length cs
  half_way_length = maybe_length member (mirror_x (middle_x box)) cs in_x

  mirrored-length : length (mirrored member i cs) ≡ length cs
  mirrored-length = ap length mirrored_is ∙ maybe_length member (mirror_y (middle_y box)) half_way in_y ∙ half_way_length

  mirrored_other : (k : ℕ) → ¬ T (member k) → circle (mirrored member i cs) k ≡ circle cs k
  mirrored_other k h = ap (λ (l : List Circle). circle l k) mirrored_is ∙ maybe_other member (mirror_y (middle_y box)) half_way in_y k h ∙ maybe_other member (mirror_x (middle_x box)) cs in_x k h

  pub half_way_member : (k : ℕ) → k < length cs → T (member k) → circle half_way k ≡ applied in_x (mirror_x (middle_x box)) (circle cs k)
  half_way_member k h m = maybe_member member (mirror_x (middle_x box)) cs in_x k h m

  pub mirrored_member : (k : ℕ) → k < length cs → T (member k) → circle (mirrored member i cs) k ≡ applied in_y (mirror_y (middle_y box)) (applied in_x (mirror_x (middle_x box)) (circle cs k))
  mirrored_member k h m =
      ap (λ (l : List Circle). circle l k) mirrored_is
      ∙ maybe_member member (mirror_y (middle_y box)) half_way in_y k (rw half_way_length h) m
      ∙ ap (applied in_y (mirror_y (middle_y box))) (half_way_member k h m)

  mirrored_carries : {g : Motion} {e : ℕ} (from : List Circle) → length from ≡ length cs → AllPlaced member from → AllCarried g e (pow2 85) member from cs → (k : ℕ) → k < length from → T (member k)
      → (h : Motion) × AllCarried h (e + pow2 33) (pow2 87) member from (mirrored member i cs)
  mirrored_carries {g} {e} from same placed carried k l t =
      let below : k < length cs = rw (← same) l in
      let mx = rw (← middle_x_is member cs) at (middle-inside member (length cs) (λ j. (circle cs j).center.x) (λ j h m. let a = (carried j (rw same h) m).x in record { fin = a.fin; within = a.within }) k below t) in
      let my = rw (← middle_y_is member cs) at (middle-inside member (length cs) (λ j. (circle cs j).center.y) (λ j h m. let a = (carried j (rw same h) m).y in record { fin = a.fin; within = a.within }) k below t) in (
        mirrored_by g in_x (middle_x box) in_y (middle_y box),
        λ j h m.
            rw (mirrored_member j (rw (← same) h) m)
            (mirrors_carry in_x (middle_x box) in_y (middle_y box) mx.fin mx.within my.fin my.within (placed j h m).lifted (carried j h m)),
      )

-- ---- the whole step
module _ (member : ℕ → Bool) (cs : List Circle) where
  abbrev pub first : ℕ
  first = first_of member (length cs)

  abbrev pub second : ℕ
  second = second_of member (length cs)

  abbrev stepped : List Circle
  stepped = mirrored member first (turned member first second cs)

  rotate_is : rotate_cluster member cs ≡ cond (ltb second (length cs)) stepped cs
  unfolding rotate_cluster
  rotate_is = refl

  pub rotate_two : T (ltb second (length cs)) → rotate_cluster member cs ≡ stepped
  rotate_two t = rw (rotate_is, is_true (ltb second (length cs)) t)

  rotate_fewer : ¬ T (ltb second (length cs)) → rotate_cluster member cs ≡ cs
  rotate_fewer t = rw (rotate_is, is_false (ltb second (length cs)) t)

  pub rotate_length : length (rotate_cluster member cs) ≡ length cs
  rotate_length = elim (tested (ltb second (length cs))) [
    | yes t ↦ ap length (rotate_two t) ∙ mirrored-length member first (turned member first second cs) ∙ turned-length member first second cs
    | no t ↦ ap length (rotate_fewer t)
  ]

  pub rotate_leaves_others : (k : ℕ) → ¬ T (member k) → circle (rotate_cluster member cs) k ≡ circle cs k
  rotate_leaves_others k h = elim (tested (ltb second (length cs))) [
    | yes t ↦ ap (λ (l : List Circle). circle l k) (rotate_two t) ∙ mirrored_other member first (turned member first second cs) k h ∙ turned_other member first second cs k h
    | no t ↦ ap (λ (l : List Circle). circle l k) (rotate_fewer t)
  ]

  pub rotate_carries : AllPlaced member cs → (g : Motion) × AllCarried g (pow2 34 + pow2 33) (pow2 87) member cs (rotate_cluster member cs)
  rotate_carries placed = elim (tested (ltb second (length cs))) [
    | yes t ↦
        let below = ltb→lt second (length cs) t in
        let two = both_found member (length cs) below in
        let a = turned_carries member first second cs (placed first two.0 two.1) (placed second below two.2) placed in
        let b = mirrored_carries member first (turned member first second cs) cs (sym (turned-length member first second cs)) placed a.1 first two.0 two.1 in
        (b.0, λ k h u. rw (rotate_two t) (b.1 k h u))
    | no t ↦ (still, λ k h u. rw (rotate_fewer t) (carried_loosely (pow2 34 + pow2 33) (pow2 87) (omega arith) (pow2-le 82 87 tt) (stays (circle cs k) (in_reach_of_turn (placed k h u)))))
  ]
