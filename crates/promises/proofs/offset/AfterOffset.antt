-- What the offset step leaves of accepted circles: every centre within 2^21 + 2^-30, every radius as it was, and a moved circle inside its parent up to 2^-30.
use mathlib.Core.Path.{◌≡◌, ap, ◌∙◌}
use mathlib.Core.List.{List}
use mathlib.Core.Option.{some}
use Prim.Native.Nat.{ℕ, ◌<◌}
use lib.Dec.{T}
use lib.ListN.{length}
use Rattle.rounding.specs.Scale.{pow2}
use Rattle.shapes.specs.declared.circle.Circle.{Circle}
use Rattle.scope.specs.Runs.{bit}
use Rattle.scope.specs.Links.{Region, circle}
use Rattle.scope.specs.Offset.{parent_of, offset}
use Rattle.scope.specs.Promises.{units, squared_distance, ReachesWithin}
use Rattle.laws.proofs.Cases.{tested}
use Rattle.promises.proofs.offset.Parents.{parent_is}
use Rattle.promises.proofs.numbers.Ranges.{Radius, Sound, sound_placed}
use Rattle.promises.proofs.gauge.Carried.{StandsWithin, centre_bound}
use Rattle.promises.proofs.offset.Contains.{contains_sound, contained-placed}
use Rattle.promises.proofs.offset.Moves.{InsideParent, MovedInside, offset_moves, parent_stands}

-- ---- one moved circle, whose parent and whose own numbers were accepted
module _ (parent before after : Circle) (P : Sound parent) (B : Sound before) (m : InsideParent parent before after) where
  radius-kept : after.radius ≡ before.radius
  radius-kept = m.radius ∙ B.radius.lifted

  after_radius : Radius after.radius
  after_radius = rw radius-kept B.radius

  moved-reach : ReachesWithin (pow2 30) (units parent.radius) (units after.radius) (squared_distance parent after)
  moved-reach =
      let r = after_radius in
      (contains_sound parent after P.x.fin P.y.fin P.radius.fin r.fin m.fits-x m.fits-y P.radius.sign r.sign P.radius.small m.contained).reach

  moved-placed : StandsWithin centre_bound after
  moved-placed =
      let r = after_radius in
      contained-placed parent after P.x.fin P.y.fin P.radius.fin r.fin m.fits-x m.fits-y P.radius.sign r.sign P.radius.small m.contained
      P.x.within P.y.within r.lifted

-- ---- all of them
module _ (cs : List Circle) (rs : List Region) where
  abbrev after : List Circle
  after = (offset cs rs).circles

  parent_below : {i : ℕ} (m : MovedInside cs rs after i) → m.parent < length cs
  parent_below {i} m = (parent_is (length cs) rs i m.parent m.is_parent_lem).below

  moved : (i : ℕ) → T (bit (offset cs rs).mask i) → MovedInside cs rs after i
  moved = (offset_moves cs rs).moved

  pub offset-length : length after ≡ length cs
  offset-length = (offset_moves cs rs).length-kept

  pub offset-leaves : (i : ℕ) → ¬ T (bit (offset cs rs).mask i) → circle after i ≡ circle cs i
  offset-leaves = (offset_moves cs rs).stands

  -- a moved circle has a parent, which stands where it was handed in, and reaches past it by at most 2^-30
  pub record Reaching (i : ℕ) : Type 0 where
    pub parent : ℕ
    pub is_parent_lem : parent_of (length cs) rs i ≡ some parent
    pub below : parent < length cs
    pub stands : circle after parent ≡ circle cs parent
    pub reach : ReachesWithin (pow2 30) (units (circle after parent).radius) (units (circle after i).radius) (squared_distance (circle after parent) (circle after i))

  module _ (sound : (i : ℕ) → i < length cs → Sound (circle cs i)) where
    pub offset_keeps_radius : (i : ℕ) → i < length cs → (circle after i).radius ≡ (circle cs i).radius
    offset_keeps_radius i h = elim (tested (bit (offset cs rs).mask i)) [
      | yes t ↦ let m = moved i t in radius-kept (circle cs m.parent) (circle cs i) (circle after i) (sound m.parent (parent_below m)) (sound i h) m.inside
      | no t ↦ ap (λ (c : Circle). c.radius) (offset-leaves i t)
    ]

    pub offset-places : (i : ℕ) → i < length cs → StandsWithin centre_bound (circle after i)
    offset-places i h = elim (tested (bit (offset cs rs).mask i)) [
      | yes t ↦ let m = moved i t in moved-placed (circle cs m.parent) (circle cs i) (circle after i) (sound m.parent (parent_below m)) (sound i h) m.inside
      | no t ↦ rw (offset-leaves i t) (sound_placed (circle cs i) (sound i h))
    ]

    pub offset-reach : (i : ℕ) → i < length cs → T (bit (offset cs rs).mask i) → Reaching i
    offset-reach i h t =
        let m = moved i t in
        let p = m.parent in
        let s = parent_stands cs rs (length cs) (offset cs rs) (offset_moves cs rs) i p m.is_parent_lem in
        record {
          parent = p;
          is_parent_lem = m.is_parent_lem;
          below = parent_below m;
          stands = s;
          reach = rw s (moved-reach (circle cs p) (circle cs i) (circle after i) (sound p (parent_below m)) (sound i h) m.inside);
        }
