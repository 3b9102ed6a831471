-- The answer for a point, circle by circle, and the answers of a batch, point by point.
use Prim.Native.Nat.{ℕ, ◌+◌, ◌*◌, ◌%◌, ◌^◌, ◌≤◌, ◌<◌}
use native.Mathlib.Omega.{arith}
use native.Mathlib.Numerals.{add-one}
use mathlib.Core.Path.{◌≡◌, refl, sym, ap, ◌∙◌}
use mathlib.Core.Logic.{◌⊎◌, ⊎_elim}
use mathlib.Core.Bool.{Bool, true, false, cond}
use mathlib.Core.List.{List, [], ◌∷◌, ◌++◌, map}
use lib.ListN.{length, get_or, set, drop, length-map, get_or-map}
use lib.Seq.{take_all}
use lib.Ieee.{Float}
use Rattle.shapes.specs.declared.point.Point.{Point}
use Rattle.shapes.specs.declared.circle.Circle.{Circle}
use Rattle.scope.specs.Numbers.{◌-ᶠ◌}
use Rattle.scope.specs.Runs.{gather}
use Rattle.scope.specs.Links.{circle}
use Rattle.scope.specs.Distance.{contains_point}
use Rattle.scope.specs.PackedRows.{packed_row}
use Rattle.scope.specs.Touch.{touch_mask}
use Rattle.scope.specs.Limits.{circle_cap}
use Rattle.scope.specs.Refusals.{inks, touch_refusal}
use Rattle.laws.proofs.Accepted.{not_too_many_iff}
use Rattle.laws.proofs.EntryPoints.{touch_reads}
use Rattle.laws.proofs.Touch.{touch_blind, not_too_few_answers_iff}
use Rattle.laws.proofs.MaskBits.{put_fits}
use Rattle.laws.proofs.PackedRows.{packed-small, single_shifted}
use Rattle.intake.specs.Limits.{max_circles}
use Rattle.intake.specs.Columns.{at, circles_of, xs_of, ys_of, radii_of, overwritten}
use Rattle.intake.proofs.Columns.{length_shown, shown_at, shown_back}
use Rattle.intake.proofs.Overwriting.{over, over_next}
use Rattle.geometry.specs.Lengths.{HoldsBy}

-- ---- one point over the circles of three lists
module _ (xs ys rs : List Float) (p : Point) where
  -- the circles before place j that it lies in
  abbrev pub mask_to : ℕ → ℕ
  mask_to j = packed_row j (λ k. contains_point (circle (circles_of xs ys rs) k) p)

  pub mask-none : 0 ≡ mask_to 0
  unfolding packed_row gather
  mask-none = refl

  -- so another bit has room in a word
  pub mask_fits : (j : ℕ) {m : ℕ} → j < 64 → m ≡ mask_to j → m + 2 ^ j < 2 ^ 64
  mask_fits j {m} h e = put_fits 64 m j h (rw e (packed-small j _))

  -- the next circle's bit is put in, or not
  abbrev pub Next : ℕ → Bool → ℕ → ℕ → Type 0
  Next j q m after = ((q ≡ true) × (after ≡ m + (1 * 2 ^ j) % 2 ^ 64)) ⊎ ((q ≡ false) × (after ≡ m))

  next_is : (j : ℕ) (q : Bool) → q ≡ contains_point (circle (circles_of xs ys rs) j) p → cond q (mask_to j + 2 ^ j) (mask_to j) ≡ mask_to (j + 1)
  unfolding packed_row gather
  next_is j q h = rw (h, add-one)

  pub mask_next : (j : ℕ) {m after : ℕ} (q : Bool) → j < length xs → j < 64 → m ≡ mask_to j → HoldsBy (at xs j -ᶠ p.x) (at ys j -ᶠ p.y) (at rs j) q → Next j q m after
      → after ≡ mask_to (j + 1)
  mask_next j {m} {after} q h room e holds came =
      ⊎_elim (λ w. w.1 ∙ rw (single_shifted 64 j room, e) (rw w.0 at is)) (λ w. w.1 ∙ e ∙ (rw w.0 at is)) came
    where
      is : cond q (mask_to j + 2 ^ j) (mask_to j) ≡ mask_to (j + 1)
      is = next_is j q (rw (shown_at xs ys rs j h) (holds _ p refl refl refl))

  pub mask_all : (j : ℕ) {m : ℕ} → j ≤ length xs → length xs ≤ j → m ≡ mask_to j → m ≡ touch_mask (circles_of xs ys rs) p
  unfolding touch_mask
  mask_all j low high e = let all : j ≡ length xs = omega arith in e ∙ rw (all, length_shown xs ys rs)

-- ---- a batch over points: the first i answers put, and all of them
module _ (mask : Point → ℕ) (ps : List Point) (out : List ℕ) (room : length ps ≤ length out) where
  pub answer_put : (i : ℕ) (d : Point) {l : List ℕ} {m : ℕ} → i < length ps → l ≡ over i (map mask ps) out → m ≡ mask (get_or ps i d) → set l i m ≡ over (i + 1) (map mask ps) out
  answer_put i d h e f =
      rw (e, f, add-one, ← get_or-map mask ps i d) (over_next i (map mask ps) out (mask d) (rw (length-map ps mask) h) (omega arith))

  pub answers_all : (i : ℕ) {l : List ℕ} → i ≤ length ps → length ps ≤ i → l ≡ over i (map mask ps) out → l ≡ overwritten (map mask ps) out
  unfolding overwritten
  answers_all i low high e =
      let all : i ≡ length ps = omega arith in
      e ∙ rw (all, length-map ps mask, take_all (length ps) (map mask ps) (rw (length-map ps mask) (omega arith)))

-- no circle's ink counts
map_equal : (f g : Point → ℕ) → ((p : Point) → f p ≡ g p) → (ps : List Point) → map f ps ≡ map g ps
map_equal f g e [] = refl
map_equal f g e (p ∷ ps) = rw (e p, map_equal f g e ps)

pub masks_shown : (cs : List Circle) (ps : List Point) (out : List ℕ)
    → overwritten (map (touch_mask (circles_of (xs_of cs) (ys_of cs) (radii_of cs))) ps) out ≡ map (touch_mask cs) ps ++ drop (length ps) out
unfolding overwritten
masks_shown cs ps out =
    let bare = circles_of (xs_of cs) (ys_of cs) (radii_of cs) in
    let same : map (touch_mask bare) ps ≡ map (touch_mask cs) ps =
    map_equal _ _ (λ p. sym (touch_blind (inks cs) bare p) ∙ ap (λ (l : List Circle). touch_mask l p) (shown_back cs)) ps in
    rw (length-map ps (touch_mask bare)) (ap (λ (l : List ℕ). l ++ drop (length ps) out) same)

-- accepted: as many circles as there may be, and room for all answers
pub accepted_counts : (cs : List Circle) (ps : List Point) (out : List ℕ) → touch_refusal cs ps (length ps) (length out) ≡ 0
    → (length cs ≤ max_circles) × (length ps ≤ length out)
unfolding circle_cap
accepted_counts cs ps out z =
    let none = (touch_reads cs ps (length ps) (length out)).accepted.0 z in
    ((not_too_many_iff (length cs)).0 none.0, (not_too_few_answers_iff (length out) (length ps)).0 none.1.1.1.1.1.0)
