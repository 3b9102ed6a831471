-- A card is accepted exactly if its values keep every limit and range, circle by circle; a layout, exactly if its card is and the proportion is in range;
-- a charge, exactly if its layout is and the price is in range.
use Prim.Native.Nat.{ℕ, zero, suc, ◌≤◌, ◌<◌}
use mathlib.Core.Path.{◌≡◌, refl, sym, ap, ◌∙◌}
use native.Mathlib.Omega.{arith}
use mathlib.Core.Logic.Iff
use mathlib.Core.Logic.{◌↔◌, ◌⊎◌, inl, inr, ⊎_elim}
use mathlib.Core.Bool.{Bool, ◌&&◌, cond}
use mathlib.Core.List.{List, [], ◌∷◌}
use lib.ListN.{length, get_or}
use lib.Dec.{T, eqb}
use lib.Ieee.{Float}
use Rattle.shapes.specs.declared.point.Point.{Point}
use Rattle.shapes.specs.declared.circle.Circle.{Circle}
use Rattle.scope.specs.Runs.{any}
use Rattle.scope.specs.Numbers.{golden}
use Rattle.scope.specs.Limits.{circle_cap, region_cap, coordinate_ok, radius_ok, factor_ok, proportion_ok, price_ok}
use Rattle.scope.specs.Refusals.{too_many, unequal, too_many_regions, bad_point, bad_centre, bad_radius, rising, bad_factor, repeated, inks, same_ink, bad_proportion, bad_price, card_refusal, layout_refusal, stock_refusal}
use Rattle.scope.specs.Links.{circle, nowhere}
use Rattle.scope.specs.Computing.{computing}
use Rattle.laws.specs.Limits.{WithinLimits, SameInk}
use Rattle.laws.proofs.Cases.{or_iff, and_iff, not_not_iff, not_ltb_iff, eqb_iff}
use Rattle.laws.proofs.Runs.{any_at, none_at}
use Rattle.laws.proofs.FrontToBack.{last_check, last_passes, last_accepts_iff}
use Rattle.laws.proofs.EntryPoints.{card_reads, layout_reads, stock_reads}

-- ---- each cause, denied

pub not_too_many_iff : (n : ℕ) → (¬ T (too_many n)) ↔ (n ≤ circle_cap)
unfolding too_many
not_too_many_iff n = not_ltb_iff circle_cap n

pub not_too_many_regions_iff : (n : ℕ) → (¬ T (too_many_regions n)) ↔ (n ≤ region_cap)
unfolding too_many_regions
not_too_many_regions_iff n = not_ltb_iff region_cap n

pub not_unequal_iff : (masks : List ℕ) (areas : List Float) → (¬ T (unequal masks areas)) ↔ (length masks ≡ length areas)
unfolding unequal
not_unequal_iff masks areas = Iff.trans (not_not_iff (eqb (length masks) (length areas))) (eqb_iff (length masks) (length areas))

pub not_bad_point_iff : (p : Point) → (¬ T (bad_point p)) ↔ (T (coordinate_ok p.x) × T (coordinate_ok p.y))
unfolding bad_point
not_bad_point_iff p = Iff.trans (not_not_iff (coordinate_ok p.x && coordinate_ok p.y)) (and_iff (coordinate_ok p.x) (coordinate_ok p.y))

pub not_bad_centre_iff : (c : Circle) → (¬ T (bad_centre c)) ↔ (T (coordinate_ok c.center.x) × T (coordinate_ok c.center.y))
unfolding bad_centre
not_bad_centre_iff c = not_bad_point_iff c.center

pub not_bad_radius_iff : (c : Circle) → (¬ T (bad_radius c)) ↔ T (radius_ok c.radius)
unfolding bad_radius
not_bad_radius_iff c = not_not_iff (radius_ok c.radius)

pub not_bad_factor_iff : (x : Float) → (¬ T (bad_factor x)) ↔ T (factor_ok x)
unfolding bad_factor
not_bad_factor_iff x = not_not_iff (factor_ok x)

pub not_bad_proportion_iff : (x : Float) → (¬ T (bad_proportion x)) ↔ T (proportion_ok x)
unfolding bad_proportion
not_bad_proportion_iff x = not_not_iff (proportion_ok x)

pub not_bad_price_iff : (cents : ℕ) → (¬ T (bad_price cents)) ↔ T (price_ok cents)
unfolding bad_price
not_bad_price_iff cents = not_not_iff (price_ok cents)

-- the inks of circles, one by one; that of a circle that is nowhere is 0
pub length-inks : (cs : List Circle) → length (inks cs) ≡ length cs
unfolding inks
length-inks [] = refl
length-inks (c ∷ cs) = ap suc (length-inks cs)

pub ink_at_lem : (cs : List Circle) (i : ℕ) → get_or (inks cs) i 0 ≡ (circle cs i).ink
unfolding inks nowhere
ink_at_lem [] i = refl
ink_at_lem (c ∷ cs) zero = refl
ink_at_lem (c ∷ cs) (suc i) = ink_at_lem cs i

-- a number stands twice in a list
abbrev Twice : List ℕ → Type 0
Twice ks = (i : ℕ) × (j : ℕ) × (i < j) × (j < length ks) × (get_or ks i 0 ≡ get_or ks j 0)

repeated_iff : (ks : List ℕ) → T (repeated ks) ↔ Twice ks
unfolding repeated
repeated_iff [] = (λ t. absurd t, λ f. let l = f.3 in absurd (omega arith))
repeated_iff (k ∷ ks) =
    let rest = repeated_iff ks in (
      λ t. ⊎_elim (λ u. let f = (any_at (eqb k) ks 0).0 u in (0, suc f.0, omega arith, omega (arith, f.1), (eqb_iff k (get_or ks f.0 0)).0 f.2))
          (λ u. let f = rest.0 u in (suc f.0, suc f.1, omega (arith, f.2), omega (arith, f.3), f.4)) ((or_iff (any (eqb k) ks) (repeated ks)).0 t),
      λ f. (or_iff (any (eqb k) ks) (repeated ks)).1 (found rest.1 f.0 f.1 f.2 f.3 f.4),
    )
  where
    found : (Twice ks → T (repeated ks)) → (i j : ℕ) → i < j → j < suc (length ks) → get_or (k ∷ ks) i 0 ≡ get_or (k ∷ ks) j 0 → T (any (eqb k) ks) ⊎ T (repeated ks)
    found again i zero l m e = absurd (omega arith)
    found again zero (suc j) l m e = inl ((any_at (eqb k) ks 0).1 (j, omega arith, (eqb_iff k (get_or ks j 0)).1 e))
    found again (suc i) (suc j) l m e = inr (again (i, j, omega arith, omega arith, e))

-- 14 has its cause exactly if two circles have the same ink
pub same_ink_iff : (cs : List Circle) → T (same_ink cs) ↔ SameInk cs
unfolding same_ink
same_ink_iff cs = Iff.trans (repeated_iff (inks cs)) (
  λ f. (f.0, f.1, f.2, rw (length-inks cs) at f.3, sym (ink_at_lem cs f.0) ∙ f.4 ∙ ink_at_lem cs f.1),
  λ f. (f.0, f.1, f.2, rw (length-inks cs) f.3, ink_at_lem cs f.0 ∙ f.4 ∙ sym (ink_at_lem cs f.1)),
)

not_same_ink_iff : (cs : List Circle) → (¬ T (same_ink cs)) ↔ (¬ SameInk cs)
not_same_ink_iff cs = let e = same_ink_iff cs in (λ h f. h (e.1 f), λ h t. h (e.0 t))

-- each circle of a layout passes
none_bad_iff : (bad : Circle → Bool) (Good : Circle → Type 0) → ((c : Circle) → (¬ T (bad c)) ↔ Good c) → (cs : List Circle)
    → (¬ T (any bad cs)) ↔ ((i : ℕ) → i < length cs → Good (circle cs i))
none_bad_iff bad Good e cs =
    Iff.trans (none_at bad cs nowhere) (λ f i h. (e (circle cs i)).0 (f i h), λ f i h. (e (circle cs i)).1 (f i h))

-- ---- all of them

pub card_accepted_iff : (cs : List Circle) (factor : Float) (masks : List ℕ) (areas : List Float)
    → (card_refusal cs factor masks areas ≡ 0) ↔ (WithinLimits cs factor masks areas × (¬ SameInk cs))
card_accepted_iff cs factor masks areas =
    let circles = not_too_many_iff (length cs) in
    let lists = not_unequal_iff masks areas in
    let regions = not_too_many_regions_iff (length masks) in
    let centres = none_bad_iff bad_centre (λ c. T (coordinate_ok c.center.x) × T (coordinate_ok c.center.y)) not_bad_centre_iff cs in
    let radii = none_bad_iff bad_radius (λ c. T (radius_ok c.radius)) not_bad_radius_iff cs in
    let order = not_not_iff (rising masks) in
    let inside = not_bad_factor_iff factor in
    let different = not_same_ink_iff cs in
    Iff.trans (card_reads cs factor masks areas).accepted (
      λ h. (
        record {
          few_circles = circles.0 h.0;
          paired = lists.0 h.1.0;
          few_regions = regions.0 h.1.1.0;
          centres = centres.0 h.1.1.1.0;
          radii = radii.0 h.1.1.1.1.0;
          masks_rise = order.0 h.1.1.1.1.1.0;
          factor-inside = inside.0 h.1.1.1.1.1.1.0;
        },
        different.0 h.1.1.1.1.1.1.1.0,
      ),
      λ a. (
        circles.1 a.0.few_circles,
        (
          lists.1 a.0.paired,
          (
            regions.1 a.0.few_regions,
            (
              centres.1 a.0.centres,
              (
                radii.1 a.0.radii,
                (order.1 a.0.masks_rise, (inside.1 a.0.factor-inside, (different.1 a.1, tt))),
              ),
            ),
          ),
        ),
      ),
    )

-- what the steps of a layout, and the file of a card, need of it
pub within_limits : (cs : List Circle) (factor : Float) (masks : List ℕ) (areas : List Float) → card_refusal cs factor masks areas ≡ 0 → WithinLimits cs factor masks areas
within_limits cs factor masks areas h = ((card_accepted_iff cs factor masks areas).0 h).0

-- ---- the layout: its card's number, and where that is 0, what the proportion decides
module _ (cs : List Circle) (factor : Float) (masks : List ℕ) (areas : List Float) where
  pub layout-takes : (proportion : Float) → layout_refusal cs factor masks areas proportion
      ≡ cond (eqb (card_refusal cs factor masks areas) 0) (cond (bad_proportion proportion) 16 0) (card_refusal cs factor masks areas)
  layout-takes proportion =
      rw ((layout_reads cs factor masks areas proportion).runs, (card_reads cs factor masks areas).runs) (last_check _ 16 (bad_proportion proportion) tt)

  pub layout_accepted_iff : (proportion : Float)
      → (layout_refusal cs factor masks areas proportion ≡ 0) ↔ ((card_refusal cs factor masks areas ≡ 0) × T (proportion_ok proportion))
  layout_accepted_iff proportion =
      let each = last_accepts_iff (card_refusal cs factor masks areas) 16 (bad_proportion proportion) (omega arith) in
      let inside = not_bad_proportion_iff proportion in
      rw (layout-takes proportion) (λ e. ((each.0 e).0, inside.0 (each.0 e).1), λ h. each.1 (h.0, inside.1 h.1))

  -- 1.618 is in range, so `card` is refused for its values alone
  pub layout_at_golden : layout_refusal cs factor masks areas golden ≡ card_refusal cs factor masks areas
  unfolding computing
  layout_at_golden = layout-takes golden ∙ last_passes (card_refusal cs factor masks areas) 16

-- ---- the charge: its layout's number, and where that is 0, what the price decides
module _ (cs : List Circle) (factor : Float) (masks : List ℕ) (areas : List Float) (proportion : Float) (cents : ℕ) where
  pub stock_takes : stock_refusal cs factor masks areas proportion cents
      ≡ cond (eqb (layout_refusal cs factor masks areas proportion) 0) (cond (bad_price cents) 17 0) (layout_refusal cs factor masks areas proportion)
  stock_takes = rw ((stock_reads cs factor masks areas proportion cents).runs, (layout_reads cs factor masks areas proportion).runs) (last_check _ 17 (bad_price cents) tt)

  pub stock_accepted_iff : (stock_refusal cs factor masks areas proportion cents ≡ 0) ↔ ((layout_refusal cs factor masks areas proportion ≡ 0) × T (price_ok cents))
  stock_accepted_iff =
      let each = last_accepts_iff (layout_refusal cs factor masks areas proportion) 17 (bad_price cents) (omega arith) in
      let inside = not_bad_price_iff cents in
      rw stock_takes (λ e. ((each.0 e).0, inside.0 (each.0 e).1), λ h. each.1 (h.0, inside.1 h.1))
