-- The steps of an accepted layout, one after the other, are the arrangement: what each has to know, and that together they give document 01's result.
use Prim.Native.Nat.{ℕ, zero, suc, ◌-◌, ◌≤◌, ◌<◌}
use native.Mathlib.Nat.{sub-zero, le_trans}
use native.Mathlib.Decide.{dec_lt}
use native.Mathlib.Omega.{arith}
use mathlib.Core.Path.{◌≡◌, refl, sym, ap, ◌∙◌}
use mathlib.Core.Bool.{true≢false}
use mathlib.Core.List.{List, [], ◌∷◌}
use lib.Dec.{T, eqb}
use lib.Ieee.{Float, nan}
use lib.ListN.{length, take}
use lib.Seq.{take_at}
use Rattle.shapes.specs.declared.circle.Circle.{Circle}
use Rattle.shapes.proofs.Lift.{lift-nan}
use Rattle.scope.specs.Runs.{filled}
use Rattle.scope.specs.Limits.{circle_cap, radius_ok, proportion_ok}
use Rattle.scope.specs.Links.{Region, regions, circle}
use Rattle.scope.specs.Refusals.{rising, regions_refusal}
use Rattle.scope.specs.Groups.{Clusters as Groups, Grouping, clusters, area_grouping}
use Rattle.scope.specs.Tolerance.{tolerance}
use Rattle.scope.specs.Offset.{offset}
use Rattle.scope.specs.Gauge.{gauged}
use Rattle.scope.specs.Padding.{boxes, padding}
use Rattle.scope.specs.Layout.{Result as Outcome, arranged}
use Rattle.promises.specs.Demand3.{AreDoubles}
use Rattle.laws.specs.Limits.{WithinLimits}
use Rattle.laws.proofs.Cases.{not_not_iff}
use Rattle.laws.proofs.Accepted.{not_too_many_iff, not_unequal_iff, not_too_many_regions_iff}
use Rattle.laws.proofs.AfterRefusal.{area_grouping-answers}
use Rattle.laws.proofs.Clusters.{clusters_numbering}
use Rattle.laws.proofs.EntryPoints.{regions_reads}
use Rattle.promises.proofs.numbers.InRange.{radius_lifted}
use Rattle.laws.proofs.Runs.{length-filled}
use Rattle.promises.proofs.whole.PackingAccepts.{layout-packs}
use Rattle.intake.specs.Columns.{at, circles_of, Lifted}
use Rattle.intake.specs.Limits.{max_circles}
use Rattle.intake.proofs.Columns.{length_shown, shown_at}
use Rattle.std.specs.Prelude.{Result, Ok, Err, IsOk}
use Rattle.refusals.specs.declared.Refusal.{Refusal}
use Rattle.refusals.specs.Numbers.{number_if}
use Rattle.refusals.proofs.Exits.{number-there}
use Rattle.clustering.specs.declared.Clusters.{Clusters}
use Rattle.clustering.specs.Answers.{grouped}
use Rattle.layout.specs.ClusterBoxes.{InClusters}
use Rattle.layout.specs.Laid.{WithinPacking, settled_clusters}

past_end : (l : List Float) (i : ℕ) → length l ≤ i → at l i ≡ nan
past_end [] i h = refl
past_end (x ∷ l) zero h = absurd (omega arith)
past_end (x ∷ l) (suc i) h = past_end l i (omega arith)

-- ---- an answer whose number is 0 is a value
pub not_refused : {A : Type 0} (r : Result A Refusal) → number_if r ≡ 0 → IsOk r
not_refused (Ok x) z = refl
not_refused (Err e) z = absurd (true≢false (ap (λ (k : ℕ). eqb k 0) (sym z) ∙ number-there e))

pub grouped-number : (r : Result Clusters Refusal) → number_if r ≡ (grouped r).refusal
grouped-number (Ok c) = refl
grouped-number (Err e) = refl

-- ---- what acceptance says
-- accepted radii need no lift
pub radii_lifted : (xs ys rs : List Float) → length rs ≡ length xs → ((i : ℕ) → i < length xs → T (radius_ok (circle (circles_of xs ys rs) i).radius)) → Lifted rs
radii_lifted xs ys rs e ok i =
    elim (dec_lt i (length xs)) [
      | yes h ↦ radius_lifted (at rs i) (rw (shown_at xs ys rs i h) at (ok i h))
      | no h ↦ rw (past_end rs i (rw e (omega arith))) lift-nan
    ]

module _ (xs ys rs : List Float) (factor : Float) (masks : List ℕ) (areas : List Float) (even : length rs ≡ length xs) (h : WithinLimits (circles_of xs ys rs) factor masks areas) where
  pub accepted_lifted : Lifted rs
  accepted_lifted = radii_lifted xs ys rs even (λ i l. h.radii i (rw (length_shown xs ys rs) l))

  pub accepted-paired : length masks ≡ length areas
  accepted-paired = h.paired

  pub accepted-regions : regions_refusal (length xs) masks areas ≡ 0
  accepted-regions =
      (regions_reads (length xs) masks areas).accepted.1 (
        (not_too_many_iff (length xs)).1 (rw (length_shown xs ys rs) at h.few_circles),
        ((not_unequal_iff masks areas).1 h.paired, ((not_too_many_regions_iff (length masks)).1 h.few_regions, ((not_not_iff (rising masks)).1 h.masks_rise, tt))),
      )

  -- ---- the clusters
  abbrev regs : List Region
  regs = regions masks areas

  abbrev g : Groups
  g = clusters (length xs) regs (tolerance regs)

  module _ (few : length xs ≤ max_circles) (tol : Float) (t : tol ≡ tolerance regs) (a : Grouping) (e : a ≡ area_grouping (length xs) masks areas tol) where
    grouped-whole : a ≡ record { refusal = 0; count = g.count; numbers = filled circle_cap 0 g.numbers }
    grouped-whole = e ∙ rw t ((area_grouping-answers (length xs) masks areas (tolerance regs)).on_acceptance accepted-regions)

    pub none_refused : a.refusal ≡ 0
    none_refused = ap (λ (b : Grouping). b.refusal) grouped-whole

    pub count_is : a.count ≡ g.count
    count_is = ap (λ (b : Grouping). b.count) grouped-whole

    pub numbers_are : a.numbers ≡ filled circle_cap 0 g.numbers
    numbers_are = ap (λ (b : Grouping). b.numbers) grouped-whole

    pub front-numbers : take (length xs - 0) a.numbers ≡ g.numbers
    unfolding filled
    front-numbers = rw (sub-zero, numbers_are) (take_at g.numbers _ (length xs) (clusters_numbering (length xs) regs (tolerance regs)).sized)

    pub room_for_numbers : length xs ≤ length a.numbers
    unfolding circle_cap
    room_for_numbers =
        let sized = (clusters_numbering (length xs) regs (tolerance regs)).sized in
        rw (numbers_are, length-filled circle_cap 0 g.numbers (rw sized few)) few

    pub few_clusters : a.count ≤ max_circles
    few_clusters = rw count_is (le_trans (clusters_numbering (length xs) regs (tolerance regs)).few few)

    pub numbers-inside : InClusters a.count (take (length xs - 0) a.numbers)
    numbers-inside =
        let n = clusters_numbering (length xs) regs (tolerance regs) in
        rw (count_is, front-numbers) (λ i l. n.inside i (rw n.sized at l))

    pub length-numbers : length (take (length xs - 0) a.numbers) ≡ length xs
    length-numbers = rw front-numbers (clusters_numbering (length xs) regs (tolerance regs)).sized

    -- ---- the parted circles, and what is made of them
    module _ (doubles : AreDoubles (circles_of xs ys rs) factor) (proportion : Float) (cs₁ : List Circle) (parted : cs₁ ≡ (offset (circles_of xs ys rs) regs).circles) where
      pub clusters_packable : T (proportion_ok proportion)
          → WithinPacking a.count (take (length xs - 0) a.numbers) (gauged a.count (take (length xs - 0) a.numbers) cs₁) factor proportion
      clusters_packable inside = rw (count_is, front-numbers, parted, ← length_shown xs ys rs) (layout-packs (circles_of xs ys rs) factor masks areas proportion doubles h inside)

      pub whole-result : (moved : ℕ) (pad : Float) → moved ≡ (offset (circles_of xs ys rs) regs).mask
          → pad ≡ padding (boxes a.count (take (length xs - 0) a.numbers) (gauged a.count (take (length xs - 0) a.numbers) cs₁)) factor
          → ◌≡◌ {A = Outcome} (record { refusal = 0; count = a.count; numbers = a.numbers; moved = moved; padding = pad }) (arranged proportion (circles_of xs ys rs) factor regs).result
      unfolding arranged
      whole-result moved pad m p = rw (m, p, front-numbers, count_is, numbers_are, parted, length_shown xs ys rs)

      pub whole-circles : settled_clusters proportion a.count (take (length xs - 0) a.numbers) factor (gauged a.count (take (length xs - 0) a.numbers) cs₁) ≡ (arranged proportion (circles_of xs ys rs) factor regs).circles
      unfolding arranged
      whole-circles = rw (count_is, front-numbers, parted, length_shown xs ys rs)
