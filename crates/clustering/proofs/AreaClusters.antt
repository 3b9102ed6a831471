-- The clustering by regions: what is known once it is accepted, and what its answer says then.
use Prim.Native.Nat.{ℕ, ◌≤◌}
use mathlib.Core.Path.{◌≡◌, sym, ap, ◌∙◌}
use mathlib.Core.List.{List}
use lib.ListN.{length}
use lib.Ieee.{Float}
use Rattle.scope.specs.Runs.{filled}
use Rattle.scope.specs.Limits.{circle_cap}
use Rattle.scope.specs.Refusals.{regions_refusal}
use Rattle.scope.specs.Links.{regions}
use Rattle.scope.specs.Groups.{clusters, Grouping, area_grouping}
use Rattle.laws.proofs.Accepted.{not_too_many_iff, not_unequal_iff}
use Rattle.laws.proofs.EntryPoints.{regions_reads}
use Rattle.laws.proofs.AfterRefusal.{area_grouping-answers}
use Rattle.laws.proofs.Clusters.{same_filled_number_iff_chain}
use Rattle.clustering.specs.Answers.{NumbersByChains}

module _ (n : ℕ) (masks : List ℕ) (areas : List Float) where
  pub regions_few : regions_refusal n masks areas ≡ 0 → n ≤ circle_cap
  regions_few h = (not_too_many_iff n).0 ((regions_reads n masks areas).accepted.0 h).0

  pub regions_equal : regions_refusal n masks areas ≡ 0 → length masks ≡ length areas
  regions_equal h = (not_unequal_iff masks areas).0 ((regions_reads n masks areas).accepted.0 h).1.0

  -- the numbers of an accepted answer
  pub area_chains : (tol : Float) (r : Grouping) → r ≡ area_grouping n masks areas tol → r.refusal ≡ 0 → NumbersByChains n tol (regions masks areas) r.numbers
  area_chains tol r e z i j hi hj =
      let answers = area_grouping-answers n masks areas tol in
      let none : regions_refusal n masks areas ≡ 0 = sym (ap (λ (g : Grouping). g.refusal) e ∙ answers.says) ∙ z in
      let same : r.numbers ≡ filled circle_cap 0 (clusters n (regions masks areas) tol).numbers = ap (λ (g : Grouping). g.numbers) (e ∙ answers.on_acceptance none) in
      rw same (same_filled_number_iff_chain n (regions masks areas) tol i j hi hj circle_cap)
