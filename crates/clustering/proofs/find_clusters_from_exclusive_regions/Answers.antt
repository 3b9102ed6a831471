-- `find_clusters_from_exclusive_regions` meets its contract: the refusal, or the clusters and what their numbers say.
use mathlib.Core.Path.{refl, sym, ◌∙◌}
use Rattle.std.proofs.lemmas.Result.{err_from_is_err_and}
use Rattle.scope.specs.Limits.{circle_cap}
use Rattle.laws.proofs.AfterRefusal.{area_grouping-answers}
use Rattle.refusals.proofs.Exits.{stopped}
use Rattle.clustering.proofs.AreaClusters.{regions_few, regions_equal, area_chains}
use Rattle.clustering.proofs.find_clusters_from_exclusive_regions.Goals as goal

pub returns-in_err-check_regions : goal.returns-in_err-check_regions
returns-in_err-check_regions c =
    let p = err_from_is_err_and c.from_residual.result c.from_residual.ensures.1 in
    let e = stopped c.check_regions.result _ c.check_regions.ensures _ c.in_err-check_regions.was in
    rw (p.1, p.2, e.0) (record { answer = sym ((area_grouping-answers _ _ _ _).at_refusal e.1); chains = tt })

pub by_regions-requires : goal.by_regions-requires
unfolding circle_cap
by_regions-requires c =
    let none = sym c.in_ok-check_regions.ensures in
    (regions_few _ _ _ none, regions_equal _ _ _ none)

pub returns : goal.returns
returns c =
    let answer = c.by_regions.ensures ∙ sym ((area_grouping-answers _ _ _ _).on_acceptance (sym c.in_ok-check_regions.ensures)) in
    record { answer = answer; chains = area_chains _ _ _ _ _ answer refl }
