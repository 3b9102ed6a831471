-- `arranged` meets its contract: each step has its equation, and together they are the arrangement.
use native.Mathlib.Omega.{arith}
use mathlib.Core.Path.{◌∙◌}
use Rattle.clustering.specs.Answers.{grouped, accepted}
use Rattle.layout.proofs.Joined.{shown_doubles}
use Rattle.layout.proofs.WholeSteps.{
  not_refused,
  grouped-number,
  none_refused,
  accepted_lifted,
  accepted-paired,
  room_for_numbers,
  few_clusters,
  numbers-inside,
  length-numbers,
  clusters_packable,
  whole-result,
  whole-circles,
}
use Rattle.layout.proofs.normalize.arranged.Goals as goal

pub offset_contained_children-moved-requires : goal.offset_contained_children-moved-requires
offset_contained_children-moved-requires c =
    let p = c.requires in
    let paired = accepted-paired _ _ _ _ _ _ p.2 p.3 in
    (p.1, p.2, p.0, accepted_lifted _ _ _ _ _ _ p.2 p.3, c.tolerance-tol.ensures _ paired)

pub unwrap-clusters-requires : goal.unwrap-clusters-requires
unwrap-clusters-requires c =
    let p = c.requires in
    let f = c.find_clusters_from_exclusive_regions in
    let t = c.tolerance-tol.ensures _ (accepted-paired _ _ _ _ _ _ p.2 p.3) in
    not_refused f.result (grouped-number f.result ∙ none_refused _ _ _ _ _ _ p.2 p.3 p.0 _ t (grouped f.result) f.ensures.answer)

pub slice_bounds-placed-end : goal.slice_bounds-placed-end
slice_bounds-placed-end c =
    let p = c.requires in
    let f = c.unwrap-clusters.result in
    let g = rw c.unwrap-clusters.ensures at c.find_clusters_from_exclusive_regions.ensures.answer in
    room_for_numbers _ _ _ _ _ _ p.2 p.3 p.0 _ (c.tolerance-tol.ensures _ (accepted-paired _ _ _ _ _ _ p.2 p.3)) (accepted f) g

pub placed-padding-requires : goal.placed-padding-requires
placed-padding-requires c =
    let p = c.requires in
    let a = c.args in
    let doubles =
    shown_doubles a.xs.now a.ys.now a.radii.now a.factor c.slice_known-1.given c.slice_known-2-1.given
    c.shared_slice_known-1.given c.well_formed.1.1.1.0.1 in
    let t = c.tolerance-tol.ensures _ (accepted-paired _ _ _ _ _ _ p.2 p.3) in
    let f = c.unwrap-clusters.result in
    let g = rw c.unwrap-clusters.ensures at c.find_clusters_from_exclusive_regions.ensures.answer in
    let o = c.offset_contained_children-moved in
    let long = length-numbers _ _ _ _ _ _ p.2 p.3 p.0 _ t (accepted f) g in (
      omega (arith, p.1, o.auto),
      omega (arith, p.2, o.auto),
      omega (arith, long, o.auto),
      accepted_lifted _ _ _ _ _ _ p.2 p.3,
      few_clusters _ _ _ _ _ _ p.2 p.3 p.0 _ t (accepted f) g,
      numbers-inside _ _ _ _ _ _ p.2 p.3 p.0 _ t (accepted f) g,
      clusters_packable _ _ _ _ _ _ p.2 p.3 p.0 _ t (accepted f) g doubles _ _ o.ensures.circles p.4,
    )

pub returns : goal.returns
returns c =
    let p = c.requires in
    let a = c.args in
    let doubles =
    shown_doubles a.xs.now a.ys.now a.radii.now a.factor c.slice_known-1.given c.slice_known-2-1.given
    c.shared_slice_known-1.given c.well_formed.1.1.1.0.1 in
    let t = c.tolerance-tol.ensures _ (accepted-paired _ _ _ _ _ _ p.2 p.3) in
    let f = c.unwrap-clusters.result in
    let g = rw c.unwrap-clusters.ensures at c.find_clusters_from_exclusive_regions.ensures.answer in
    let o = c.offset_contained_children-moved in
    let q = c.placed-padding.ensures in record {
      result = whole-result _ _ _ _ _ _ p.2 p.3 p.0 _ t (accepted f) g doubles _ _ o.ensures.circles _ _ o.ensures.mask q.padding;
      circles = q.circles ∙ whole-circles _ _ _ _ _ _ p.2 p.3 p.0 _ t (accepted f) g doubles _ _ o.ensures.circles;
      doubles = doubles;
    }
