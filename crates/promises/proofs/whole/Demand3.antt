-- What is promised, whole: of an accepted layout whose numbers are f64, the gap, the distance, the reach and the chain, and how the card hangs, at 2^-16, and at
-- 2^-11 for level centres.
use mathlib.Core.Path.{◌≡◌, refl, sym, ◌∙◌, subst}
use mathlib.Core.Logic.{inr}
use mathlib.Core.List.{List}
use Prim.Native.Nat.{ℕ, ◌+◌, ◌*◌, ◌≤◌, ◌<◌}
use native.Mathlib.Nat.{lt_trans, le_of_eq}
use native.Mathlib.Omega.{arith}
use lib.Dec.{T, lit≤}
use lib.ListN.{length, get_or}
use lib.Ieee.{Float, binary64, fits}
use Rattle.algebra.specs.Integer.{Z, Within, ◌⊖◌}
use Rattle.rounding.specs.Value.{Fin}
use Rattle.rounding.specs.Scale.{pow2}
use Rattle.shapes.specs.declared.circle.Circle.{Circle}
use Rattle.scope.specs.Limits.{circle_cap, radius_ok, factor_ok}
use Rattle.scope.specs.Runs.{filled}
use Rattle.scope.specs.Links.{Region, regions, circle}
use Rattle.scope.specs.Groups.{Clusters, clusters}
use Rattle.scope.specs.Tolerance.{tolerance}
use Rattle.scope.specs.Offset.{offset}
use Rattle.scope.specs.Gauge.{in_cluster, gauged}
use Rattle.scope.specs.Padding.{boxes, padding, pack_clusters}
use Rattle.scope.specs.Centring.{centred_layout}
use Rattle.scope.specs.Layout.{Result, Layout, arranged}
use Rattle.scope.specs.Promises.{units, x_axis, y_axis, number_of, FirstTwo, Chain, Promises}
use Rattle.promises.specs.Demand3.{AreDoubles, bound, gap_bound, Demand3, GapKept, DistanceKept, ReachKept, ChainKept, MiddleKept, FirstKept, LevelKept}
use Rattle.laws.specs.Limits.{WithinLimits}
use Rattle.laws.proofs.Cases.{eqb_iff}
use Rattle.laws.proofs.Runs.{get_or_filled_any}
use Rattle.laws.proofs.FirstTwo.{two_lowest, has_first_two}
use Rattle.laws.proofs.Numbering.{Numbering}
use Rattle.laws.proofs.Clusters.{clusters_numbering, same_number_iff_chain, same_filled_number_iff_chain}
use Rattle.laws.proofs.Accepted.{within_limits, layout_accepted_iff}
use Rattle.laws.proofs.AfterRefusal.{layout-answers}
use Rattle.promises.proofs.numbers.Ranges.{Sound, circle-accepted}
use Rattle.promises.proofs.numbers.RangeOf.{Members}
use Rattle.promises.proofs.gauge.Carried.{Shifted}
use Rattle.promises.proofs.gauge.Hangs.{Hung, mirror_slack}
use Rattle.promises.proofs.gauge.HungCluster.{gauge_level}
use Rattle.promises.proofs.gauge.AllClusters.{ClustersCarried, clusters-shifted}
use Rattle.promises.proofs.offset.AfterOffset.{offset-length}
use Rattle.promises.proofs.gauge.AfterGauge.{after_gauge_length, gauge_carries_clusters, gauge_hangs_clusters, gauge_keeps_radius, gauge_places, gauge_spread, shifts_error_small}
use Rattle.promises.proofs.whole.Kept.{finite-kept, distance_promised, reach_promised}
use Rattle.promises.proofs.packing.KeptGap.{apart_looser}
use Rattle.promises.proofs.packing.Shift.{Step}
use Rattle.promises.proofs.packing.Proportions.{Proportion, proportion_is}
use Rattle.promises.proofs.whole.SixtyFour.{Gauged64, Arranged64, middle_fits_64, first_fits_64, level_fits_64, padding_64, proportion_arranged_64}
use Rattle.promises.proofs.whole.Hang.{centred_promised, arranged_hangs, not_past_promised}

-- ---- the layout of accepted circles
module _ (cs : List Circle) (rs : List Region) (factor : Float) (sound : (i : ℕ) → i < length cs → Sound (circle cs i)) (radius-fits : (i : ℕ) → i < length cs → T (fits binary64 (circle cs i).radius))
    (radius_ok_lem : (i : ℕ) → i < length cs → T (radius_ok (circle cs i).radius)) (factor-fits : T (fits binary64 factor)) (factor-ok : T (factor_ok factor)) (few : length cs ≤ circle_cap) where
  abbrev n : ℕ
  n = length cs

  abbrev g : Clusters
  g = clusters n rs (tolerance rs)

  abbrev before : List Circle
  before = (offset cs rs).circles

  abbrev turned : List Circle
  turned = gauged g.count g.numbers before

  abbrev pad : Float
  pad = padding (boxes g.count g.numbers turned) factor

  numbering : Numbering n g
  numbering = clusters_numbering n rs (tolerance rs)

  turned-length : length turned ≡ n
  turned-length = after_gauge_length cs rs sound g.count g.numbers

  below : {i : ℕ} → i < length turned → i < n
  below h = rw turned-length at h

  handed_over : Gauged64 g turned
  handed_over = record {
    numbering = rw turned-length numbering;
    few = rw turned-length few;
    x = λ j l. let p = gauge_places cs rs sound g.count g.numbers numbering.inside j (below l) in record { fin = p.fin-x; within = p.within-x };
    y = λ j l. let p = gauge_places cs rs sound g.count g.numbers numbering.inside j (below l) in record { fin = p.fin-y; within = p.within-y };
    radius-fits = λ j l. rw (gauge_keeps_radius cs rs sound g.count g.numbers numbering.inside j (below l)) (radius-fits j (below l));
    radius_ok_lem = λ j l. rw (gauge_keeps_radius cs rs sound g.count g.numbers numbering.inside j (below l)) (radius_ok_lem j (below l));
    spread_x = λ j m l k e. (gauge_spread cs rs sound g.count g.numbers numbering.inside j m (below l) (below k) e).0;
    spread_y = λ j m l k e. (gauge_spread cs rs sound g.count g.numbers numbering.inside j m (below l) (below k) e).1;
  }

  -- ---- whatever the proportion
  module _ (proportion : Float) (P : Proportion proportion) where
    abbrev last : List Circle
    last = centred_layout (pack_clusters proportion g.numbers (boxes g.count g.numbers turned) pad turned)

    packed : Arranged64 proportion g.count g.numbers pad turned
    packed = proportion_arranged_64 handed_over factor factor-fits factor-ok proportion P

    -- after the shift of each cluster and before the centring
    between : ℕ → Circle
    between k = circle packed.packed k

    placed_in : (k : ℕ) → k < length before → k < length turned
    placed_in k h = rw (turned-length ∙ sym (offset-length cs rs)) h

    one_shift : {i : ℕ} {dx dy : Float} {c out : Circle} → Step i dx dy c out → Shifted i dx dy c out
    one_shift h = record { fin-x = h.x.fin; fin-y = h.y.fin; room-x = h.x.room; room-y = h.y.room; x = h.x.is; y = h.y.is; radius = h.radius }

    first-shift : (k : ℕ) → k < length before → Shifted 37 (packed.cluster_x (get_or g.numbers k 0)) (packed.cluster_y (get_or g.numbers k 0)) (circle turned k) (between k)
    unfolding between
    first-shift k h = one_shift (packed.first k (placed_in k h))

    second_shift : (k : ℕ) → k < length before → Shifted 38 packed.layout_x packed.layout_y (between k) (circle last k)
    unfolding between
    second_shift k h = one_shift (packed.second k (placed_in k h))

    carried : ClustersCarried (pow2 34 + pow2 33 + pow2 37 + pow2 38) (pow2 92) g.count g.numbers before last
    carried =
        clusters-shifted g.count g.numbers before turned last 37 38 tt tt packed.cluster_x packed.cluster_y packed.layout_x packed.layout_y between first-shift second_shift
        (gauge_carries_clusters cs rs sound g.count g.numbers)

    gap_slack : gap_bound ≤ bound.near
    gap_slack = unfold pow2 in lit≤ tt

    numbered : (i : ℕ) → get_or (filled circle_cap 0 g.numbers) i 0 ≡ get_or g.numbers i 0
    numbered i = get_or_filled_any circle_cap 0 g.numbers i

    same : (i j : ℕ) → get_or (filled circle_cap 0 g.numbers) i 0 ≡ get_or (filled circle_cap 0 g.numbers) j 0 → get_or g.numbers i 0 ≡ get_or g.numbers j 0
    same i j e = sym (numbered i) ∙ e ∙ numbered j

    together : (i j : ℕ) → i < n → j < n → Chain n (tolerance rs) rs i j → get_or g.numbers i 0 ≡ get_or g.numbers j 0
    together i j hi hj c = (same_number_iff_chain n rs (tolerance rs) i j hi hj).1 (inr c)

    -- ---- how the card hangs
    turned-finite : (k : ℕ) → k < length turned → Fin binary64 (circle turned k).center.x × Fin binary64 (circle turned k).center.y
    turned-finite k l = let p = gauge_places cs rs sound g.count g.numbers numbering.inside k (below l) in (p.fin-x, p.fin-y)

    -- the cluster of circle i, if i and j are its first two
    hung : (result : Result) → ((k : ℕ) → number_of result k ≡ get_or g.numbers k 0) → (i j : ℕ) → FirstTwo n result i j
        → Hung (mirror_slack + 4 * (pow2 37 + pow2 38)) (gauge_level + 2 * (pow2 37 + pow2 38)) (Members (in_cluster g.numbers (get_or g.numbers i 0)) n)
        (λ k. units (circle last k).center.x) (λ k. units (circle last k).center.y) i j
    hung result named i j F =
        let a = get_or g.numbers i 0 in
        let member = in_cluster g.numbers a in
        let in-cluster : (k : ℕ) → number_of result k ≡ number_of result i → T (member k) = λ k e. (eqb_iff (get_or g.numbers k 0) a).1 (sym (named k) ∙ e ∙ named i) in
        let two = two_lowest member n i j F.rising F.inside (in-cluster i refl) (in-cluster j F.together)
        (λ k l t. F.no_other k l (named k ∙ (eqb_iff (get_or g.numbers k 0) a).0 t ∙ sym (named i))) in
        let before = gauge_hangs_clusters cs rs sound g.count g.numbers a (numbering.inside i (lt_trans F.rising F.inside)) (rw two.1 F.inside) in
        arranged_hangs {i = 37} {o = 38} tt tt packed (λ k l. (turned-finite k l).0) (λ k l. (turned-finite k l).1) a (le_of_eq (sym turned-length)) (rw (two.1, two.0) at before)

    pub arranged-promises : Promises bound cs rs (arranged proportion cs factor rs).result (arranged proportion cs factor rs).circles
    unfolding arranged
    arranged-promises =
        let result = (arranged proportion cs factor rs).result in
        record {
          padding = (padding_64 handed_over factor factor-fits factor-ok).fin;
          finite = finite-kept cs rs sound g.count g.numbers last _ _ shifts_error_small numbering.inside together carried;
          gap = λ i j hi hj d. apart_looser gap_slack pad (circle last i) (circle last j) (packed.gap i j (rw turned-length hi) (rw turned-length hj) (λ e. d (numbered i ∙ e ∙ sym (numbered j))));
          distance = λ i j hi hj e. distance_promised cs rs sound g.count g.numbers last _ _ shifts_error_small numbering.inside together carried i j hi hj (same i j e);
          reach = reach_promised cs rs sound g.count g.numbers last _ _ shifts_error_small numbering.inside together carried;
          chain = λ i j hi hj. same_filled_number_iff_chain n rs (tolerance rs) i j hi hj circle_cap;
          middle = λ some. rw turned-length at (centred_promised {i = 37} {o = 38} tt tt packed bound.near middle_fits_64 (rw turned-length some));
          first = λ i j F. let h = hung result numbered i j F in (
            not_past_promised n g.numbers result numbered last bound.near (mirror_slack + 4 * (pow2 37 + pow2 38)) first_fits_64 i x_axis h.first_in h.across,
            not_past_promised n g.numbers result numbered last bound.near (mirror_slack + 4 * (pow2 37 + pow2 38)) first_fits_64 i y_axis h.first_in h.up,
          );
          level = λ i j F. level_wider (units (circle last j).center.y ⊖ units (circle last i).center.y) (hung result numbered i j F).level;
        }
      where
        level_wider : (d : Z) → Within d (gauge_level + 2 * (pow2 37 + pow2 38)) → Within d bound.level
        level_wider d w = omega (arith, level_fits_64)

-- ---- of a call within the limits, whose floats are f64
accepted_sound : (cs : List Circle) (factor : Float) (masks : List ℕ) (areas : List Float) → AreDoubles cs factor → WithinLimits cs factor masks areas → (i : ℕ) → i < length cs → Sound (circle cs i)
accepted_sound cs factor masks areas d a i l = circle-accepted (circle cs i) (d.x i l) (d.y i l) (d.radius i l) (a.centres i l).0 (a.centres i l).1 (a.radii i l)

pub accepted_handed_over : (cs : List Circle) (factor : Float) (masks : List ℕ) (areas : List Float) → AreDoubles cs factor → WithinLimits cs factor masks areas
    → let rs = regions masks areas in let g = clusters (length cs) rs (tolerance rs) in
    Gauged64 g (gauged g.count g.numbers (offset cs rs).circles)
accepted_handed_over cs factor masks areas d a =
    handed_over cs (regions masks areas) factor (accepted_sound cs factor masks areas d a) d.radius a.radii d.factor a.factor-inside a.few_circles

-- ---- of an accepted call, whose floats are f64
pub layout-promises : Demand3
unfolding Demand3
layout-promises cs factor masks areas proportion d fit h =
    let accepted = (layout_accepted_iff cs factor masks areas proportion).0 h in
    let a = within_limits cs factor masks areas accepted.0 in
    let e = (layout-answers cs factor masks areas proportion).on_acceptance h in
    subst (λ (l : Layout). Promises bound cs (regions masks areas) l.result l.circles) (sym e)
    (arranged-promises cs (regions masks areas) factor (accepted_sound cs factor masks areas d a) d.radius a.radii d.factor a.factor-inside a.few_circles
    proportion (proportion_is proportion fit accepted.1))

-- ---- clause by clause
pub layout-gap : GapKept
unfolding GapKept Demand3
layout-gap cs factor masks areas proportion d fit h = (layout-promises cs factor masks areas proportion d fit h).gap

pub layout-distance : DistanceKept
unfolding DistanceKept Demand3
layout-distance cs factor masks areas proportion d fit h i j hi hj equal mi mj =
    let a = (layout-promises cs factor masks areas proportion d fit h).distance i j hi hj equal mi mj in
    (a.shrunk, a.grown)

pub layout-reach : ReachKept
unfolding ReachKept Demand3
layout-reach cs factor masks areas proportion d fit h i hi moved =
    let r = (layout-promises cs factor masks areas proportion d fit h).reach i hi moved in
    (r.0, r.1, r.2.room, r.2.covers)

pub layout-chain : ChainKept
unfolding ChainKept Demand3
layout-chain cs factor masks areas proportion d fit h = (layout-promises cs factor masks areas proportion d fit h).chain

pub layout-middle : MiddleKept
unfolding MiddleKept Demand3
layout-middle cs factor masks areas proportion d fit h some =
    let m = (layout-promises cs factor masks areas proportion d fit h).middle some in
    ((m.0.box, omega (arith, m.0.near), omega (arith, m.0.near)), (m.1.box, omega (arith, m.1.near), omega (arith, m.1.near)))

pub layout-first : FirstKept
unfolding FirstKept Demand3
layout-first cs factor masks areas proportion d fit h i j hi hj apart same =
    let p = layout-promises cs factor masks areas proportion d fit h in
    let two = has_first_two (length cs) _ i j hi hj apart same in
    let f = p.first two.0 two.1 two.2 in
    (two.0, two.1, two.2, two.3, ((f.0.range, omega (arith, f.0.not_past)), (f.1.range, omega (arith, f.1.not_past))))

pub layout-level : LevelKept
unfolding LevelKept Demand3
layout-level cs factor masks areas proportion d fit h i j hi hj apart same =
    let p = layout-promises cs factor masks areas proportion d fit h in
    let two = has_first_two (length cs) _ i j hi hj apart same in
    let l = p.level two.0 two.1 two.2 in
    (two.0, two.1, two.2, two.3, (omega (arith, l), omega (arith, l)))
