-- Document 01's numbers: 64 circles with radii from 2^-20 to 2^20, sides of at most 2^23, padding of at most 2^26. Up to 16 columns and rows the gap is short
-- of the padding by at most 2^-19, and no proportion from 1/4 to 4 makes more.
use Prim.Native.Nat.{ℕ, ◌+◌, ◌*◌, ◌≤◌, ◌<◌}
use native.Mathlib.Nat.{le_trans}
use native.Mathlib.Omega.{arith}
use mathlib.Core.Path.{◌≡◌}
use mathlib.Core.List.{List}
use lib.Dec.{T, lit≤}
use lib.ListN.{length}
use lib.Ieee.{Float, binary64, fits}
use Rattle.algebra.specs.Integer.{Z, nat, Within, ◌⊖◌, ◌≼◌, ◌≺◌}
use Rattle.rounding.specs.Scale.{pow2}
use Rattle.shapes.specs.declared.circle.Circle.{Circle}
use Rattle.scope.specs.Limits.{circle_cap, radius_ok, factor_ok}
use Rattle.scope.specs.Links.{circle}
use Rattle.scope.specs.Groups.{Clusters}
use Rattle.scope.specs.Packing.{columns, rows, rectangle}
use Rattle.scope.specs.Padding.{boxes, padding}
use Rattle.scope.specs.Promises.{units, Slack}
use Rattle.promises.specs.Demand3.{bound, gap_bound}
use Rattle.laws.proofs.Numbering.{Numbering, number_in}
use Rattle.promises.proofs.numbers.Bounded.{Bounded, Upto}
use Rattle.promises.proofs.numbers.InRange.{radius_bounded, radius_at_least, radius_lifted, factor_bounded, factor_not_negative}
use Rattle.promises.proofs.gauge.Hangs.{mirror_slack}
use Rattle.promises.proofs.gauge.HungCluster.{gauge_level}
use Rattle.promises.proofs.packing.Columns.{GridFits}
use Rattle.promises.proofs.packing.Proportions.{Proportion, grid_fits_64}
use Rattle.promises.proofs.packing.ClusterBoxes.{Clustered}
use Rattle.promises.proofs.packing.Returned.{Arranged, returned}
use Rattle.promises.proofs.packing.Arrangement.{Budget, sheet_room, packed_and_centred, width_is_upto, height_is_upto, padding_bounded, padding_not_negative}

-- how far apart the centres of one cluster are on an axis, in units: (23/4) 2^20 and 2^-16
abbrev pub spread64 : ℕ
spread64 = 23 * pow2 78 + pow2 44

pub budget64 : Budget 35 37 38 23 3 16 (pow2 87) (pow2 80) spread64 gap_bound
unfolding pow2
budget64 = record {
  th = tt;
  ti = tt;
  to = tt;
  ts = tt;
  few = lit≤ tt;
  finer = lit≤ tt;
  sides = lit≤ tt;
  lengths = lit≤ tt;
  positions = lit≤ tt;
  ends = lit≤ tt;
  answers = lit≤ tt;
  slack = lit≤ tt;
}

-- ---- how a card hangs, at these numbers: the middle within 2^-20 (5 * 2^-23 in fact) and the first centre too (197 * 2^-28), level centres within 441 * 2^-20
abbrev hang64 : Slack
hang64 = record { near = pow2 40; level = 441 * pow2 40 }

middle_is_64 : 2 * pow2 37 + 4 * pow2 38 ≤ 2 * hang64.near
unfolding pow2
middle_is_64 = lit≤ tt

first_is_64 : mirror_slack + 4 * (pow2 37 + pow2 38) ≤ 2 * hang64.near
unfolding pow2
first_is_64 = lit≤ tt

level_is_64 : gauge_level + 2 * (pow2 37 + pow2 38) ≤ hang64.level
unfolding pow2
level_is_64 = lit≤ tt

-- a sixteenth of what is promised, and 441 of 512 parts
near_promised : 16 * hang64.near ≤ bound.near
unfolding pow2
near_promised = lit≤ tt

level_promised : hang64.level ≤ bound.level
unfolding pow2
level_promised = lit≤ tt

pub middle_fits_64 : 2 * pow2 37 + 4 * pow2 38 ≤ 2 * bound.near
middle_fits_64 = omega (arith, middle_is_64, near_promised)

pub first_fits_64 : mirror_slack + 4 * (pow2 37 + pow2 38) ≤ 2 * bound.near
first_fits_64 = omega (arith, first_is_64, near_promised)

pub level_fits_64 : gauge_level + 2 * (pow2 37 + pow2 38) ≤ bound.level
level_fits_64 = le_trans level_is_64 level_promised

-- what packing and centring make of the circles, at these numbers
abbrev pub Arranged64 : Float → ℕ → List ℕ → Float → List Circle → Type 0
Arranged64 proportion count numbers pad cs =
    Arranged 37 38 gap_bound (sheet_room 35 37 38 23 3 (columns count proportion)) (sheet_room 35 37 38 23 3 (rows count (columns count proportion))) numbers pad cs (returned proportion count numbers cs pad)

-- ---- what the gauge hands over: the circles of a layout with their cluster numbers
pub record Gauged64 (g : Clusters) (cs : List Circle) : Type 0 where
  pub numbering : Numbering (length cs) g
  pub few : length cs ≤ circle_cap
  pub x : (j : ℕ) → j < length cs → Bounded (pow2 87) (circle cs j).center.x
  pub y : (j : ℕ) → j < length cs → Bounded (pow2 87) (circle cs j).center.y
  pub radius-fits : (j : ℕ) → j < length cs → T (fits binary64 (circle cs j).radius)
  pub radius_ok_lem : (j : ℕ) → j < length cs → T (radius_ok (circle cs j).radius)
  pub spread_x : (j m : ℕ) → j < length cs → m < length cs → number_in g j ≡ number_in g m → Within (units (circle cs j).center.x ⊖ units (circle cs m).center.x) spread64
  pub spread_y : (j m : ℕ) → j < length cs → m < length cs → number_in g j ≡ number_in g m → Within (units (circle cs j).center.y ⊖ units (circle cs m).center.y) spread64

module _ {g : Clusters} {cs : List Circle} (G : Gauged64 g cs) where
  clustered : Clustered (pow2 87) (pow2 80) spread64 (pow2 35) g.count g.numbers cs
  clustered = record {
    circles = λ j l. let r = (circle cs j).radius in record { x = G.x j l; y = G.y j l; radius = radius_bounded r (G.radius-fits j l) (G.radius_ok_lem j l); lifted = radius_lifted r (G.radius_ok_lem j l) };
    thick = λ j l. above (units (circle cs j).radius) (radius_at_least (circle cs j).radius (G.radius-fits j l) (G.radius_ok_lem j l));
    numbered = G.numbering.inside;
    used = λ a l. let u = G.numbering.used a l in (u.0, u.1.below, u.1.has);
    spread_x = G.spread_x;
    spread_y = G.spread_y;
  }
    where
      apart : pow2 35 < pow2 40
      apart = unfold pow2 in lit≤ tt

      above : (r : Z) → nat (pow2 40) ≼ r → nat (pow2 35) ≺ r
      above r h = omega (arith, apart)

  pub few_clusters : g.count ≤ 64
  unfolding circle_cap
  few_clusters = omega (arith, G.few, G.numbering.few)

  module _ (factor : Float) (fit : T (fits binary64 factor)) (ok : T (factor_ok factor)) where
    abbrev pad : Float
    pad = padding (boxes g.count g.numbers cs) factor

    -- sides are at most 2^23, padding at most 2^26: the packing's own ranges
    pub width_64 : (a : ℕ) → a < g.count → Upto (pow2 83) (rectangle (boxes g.count g.numbers cs) a).width
    width_64 = width_is_upto budget64 clustered few_clusters factor (factor_bounded factor fit ok)

    pub height_64 : (a : ℕ) → a < g.count → Upto (pow2 83) (rectangle (boxes g.count g.numbers cs) a).height
    height_64 = height_is_upto budget64 clustered few_clusters factor (factor_bounded factor fit ok)

    pub padding_64 : Bounded (pow2 86) pad
    padding_64 = padding_bounded budget64 clustered few_clusters factor (factor_bounded factor fit ok)

    pub padding_not_negative_64 : nat 0 ≼ units pad
    padding_not_negative_64 = padding_not_negative budget64 clustered few_clusters factor (factor_bounded factor fit ok) (factor_not_negative factor fit ok)

    -- any proportion whose grid has at most 16 columns and rows
    pub arranged_64 : (proportion : Float) → (0 < g.count → GridFits 16 g.count (columns g.count proportion)) → Arranged64 proportion g.count g.numbers pad cs
    arranged_64 proportion grid = packed_and_centred budget64 clustered few_clusters factor (factor_bounded factor fit ok) (factor_not_negative factor fit ok) proportion grid

    -- so any from 1/4 to 4
    pub proportion_arranged_64 : (proportion : Float) → Proportion proportion → Arranged64 proportion g.count g.numbers pad cs
    proportion_arranged_64 proportion P = arranged_64 proportion (λ some. grid_fits_64 g.count some few_clusters proportion P)
