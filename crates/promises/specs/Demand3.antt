-- Demand 3 of the whole layout and how its card hangs: the seven promises of every accepted call, together and each written out, and the bounds that they hold with.
use Rattle.std.specs.Prelude.{ℕ, ◌*◌, ◌<◌, ◌^◌, ◌≡◌, refl, ◌⊎◌, ◌↔◌, ◌≢◌, not, List, T, length, Float}
use Rattle.std.proofs.Math.Option.{some}
use Rattle.std.specs.Float.{binary64}
use Rattle.std.specs.Float.Ieee.{fits}
use Rattle.algebra.specs.Integer.{Z, nat, ◌⊕◌, ◌⊖◌, ◌⊗◌, ◌≼◌}
use Rattle.rounding.specs.Scale.{pow2}
use Rattle.shapes.specs.declared.circle.Circle.{Circle}
use Rattle.scope.specs.Runs.{bit}
use Rattle.scope.specs.Refusals.{layout_refusal}
use Rattle.scope.specs.Links.{Region, regions, circle}
use Rattle.scope.specs.Tolerance.{tolerance}
use Rattle.scope.specs.Offset.{parent_of}
use Rattle.scope.specs.Layout.{Result, layout}
use Rattle.scope.specs.Promises.{Slack, Promises, Chain, Range, FirstTwo, number_of, units, x_axis, y_axis, OnEachAxis, lower, upper, gap_on, square, squared_distance}

-- 1/65,536 mm, and 1/2,048 mm for level centres, in units of 2^-1074
abbrev pub bound : Slack
bound = record { near = pow2 44; level = pow2 49 }

pub near_is_one_65536th : 65536 * bound.near ≡ 2 ^ 1074
unfolding pow2
near_is_one_65536th = refl

pub level_is_one_2048th : 2048 * bound.level ≡ 2 ^ 1074
unfolding pow2
level_is_one_2048th = refl

-- 2^-19 mm: what the gap is really short of the padding by, at most
abbrev pub gap_bound : ℕ
gap_bound = pow2 41

-- "All reals are f64": a value of the definitions' type `Float` need not be one, a caller's number is
pub record AreDoubles (cs : List Circle) (given : Float) : Type 0 where
  pub x : (i : ℕ) → i < length cs → T (fits binary64 (circle cs i).center.x)
  pub y : (i : ℕ) → i < length cs → T (fits binary64 (circle cs i).center.y)
  pub radius : (i : ℕ) → i < length cs → T (fits binary64 (circle cs i).radius)
  pub factor : T (fits binary64 given)

-- for every accepted call, whatever its proportion, with no other premise: of the circles as handed in, the regions, the returned record and the circles as
-- returned
abbrev pub OfEveryLayout : (List Circle → List Region → Result → List Circle → Type 0) → Type 0
OfEveryLayout Promised =
    (cs : List Circle) (factor : Float) (masks : List ℕ) (areas : List Float) (proportion : Float) → AreDoubles cs factor → T (fits binary64 proportion)
    → layout_refusal cs factor masks areas proportion ≡ 0
    → Promised cs (regions masks areas) (layout cs factor masks areas proportion).result (layout cs factor masks areas proportion).circles

unfoldable pub Demand3 : Type 0
Demand3 = OfEveryLayout (Promises bound)

-- ---- the seven clauses, each with all that it says

-- gap: circles of different clusters are the padding apart on one axis at least
unfoldable pub GapKept : Type 0
GapKept = OfEveryLayout λ handed rs result returned. (i j : ℕ) → i < length handed → j < length handed → number_of result i ≢ number_of result j
    → (units result.padding ⊖ nat bound.near ≼ gap_on x_axis (circle returned i) (circle returned j))
    ⊎ (units result.padding ⊖ nat bound.near ≼ gap_on y_axis (circle returned i) (circle returned j))

-- distance: two circles of one cluster, neither of them moved, are as far apart as they came in, within t. With d and e the squares as handed in and as
-- returned, d - e - t^2 is not above 0 or has a square of at most 4*t^2*e, and the same with d and e changed over.
unfoldable pub DistanceKept : Type 0
DistanceKept = OfEveryLayout λ handed rs result returned. (i j : ℕ) → i < length handed → j < length handed → number_of result i ≡ number_of result j
    → T (not (bit result.moved i)) → T (not (bit result.moved j))
    → let d = squared_distance (circle handed i) (circle handed j) in
    let e = squared_distance (circle returned i) (circle returned j) in
    ((d ⊖ e ⊖ nat (bound.near * bound.near) ≼ nat 0) ⊎ (square (d ⊖ e ⊖ nat (bound.near * bound.near)) ≼ nat (4 * (bound.near * bound.near)) ⊗ e))
    × ((e ⊖ d ⊖ nat (bound.near * bound.near) ≼ nat 0) ⊎ (square (e ⊖ d ⊖ nat (bound.near * bound.near)) ≼ nat (4 * (bound.near * bound.near)) ⊗ d))

-- reach: a moved circle has a parent in the offset step, and with R and r their radii R + t - r is not below 0 and covers the distance of their centres
unfoldable pub ReachKept : Type 0
ReachKept = OfEveryLayout λ handed rs result returned. (i : ℕ) → i < length handed → T (bit result.moved i)
    → (p : ℕ) × (parent_of (length handed) rs i ≡ some p)
    × (nat 0 ≼ units (circle returned p).radius ⊕ nat bound.near ⊖ units (circle returned i).radius)
    × (squared_distance (circle returned p) (circle returned i) ≼ square (units (circle returned p).radius ⊕ nat bound.near ⊖ units (circle returned i).radius))

-- chain: two circles have one cluster number exactly if they are the same circle or a chain of regions joins them
unfoldable pub ChainKept : Type 0
ChainKept = OfEveryLayout λ handed rs result returned. (i j : ℕ) → i < length handed → j < length handed
    → (number_of result i ≡ number_of result j) ↔ ((i ≡ j) ⊎ Chain (length handed) (tolerance rs) rs i j)

-- ---- how a card with a circle hangs

-- middle: with lo and hi the ends of the box of all circles on an axis, their sum is at most 2*t in size
unfoldable pub MiddleKept : Type 0
MiddleKept = OfEveryLayout λ handed rs result returned. 0 < length handed → OnEachAxis λ axis.
    (box : Range (λ k. k < length handed) (λ k. lower axis (circle returned k)) (λ k. upper axis (circle returned k)))
    × (box.lo ⊕ box.hi ≼ nat (2 * bound.near)) × (nat 0 ≼ box.lo ⊕ box.hi ⊕ nat (2 * bound.near))

-- A cluster of two circles or more has a first and a second one, a and b.
abbrev OfFirstTwo : List Circle → Result → (ℕ → ℕ → Type 0) → Type 0
OfFirstTwo handed result Promised = (i j : ℕ) → i < length handed → j < length handed → i ≢ j → number_of result i ≡ number_of result j
    → (a : ℕ) × (b : ℕ) × FirstTwo (length handed) result a b × (number_of result a ≡ number_of result i) × Promised a b

-- first: twice its coordinate is at most the sum of the ends of its cluster's centres and 2*t, on each axis
unfoldable pub FirstKept : Type 0
FirstKept = OfEveryLayout λ handed rs result returned. OfFirstTwo handed result λ a b. OnEachAxis λ axis.
    let centre : ℕ → Z = λ k. units (axis (circle returned k).center) in
    (range : Range (λ k. (k < length handed) × (number_of result k ≡ number_of result a)) centre centre)
    × (nat 2 ⊗ centre a ≼ range.lo ⊕ range.hi ⊕ nat (2 * bound.near))

-- level: the heights of the two differ by at most 1/2,048 mm
unfoldable pub LevelKept : Type 0
LevelKept = OfEveryLayout λ handed rs result returned. OfFirstTwo handed result λ a b.
    let y : ℕ → Z = λ k. units (circle returned k).center.y in
    (y b ≼ y a ⊕ nat bound.level) × (y a ≼ y b ⊕ nat bound.level)
