-- Document 01, "Packing and centring": demand 3, stated, and document 02, 7/14, how a card hangs. "Demand 3 reads f64 values as whole multiples of 2^-1074", and
-- so does the other: no rounding stands between them. Bounds are numbers of such units.
use Rattle.std.specs.Prelude.{ℕ, ◌+◌, ◌*◌, ◌<◌, ◌≡◌, ◌⊎◌, ◌↔◌, ◌≢◌, not, cond, T, leb, get_or, length, Float}
use mathlib.Core.List.{List, [], ◌∷◌, Memᴰ}
use Rattle.std.proofs.Math.Option.{some}
use Rattle.std.specs.Float.{binary64}
use Rattle.algebra.specs.Integer.{Z, nat, ◌⊕◌, ◌⊖◌, ◌⊗◌, ◌≼◌, Within}
use Rattle.rounding.specs.Value.{val, Fin}
use Rattle.shapes.specs.declared.point.Point.{Point}
use Rattle.shapes.specs.declared.circle.Circle.{Circle}
use Rattle.scope.specs.Runs.{bit}
use Rattle.scope.specs.Links.{Region, holds, counts, circle}
use Rattle.scope.specs.Tolerance.{tolerance}
use Rattle.scope.specs.Offset.{parent_of}
use Rattle.scope.specs.Layout.{Result}

-- a value in units of 2^-1074
abbrev pub units : Float → Z
units x = val binary64 x

-- an axis: which coordinate of a point
abbrev pub x_axis : Point → Float
x_axis p = p.x

abbrev pub y_axis : Point → Float
y_axis p = p.y

-- "on each axis"
abbrev pub OnEachAxis : ((Point → Float) → Type 0) → Type 0
OnEachAxis Promised = Promised x_axis × Promised y_axis

-- a circle whose numbers are finite f64, so that its units are its values
pub record Finite (c : Circle) : Type 0 where
  pub x : Fin binary64 c.center.x
  pub y : Fin binary64 c.center.y
  pub radius : Fin binary64 c.radius

-- ---- gap

-- "a box is a returned circle's centre plus and minus its radius": its two ends on an axis
abbrev pub lower : (Point → Float) → Circle → Z
lower axis c = units (axis c.center) ⊖ units c.radius

abbrev pub upper : (Point → Float) → Circle → Z
upper axis c = units (axis c.center) ⊕ units c.radius

unfoldable pub larger : Z → Z → Z
larger a b = cond (leb (a.p + b.n) (b.p + a.n)) b a

-- "the larger of two differences, each the lower end of one box less the upper end of the other"
unfoldable pub gap_on : (Point → Float) → Circle → Circle → Z
gap_on axis a b = larger (lower axis a ⊖ upper axis b) (lower axis b ⊖ upper axis a)

-- on one axis the gap is the padding or more, up to t
abbrev pub Apart : ℕ → Float → Circle → Circle → Type 0
Apart t padding a b = (units padding ⊖ nat t ≼ gap_on x_axis a b) ⊎ (units padding ⊖ nat t ≼ gap_on y_axis a b)

-- ---- distance

abbrev pub square : Z → Z
square a = a ⊗ a

-- the square of the distance of two centres
abbrev pub squared_distance : Circle → Circle → Z
squared_distance a b = square (units a.center.x ⊖ units b.center.x) ⊕ square (units a.center.y ⊖ units b.center.y)

-- "d - e - t^2 is not above 0 or has a square of at most 4*t^2*e"
abbrev pub Exceeds≤ : ℕ → Z → Z → Type 0
Exceeds≤ t d e = (d ⊖ e ⊖ nat (t * t) ≼ nat 0) ⊎ (square (d ⊖ e ⊖ nat (t * t)) ≼ nat (4 * (t * t)) ⊗ e)

-- "the two are within t", d and e being their squares
pub record Alike (t : ℕ) (d e : Z) : Type 0 where
  pub shrunk : Exceeds≤ t d e
  pub grown : Exceeds≤ t e d

-- ---- reach

-- "R + t - r is not below 0 and its square is at least that of their returned centre distance", which is e
pub record ReachesWithin (t : ℕ) (R r e : Z) : Type 0 where
  pub room : nat 0 ≼ R ⊕ nat t ⊖ r
  pub covers : e ≼ square (R ⊕ nat t ⊖ r)

-- ---- chain

unfoldable pub last_of : Region → List Region → Region
last_of r [] = r
last_of r (s ∷ c) = last_of s c

unfoldable pub Each : (Region → Type 0) → List Region → Type 0
Each P [] = Unit {0}
Each P (r ∷ c) = P r × Each P c

-- each region shares a circle of the layout with the next
unfoldable pub Joined : ℕ → Region → List Region → Type 0
Joined n r [] = Unit {0}
Joined n r (s ∷ c) = ((k : ℕ) × (k < n) × T (holds r k) × T (holds s k)) × Joined n s c

-- A chain of regions of the layout whose areas are finite and not at most the tolerance. "A chain's first region holds the one circle and its last the other."
pub record Chain (n : ℕ) (tol : Float) (rs : List Region) (i j : ℕ) : Type 0 where
  pub first : Region
  pub others : List Region
  pub good : Each (λ r. Memᴰ r rs × T (counts tol r)) (first ∷ others)
  pub starts : T (holds first i)
  pub ends : T (holds (last_of first others) j)
  pub joined : Joined n first others

-- the cluster number of a circle
abbrev pub number_of : Result → ℕ → ℕ
number_of result i = get_or result.numbers i 0

-- ---- how a card hangs: document 02, 7/14

-- The range of some numbers, those of which P holds: it goes from the least lower end to the greatest upper one. Twice its middle is the sum of its ends.
pub record Range (P : ℕ → Type 0) (lowerEnd upperEnd : ℕ → Z) : Type 0 where
  pub lo : Z
  pub hi : Z
  pub lo_bounds : (k : ℕ) → P k → lo ≼ lowerEnd k
  pub lo_taken : (k : ℕ) × P k × (lowerEnd k ≼ lo)
  pub hi_bounds : (k : ℕ) → P k → upperEnd k ≼ hi
  pub hi_taken : (k : ℕ) × P k × (hi ≼ upperEnd k)

-- "the finished box has its middle within 1/65,536 of the origin", of n circles on an axis
pub record Centred (t : ℕ) (axis : Point → Float) (n : ℕ) (cs : List Circle) : Type 0 where
  pub box : Range (λ k. k < n) (λ k. lower axis (circle cs k)) (λ k. upper axis (circle cs k))
  pub near : Within (box.lo ⊕ box.hi) (2 * t)

-- "first", "second": a cluster's two members of lowest number
pub record FirstTwo (n : ℕ) (result : Result) (i j : ℕ) : Type 0 where
  pub rising : i < j
  pub inside : j < n
  pub together : number_of result j ≡ number_of result i
  pub no_other : (k : ℕ) → k < j → number_of result k ≡ number_of result i → k ≡ i

-- "its first centre no more than 1/65,536 to the right of, or above, the middle of the range of that cluster's centres on that axis": circle i's of those
-- with its number
pub record NotPast (t : ℕ) (axis : Point → Float) (n : ℕ) (result : Result) (cs : List Circle) (i : ℕ) : Type 0 where
  pub range : let centre : ℕ → Z = λ k. units (axis (circle cs k).center) in Range (λ k. (k < n) × (number_of result k ≡ number_of result i)) centre centre
  pub not_past : nat 2 ⊗ units (axis (circle cs i).center) ≼ range.lo ⊕ range.hi ⊕ nat (2 * t)

-- "level … to within"
abbrev pub Level : ℕ → Circle → Circle → Type 0
Level t a b = Within (units b.center.y ⊖ units a.center.y) t

-- ---- the bounds
pub record Slack : Type 0 where
  -- t, of gap, distance, reach, the middle of the box and the first centre
  pub near : ℕ
  -- of the second centre's height beside the first
  pub level : ℕ

-- ---- what is promised of an accepted layout: the circles as handed in, the regions, the returned record, the circles as returned
pub record Promises (t : Slack) (handed : List Circle) (rs : List Region) (result : Result) (returned : List Circle) : Type 0 where
  -- what the clauses below read as whole multiples are numbers
  pub padding : Fin binary64 result.padding
  pub finite : (i : ℕ) → i < length handed → Finite (circle returned i)
  -- circles of different clusters are the padding apart
  pub gap : (i j : ℕ) → i < length handed → j < length handed → number_of result i ≢ number_of result j
      → Apart t.near result.padding (circle returned i) (circle returned j)
  -- circles of one cluster, neither of them moved, keep their distance
  pub distance : (i j : ℕ) → i < length handed → j < length handed → number_of result i ≡ number_of result j
      → T (not (bit result.moved i)) → T (not (bit result.moved j))
      → Alike t.near (squared_distance (circle handed i) (circle handed j)) (squared_distance (circle returned i) (circle returned j))
  -- a moved circle has a parent, and does not reach past it
  pub reach : (i : ℕ) → i < length handed → T (bit result.moved i)
      → (p : ℕ) × (parent_of (length handed) rs i ≡ some p)
      × ReachesWithin t.near (units (circle returned p).radius) (units (circle returned i).radius) (squared_distance (circle returned p) (circle returned i))
  -- two circles are in one cluster exactly if a chain joins them
  pub chain : (i j : ℕ) → i < length handed → j < length handed
      → (number_of result i ≡ number_of result j) ↔ ((i ≡ j) ⊎ Chain (length handed) (tolerance rs) rs i j)
  -- the finished box has its middle at the origin
  pub middle : 0 < length handed → OnEachAxis λ axis. Centred t.near axis (length handed) returned
  -- the first centre of a cluster is not right of the middle of its centres, nor above it
  pub first : (i j : ℕ) → FirstTwo (length handed) result i j → OnEachAxis λ axis. NotPast t.near axis (length handed) result returned i
  -- and the second is level with it
  pub level : (i j : ℕ) → FirstTwo (length handed) result i j → Level t.level (circle returned i) (circle returned j)
