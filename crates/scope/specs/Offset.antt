-- Document 01, "Offset": `offset_contained_children` and the functions of normalize.rs that it calls, in the source's order of operations.
use Rattle.std.specs.Prelude.{ℕ, zero, suc, ◌+◌, ◌-◌, ◌^◌, Bool, false, not, ◌&&◌, ◌||◌, cond, List, [], ◌∷◌, eqb, ltb, get_or, length, set, Float}
use Rattle.std.proofs.Math.Option.{Option, none, some}
use Rattle.std.specs.Int.Bits.{bit_or}
use Rattle.std.specs.Float.{binary64}
use Rattle.rounding.specs.Root.{root}
use Rattle.rounding.specs.Extremes.{maximum}
use Rattle.shapes.specs.declared.point.Point.{Point}
use Rattle.shapes.specs.declared.circle.Circle.{Circle}
use Rattle.scope.specs.Numbers.{◌+ᶠ◌, ◌-ᶠ◌, ◌*ᶠ◌, ◌/ᶠ◌, ◌<ᶠ◌, ◌≤ᶠ◌, nought, one, two, half, e_6, e_9}
use Rattle.scope.specs.Runs.{tab, gather, in_turn, many, least, some_below}
use Rattle.shapes.specs.Records.{point_at}
use Rattle.shapes.specs.Lift.{moved_to}
use Rattle.shapes.specs.Boxes.{circle_box, width_of, height_of}
use Rattle.scope.specs.Distance.{contains}
use Rattle.scope.specs.Links.{Region, holds, circle, overlap}
use Rattle.scope.specs.Tolerance.{region, tolerance}

-- ---- parents

-- "A circle's total sums areas of masks holding it, skipping those <= 0 (NaN is not skipped)", in the order of the list
unfoldable pub total : List Region → ℕ → Float
total rs i = gather (λ t r. t +ᶠ r.area) nought (λ k. holds (region rs k) i && not ((region rs k).area ≤ᶠ nought)) (length rs) (region rs)

-- the area of the region with this mask, 0 if there is none
unfoldable pub area_with_mask : ℕ → List Region → Float
area_with_mask m [] = nought
area_with_mask m (r ∷ rs) = cond (eqb r.mask m) r.area (area_with_mask m rs)

-- the circles that share a region with circle i, as one mask: of regions that are not at most the tolerance ("NaN areas also pass the area test")
unfoldable pub other_bits : Float → List Region → ℕ → ℕ
other_bits tol rs i = gather (λ m r. bit_or m (r.mask - 2 ^ i)) 0 (λ k. holds (region rs k) i && not ((region rs k).area ≤ᶠ tol)) (length rs) (region rs)

-- `contained_child_parent`: circle i has no region of its own above the tolerance, and shares regions with one circle alone, which is below n
unfoldable pub contained_child_parent : ℕ → List Region → Float → ℕ → Option ℕ
contained_child_parent n rs tol i =
    let o = other_bits tol rs i in
    let p = least n (λ q. eqb (2 ^ q) o) in
    cond (not (tol <ᶠ area_with_mask (2 ^ i) rs) && ltb p n) (some p) none

-- "then child total < parent total * (1 - 1e-6)"
unfoldable pub smaller : List Region → ℕ → ℕ → Bool
smaller rs i p = total rs i <ᶠ total rs p *ᶠ (one -ᶠ e_6)

unfoldable pub if_smaller : List Region → ℕ → Option ℕ → Option ℕ
if_smaller rs i none = none
if_smaller rs i (some p) = cond (smaller rs i p) (some p) none

-- the parent of circle i
unfoldable pub parent_of : ℕ → List Region → ℕ → Option ℕ
parent_of n rs i = if_smaller rs i (contained_child_parent n rs (tolerance rs) i)

unfoldable pub is_parent : ℕ → Option ℕ → Bool
is_parent p none = false
is_parent p (some q) = eqb p q

unfoldable pub parents : ℕ → List Region → List (Option ℕ)
parents n rs = tab n (parent_of n rs)

-- "exactly one child per parent"
unfoldable pub only_child : List (Option ℕ) → ℕ → Bool
only_child ps p = eqb (many (length ps) (λ i. is_parent p (get_or ps i none))) 1

-- ---- the move

-- `translate_shape`
unfoldable pub translated : Circle → Float → Float → Circle
translated c dx dy = moved_to c (c.center.x +ᶠ dx) (c.center.y +ᶠ dy)

-- the root of x*x + y*y, each step rounded
unfoldable pub magnitude : Float → Float → Float
magnitude x y = root binary64 (x *ᶠ x +ᶠ y *ᶠ y)

-- the diagonal of a circle's box
unfoldable pub diagonal : Circle → Float
diagonal c = magnitude (width_of (circle_box c)) (height_of (circle_box c))

-- how far the child is moved on each axis to stand at the parent's centre plus d along u
unfoldable pub move : Circle → Circle → Point → Float → Point
move parent child u d = point_at (parent.center.x +ᶠ u.x *ᶠ d -ᶠ child.center.x) (parent.center.y +ᶠ u.y *ᶠ d -ᶠ child.center.y)

unfoldable pub child_at : Circle → Circle → Point → Float → Circle
child_at parent child u d = translated child (move parent child u d).x (move parent child u d).y

-- `contains_at`
unfoldable pub contains_at : Circle → Circle → Point → Float → Bool
contains_at parent child u d = contains parent (child_at parent child u d)

-- while `inside` holds, and at most k times, twice as far
unfoldable pub doubled : (Float → Bool) → ℕ → Float → Float
doubled inside zero hi = hi
doubled inside (suc k) hi =
    let further = doubled inside k (hi *ᶠ two) in
    cond (inside hi) further hi

-- k halvings of the range from lo to hi: its middle is the new lower end if it is inside, else the new upper one
unfoldable pub halved : (Float → Bool) → ℕ → Float → Float → Float
halved inside zero lo hi = lo
halved inside (suc k) lo hi =
    let mid = half *ᶠ (lo +ᶠ hi) in
    let above = halved inside k mid hi in
    let below = halved inside k lo mid in
    cond (inside mid) above below

unfoldable pub doublings : ℕ
doublings = 8

-- "its 48 halvings"
unfoldable pub halvings : ℕ
halvings = 48

-- `max_contained_offset`
unfoldable pub max_contained_offset : Circle → Circle → Point → Float
max_contained_offset parent child u =
    let hi = diagonal parent in
    let found = halved (contains_at parent child u) halvings nought (doubled (contains_at parent child u) doublings hi) in
    cond (contains_at parent child u nought && not (hi ≤ᶠ nought)) found nought

-- the direction from parent to child, (1, 0) where they are too near each other
unfoldable pub direction : Circle → Circle → Point
direction parent child =
    let dx = child.center.x -ᶠ parent.center.x in
    let dy = child.center.y -ᶠ parent.center.y in
    let mag = magnitude dx dy in
    cond (e_9 *ᶠ maximum (diagonal parent) one <ᶠ mag) (point_at (dx /ᶠ mag) (dy /ᶠ mag)) (point_at one nought)

-- whether a circle other than the parent p and the child i overlaps c
unfoldable pub blocked : List Circle → ℕ → ℕ → Circle → Bool
blocked cs p i c = some_below (length cs) (λ k. not (eqb k i) && not (eqb k p) && overlap c (circle cs k))

-- "Already at the canonical offset": the move is no longer than 1e-9 times the larger of dMax and 1
unfoldable pub there : Point → Float → Bool
there m dMax = magnitude m.x m.y ≤ᶠ e_9 *ᶠ maximum dMax one

-- `reposition_contained_child`: the child i moved half-way to the edge of its parent p, or none if it stays
unfoldable pub repositioned : List Circle → ℕ → ℕ → Option Circle
repositioned cs p i =
    let parent = circle cs p in
    let child = circle cs i in
    let u = direction parent child in
    let dMax = max_contained_offset parent child u in
    let d = half *ᶠ dMax in
    let moved = child_at parent child u d in
    let stays = (dMax ≤ᶠ nought) || there (move parent child u d) dMax in
    cond (stays || not (contains parent moved) || blocked cs p i moved) none (some moved)

-- ---- the step

-- the circles, and the moved mask
pub record Moved : Type 0 where
  pub circles : List Circle
  pub mask : ℕ

-- "A moved bit is set exactly when the circle is replaced."
unfoldable pub replaced : ℕ → Moved → Option Circle → Moved
replaced i s none = s
replaced i s (some c) = record { circles = set s.circles i c; mask = s.mask + 2 ^ i }

unfoldable pub tried : List (Option ℕ) → Moved → ℕ → Option ℕ → Moved
tried ps s i none = s
tried ps s i (some p) =
    let s' = replaced i s (repositioned s.circles p i) in
    cond (only_child ps p) s' s

-- "Skipped for n < 2." "Circles are tried in rising order against current positions."
unfoldable pub offset : List Circle → List Region → Moved
offset cs rs =
    let n = length cs in
    let ps = parents n rs in
    let start : Moved = record { circles = cs; mask = 0 } in
    let end = in_turn n (λ i s. tried ps s i (get_or ps i none)) start in
    cond (ltb n 2) start end
