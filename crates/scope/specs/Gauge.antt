-- Document 01, "Gauge": `rotate_cluster` with the stand-in for atan2, cos and sin. A cluster is those of the n circles that `member` takes.
use Rattle.std.specs.Prelude.{ℕ, Bool, true, false, not, ◌&&◌, ◌||◌, cond, List, eqb, ltb, get_or, length, Float}
use Rattle.std.specs.Float.{inf, binary64}
use Rattle.std.specs.Float.Ieee.{neg, eq}
use Rattle.rounding.specs.Root.{root}
use Rattle.rounding.specs.Extremes.{maximum}
use Rattle.shapes.specs.declared.point.Point.{Point}
use Rattle.shapes.specs.declared.bounds.Bounds.{Bounds}
use Rattle.shapes.specs.declared.circle.Circle.{Circle}
use Rattle.scope.specs.Numbers.{◌+ᶠ◌, ◌-ᶠ◌, ◌*ᶠ◌, ◌/ᶠ◌, ◌<ᶠ◌, ◌≤ᶠ◌, nought, two, e_10, abs}
use Rattle.scope.specs.Runs.{tab, gather, in_turn, least}
use Rattle.shapes.specs.Records.{box_of}
use Rattle.shapes.specs.Lift.{moved_to}
use Rattle.shapes.specs.Boxes.{union_of}
use Rattle.scope.specs.Links.{circle}

-- the circles with those of the cluster changed
unfoldable pub changed : (ℕ → Bool) → (Circle → Circle) → List Circle → List Circle
changed member f cs = tab (length cs) (λ i. cond (member i) (f (circle cs i)) (circle cs i))

-- ---- the turn

-- "no turn if dx = dy = 0, or dx > 0 and |dy| <= 1e-10*dx"
unfoldable pub level : Float → Float → Bool
level dx dy = (eq dx nought && eq dy nought) || ((nought <ᶠ dx) && (abs dy ≤ᶠ e_10 *ᶠ dx))

pub record Turn : Type 0 where
  pub cosine : Float
  pub sine : Float

-- "m is the larger of |dx|, |dy|; a = dx/m, b = dy/m, h = root of (a*a + b*b), cosine a/h, sine -(b/h)"
unfoldable pub turn : Float → Float → Turn
turn dx dy =
    let m = maximum (abs dx) (abs dy) in
    let a = dx /ᶠ m in
    let b = dy /ᶠ m in
    let h = root binary64 (a *ᶠ a +ᶠ b *ᶠ b) in
    record { cosine = a /ᶠ h; sine = neg (b /ᶠ h) }

-- `rotate_shape` about the pivot
unfoldable pub rotated : Turn → Point → Circle → Circle
rotated t pivot c =
    let dx = c.center.x -ᶠ pivot.x in
    let dy = c.center.y -ᶠ pivot.y in
    moved_to c
    (pivot.x +ᶠ dx *ᶠ t.cosine -ᶠ dy *ᶠ t.sine)
    (pivot.y +ᶠ dx *ᶠ t.sine +ᶠ dy *ᶠ t.cosine)

-- "The pivot is the first circle; dx, dy run to the second."
unfoldable pub turned : (ℕ → Bool) → ℕ → ℕ → List Circle → List Circle
turned member i j cs =
    let pivot = (circle cs i).center in
    let dx = (circle cs j).center.x -ᶠ pivot.x in
    let dy = (circle cs j).center.y -ᶠ pivot.y in
    let t = turn dx dy in
    let result = changed member (rotated t pivot) cs in
    cond (level dx dy) cs result

-- ---- the mirrors

-- a box that holds nothing, to start from
unfoldable pub nothing : Bounds
nothing = box_of (inf false) (inf true) (inf false) (inf true)

-- a point as a box
abbrev pub point_box : Point → Bounds
point_box p = box_of p.x p.x p.y p.y

-- the box of a cluster's centres
unfoldable pub centres_box : (ℕ → Bool) → List Circle → Bounds
centres_box member cs = gather union_of nothing member (length cs) (λ i. point_box (circle cs i).center)

abbrev pub middle : Float → Float → Float
middle lo hi = (lo +ᶠ hi) /ᶠ two

abbrev pub middle_x : Bounds → Float
middle_x b = middle b.x_min b.x_max

abbrev pub middle_y : Bounds → Float
middle_y b = middle b.y_min b.y_max

-- `mirror_x_shape`, `mirror_y_shape`
unfoldable pub mirror_x : Float → Circle → Circle
mirror_x m c = moved_to c (two *ᶠ m -ᶠ c.center.x) c.center.y

unfoldable pub mirror_y : Float → Circle → Circle
mirror_y m c = moved_to c c.center.x (two *ᶠ m -ᶠ c.center.y)

-- in x, if the first circle is right of the middle of the centres
unfoldable pub mirrored_x : (ℕ → Bool) → ℕ → Float → List Circle → List Circle
mirrored_x member i m cs =
    let result = changed member (mirror_x m) cs in
    cond (m <ᶠ (circle cs i).center.x) result cs

-- in y, if it is above
unfoldable pub mirrored_y : (ℕ → Bool) → ℕ → Float → List Circle → List Circle
mirrored_y member i m cs =
    let result = changed member (mirror_y m) cs in
    cond (m <ᶠ (circle cs i).center.y) result cs

-- "mirror in x, mirror in y, in source order": both middles are those of the centres after the turn
unfoldable pub mirrored : (ℕ → Bool) → ℕ → List Circle → List Circle
mirrored member i cs =
    let box = centres_box member cs in
    mirrored_y member i (middle_y box) (mirrored_x member i (middle_x box) cs)

-- ---- `rotate_cluster`, for a cluster of two circles or more
unfoldable pub rotate_cluster : (ℕ → Bool) → List Circle → List Circle
rotate_cluster member cs =
    let n = length cs in
    let i = least n member in
    let j = least n (λ k. member k && not (eqb k i)) in
    let result = mirrored member i (turned member i j cs) in
    cond (ltb j n) result cs

-- cluster a of the cluster numbers
abbrev pub in_cluster : List ℕ → ℕ → ℕ → Bool
in_cluster numbers a i = eqb (get_or numbers i 0) a

-- every cluster in turn
unfoldable pub gauged : ℕ → List ℕ → List Circle → List Circle
gauged count numbers cs = in_turn count (λ a. rotate_cluster (in_cluster numbers a)) cs
