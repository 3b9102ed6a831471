-- The gauge of one cluster, an axis at a time: what the lists of numbers become.
use Rattle.std.specs.Prelude.{ℕ, Bool, cond, List, length, Float}
use Rattle.scope.specs.Numbers.{◌+ᶠ◌, ◌-ᶠ◌, ◌*ᶠ◌, ◌<ᶠ◌, two}
use Rattle.scope.specs.Gauge as gauge
use Rattle.scope.specs.Gauge.{level, turn}
use Rattle.intake.specs.Columns.{at, members}
use Rattle.layout.specs.Ranges.{range_over, middle_of}
use Rattle.layout.specs.declared.gauge.Turn.{Turn}

abbrev pub as_turn : Turn → gauge.Turn
as_turn t = record { cosine = t.cosine; sine = t.sine }

-- the place (x, y) turned about (p, q)
abbrev pub turned_x : gauge.Turn → Float → Float → Float → Float → Float
turned_x t p q x y = p +ᶠ (x -ᶠ p) *ᶠ t.cosine -ᶠ (y -ᶠ q) *ᶠ t.sine

abbrev pub turned_y : gauge.Turn → Float → Float → Float → Float → Float
turned_y t p q x y = q +ᶠ (x -ᶠ p) *ᶠ t.sine +ᶠ (y -ᶠ q) *ᶠ t.cosine

-- the members turned about the first circle, i, until circle j lies level with it: both coordinates
unfoldable pub turned_xs : (ℕ → Bool) → ℕ → ℕ → List Float → List Float → List Float
turned_xs member i j xs ys =
    let dx = at xs j -ᶠ at xs i in
    let dy = at ys j -ᶠ at ys i in
    let result = members member (λ k x. turned_x (turn dx dy) (at xs i) (at ys i) x (at ys k)) xs in
    cond (level dx dy) xs result

unfoldable pub turned_ys : (ℕ → Bool) → ℕ → ℕ → List Float → List Float → List Float
turned_ys member i j xs ys =
    let dx = at xs j -ᶠ at xs i in
    let dy = at ys j -ᶠ at ys i in
    let result = members member (λ k y. turned_y (turn dx dy) (at xs i) (at ys i) (at xs k) y) ys in
    cond (level dx dy) ys result

-- the members mirrored about m, if circle i is beyond it
unfoldable pub mirrored_at : (ℕ → Bool) → ℕ → Float → List Float → List Float
mirrored_at member i m l =
    let result = members member (λ _ x. two *ᶠ m -ᶠ x) l in
    cond (m <ᶠ at l i) result l

-- the members mirrored about the middle of their numbers
unfoldable pub mirrored : (ℕ → Bool) → ℕ → List Float → List Float
mirrored member i l = mirrored_at member i (middle_of (range_over member (length l) (at l) (at l))) l
