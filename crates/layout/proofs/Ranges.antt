-- Ranges, one thing more at a time; and boxes of circles, which are a range on each axis.
use Prim.Native.Nat.{ℕ, zero, suc, ◌+◌}
use native.Mathlib.Numerals.{add-one}
use mathlib.Core.Path.{◌≡◌, refl, ap, ◌∙◌}
use mathlib.Core.Bool.{Bool, true, false, cond}
use mathlib.Core.List.{List}
use lib.ListN.{length}
use lib.Ieee.{Float}
use Rattle.shapes.specs.declared.bounds.Bounds.{Bounds}
use Rattle.shapes.specs.declared.circle.Circle.{Circle}
use Rattle.shapes.specs.Records.{box_of}
use Rattle.shapes.specs.Boxes.{circle_box, union_of}
use Rattle.scope.specs.Runs.{gather}
use Rattle.scope.specs.Links.{circle}
use Rattle.scope.specs.Gauge.{nothing, point_box, centres_box}
use Rattle.scope.specs.Padding.{box_all}
use Rattle.laws.proofs.Runs.{gather_equal}
use Rattle.intake.specs.Columns.{bare_circle, at, circles_of}
use Rattle.intake.proofs.Columns.{length_shown, shown_at}
use Rattle.layout.specs.Ranges.{no_range, widened, range_over, range_of}
use Rattle.layout.specs.declared.axis.Range.{Range}

module _ (member : ℕ → Bool) (low high : ℕ → Float) where
  pub none_in_range : no_range ≡ range_over member 0 low high
  unfolding gather
  none_in_range = refl

  pub one_in_range : (i : ℕ) {r : Range} → member i ≡ true → r ≡ range_over member i low high → widened r (low i) (high i) ≡ range_over member (i + 1) low high
  unfolding gather
  one_in_range i taken e = rw (e, add-one, taken)

  pub one-passed : (i : ℕ) {r : Range} → member i ≡ false → r ≡ range_over member i low high → r ≡ range_over member (i + 1) low high
  unfolding gather
  one-passed i left e = rw (e, add-one, left)

-- ---- boxes

abbrev pub box_of_ranges : Range → Range → Bounds
box_of_ranges across up = box_of across.low across.high up.low up.high

either-box : (b : Bool) (p q : Bounds) → cond b p q ≡ box_of (cond b p.x_min q.x_min) (cond b p.x_max q.x_max) (cond b p.y_min q.y_min) (cond b p.y_max q.y_max)
either-box true p q = refl
either-box false p q = refl

gathered_box : (member : ℕ → Bool) (n : ℕ) (f : ℕ → Bounds)
    → gather union_of nothing member n f ≡ box_of_ranges (range_over member n (λ i. (f i).x_min) (λ i. (f i).x_max)) (range_over member n (λ i. (f i).y_min) (λ i. (f i).y_max))
unfolding gather nothing
gathered_box member zero f = refl
gathered_box member (suc n) f = either-box (member n) _ _ ∙ rw (gathered_box member n f)

module _ (member : ℕ → Bool) (xs ys rs : List Float) (even : length ys ≡ length xs) where
  abbrev cs : List Circle
  cs = circles_of xs ys rs

  -- the boxes of the circles shown, by their numbers
  shown_box : (f : Circle → Bounds) → gather union_of nothing member (length cs) (λ i. f (circle cs i)) ≡ gather union_of nothing member (length xs) (λ i. f (bare_circle (at xs i) (at ys i) (at rs i)))
  shown_box f = rw (length_shown xs ys rs) (gather_equal union_of nothing member member (length xs) _ _ (λ i h. refl) (λ i h. ap f (shown_at xs ys rs i h)))

  pub circles-box : box_all member cs ≡ box_of_ranges (range_of member xs rs) (range_of member ys rs)
  unfolding box_all
  circles-box = rw even (shown_box circle_box ∙ gathered_box member (length xs) (λ i. circle_box (bare_circle (at xs i) (at ys i) (at rs i))))

  pub centres-box : centres_box member cs ≡ box_of_ranges (range_over member (length xs) (at xs) (at xs)) (range_over member (length ys) (at ys) (at ys))
  unfolding centres_box
  centres-box = rw even (shown_box (λ c. point_box c.center) ∙ gathered_box member (length xs) (λ i. point_box (bare_circle (at xs i) (at ys i) (at rs i)).center))
