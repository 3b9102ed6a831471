-- The gauge of one cluster: the lists that it leaves show the circles that scope's definition has. One axis is changed at a time, the other as it was.
use Prim.Native.Nat.{ℕ, ◌≤◌, ◌<◌}
use native.Mathlib.Omega.{arith}
use mathlib.Core.Path.{◌≡◌, refl, sym, ap, ◌∙◌}
use mathlib.Core.Bool.{Bool, true, false, cond}
use mathlib.Core.List.{List}
use lib.ListN.{length}
use lib.Seq.{ext_get_or}
use lib.Ieee.{Float, nan}
use borrow.Author.Tests.{lt-ltb, le-ltb}
use Rattle.shapes.specs.declared.circle.Circle.{Circle}
use Rattle.shapes.specs.Records.{point_at}
use Rattle.scope.specs.Numbers.{◌-ᶠ◌, ◌*ᶠ◌, ◌<ᶠ◌, two}
use Rattle.scope.specs.Runs.{least}
use Rattle.scope.specs.Gauge.{level, turn, changed, rotated, turned, mirror_x, mirror_y, mirrored_x, mirrored_y, rotate_cluster}
use Rattle.scope.specs.Links.{circle}
use Rattle.scope.specs.Gauge as gauge
use Rattle.laws.proofs.Runs.{either-length}
use Rattle.intake.specs.Columns.{bare_circle, at, circles_of, members, Lifted}
use Rattle.intake.proofs.Columns.{length_shown, shown_at, shown_equal, length-members, members_at}
use Rattle.layout.specs.Ranges.{range_over, middle_of}
use Rattle.layout.specs.Turns.{turned_x, turned_y, turned_xs, turned_ys, mirrored_at, mirrored}
use Rattle.layout.proofs.Members.{another}
use Rattle.layout.proofs.Ranges.{centres-box}

-- ---- by cases

either_same : {A : Type 0} (b : Bool) (x : A) → cond b x x ≡ x
either_same true x = refl
either_same false x = refl

either_both : {A B C : Type 0} (f : A → B → C) (b : Bool) (x x' : A) (y y' : B) → f (cond b x x') (cond b y y') ≡ cond b (f x y) (f x' y')
either_both f true x x' y y' = refl
either_both f false x x' y y' = refl

-- a list of which no member changes
unmoved : (member : ℕ → Bool) (l : List Float) → members member (λ _ x. x) l ≡ l
unmoved member l =
    ext_get_or nan _ l (length-members member (λ _ x. x) l)
    (λ i h. members_at member (λ _ x. x) l i (rw (length-members member (λ _ x. x) l) at h) ∙ either_same (member i) (at l i))

-- ---- lengths

turned-long : (member : ℕ → Bool) (xs ys : List Float) → length ys ≡ length xs → (i j : ℕ) → (length (turned_xs member i j xs ys) ≡ length xs) × (length (turned_ys member i j xs ys) ≡ length xs)
unfolding turned_xs turned_ys
turned-long member xs ys even i j =
    let dx = at xs j -ᶠ at xs i in
    let dy = at ys j -ᶠ at ys i in
    let t = turn dx dy in (
      either-length (level dx dy) (length xs) xs _ refl (length-members member (λ k x. turned_x t (at xs i) (at ys i) x (at ys k)) xs),
      either-length (level dx dy) (length xs) ys _ even (length-members member (λ k y. turned_y t (at xs i) (at ys i) (at xs k) y) ys ∙ even),
    )

mirrored-long : (member : ℕ → Bool) (i : ℕ) (m : Float) (l : List Float) → length (mirrored_at member i m l) ≡ length l
unfolding mirrored_at
mirrored-long member i m l = either-length (m <ᶠ at l i) (length l) _ l (length-members member (λ _ x. two *ᶠ m -ᶠ x) l) refl

-- ---- the lists as the code finds them

module _ (member : ℕ → Bool) (xs ys : List Float) (i j : ℕ) (t : gauge.Turn) (found : t ≡ turn (at xs j -ᶠ at xs i) (at ys j -ᶠ at ys i)) (uneven : level (at xs j -ᶠ at xs i) (at ys j -ᶠ at ys i) ≡ false) where
  pub x-turned : members member (λ k x. turned_x t (at xs i) (at ys i) x (at ys k)) xs ≡ turned_xs member i j xs ys
  unfolding turned_xs
  x-turned = rw (found, uneven)

  pub y-turned : members member (λ k y. turned_y t (at xs i) (at ys i) (at xs k) y) ys ≡ turned_ys member i j xs ys
  unfolding turned_ys
  y-turned = rw (found, uneven)

-- ---- the circles shown

module _ (member : ℕ → Bool) (xs ys rs : List Float) (even : length ys ≡ length xs) (lifted : Lifted rs) where
  abbrev cs : List Circle
  cs = circles_of xs ys rs

  both_changed : (fx fy : ℕ → Float → Float) (f : Circle → Circle)
      → ((i : ℕ) → i < length xs → f (bare_circle (at xs i) (at ys i) (at rs i)) ≡ bare_circle (fx i (at xs i)) (fy i (at ys i)) (at rs i))
      → circles_of (members member fx xs) (members member fy ys) rs ≡ changed member f cs
  unfolding changed
  both_changed fx fy f same =
      rw (length_shown xs ys rs)
      (shown_equal _ _ rs (length xs) (λ i. cond (member i) (f (circle cs i)) (circle cs i)) (length-members member fx xs)
      (λ i h. rw (shown_at xs ys rs i h, same i h, members_at member fx xs i h, members_at member fy ys i (rw even h)) (either_both (λ x y. bare_circle x y (at rs i)) (member i) _ _ _ _)))

  -- both coordinates changed, or neither
  changed_if : (b : Bool) (fx fy : ℕ → Float → Float) (f : Circle → Circle)
      → ((k : ℕ) → k < length xs → f (bare_circle (at xs k) (at ys k) (at rs k)) ≡ bare_circle (fx k (at xs k)) (fy k (at ys k)) (at rs k))
      → circles_of (cond b (members member fx xs) xs) (cond b (members member fy ys) ys) rs ≡ cond b (changed member f cs) cs
  changed_if b fx fy f same = either_both (λ l m. circles_of l m rs) b _ xs _ ys ∙ ap (λ (l : List Circle). cond b l cs) (both_changed fx fy f same)

  module _ (i : ℕ) (hi : i < length xs) where
    turned_shown : (j : ℕ) → j < length xs → circles_of (turned_xs member i j xs ys) (turned_ys member i j xs ys) rs ≡ turned member i j cs
    unfolding turned_xs turned_ys turned rotated
    turned_shown j hj =
        let dx = at xs j -ᶠ at xs i in
        let dy = at ys j -ᶠ at ys i in
        let t = turn dx dy in
        let p = at xs i in
        let q = at ys i in
        rw (shown_at xs ys rs i hi, shown_at xs ys rs j hj)
        (either_both (λ a b. circles_of a b rs) (level dx dy) xs _ ys _
        ∙ ap (λ (l : List Circle). cond (level dx dy) cs l)
        (both_changed (λ k x. turned_x t p q x (at ys k)) (λ k y. turned_y t p q (at xs k) y) (rotated t (point_at p q)) (λ k h. rw (lifted k))))

    x-mirrored : (m : Float) → circles_of (mirrored_at member i m xs) ys rs ≡ mirrored_x member i m cs
    unfolding mirrored_at mirrored_x mirror_x
    x-mirrored m =
        let beyond = m <ᶠ at xs i in
        rw (shown_at xs ys rs i hi) (rw (unmoved member ys, either_same beyond ys) at (changed_if beyond (λ _ x. two *ᶠ m -ᶠ x) (λ _ y. y) (mirror_x m) (λ k h. rw (lifted k))))

    y-mirrored : (m : Float) → circles_of xs (mirrored_at member i m ys) rs ≡ mirrored_y member i m cs
    unfolding mirrored_at mirrored_y mirror_y
    y-mirrored m =
        let beyond = m <ᶠ at ys i in
        rw (shown_at xs ys rs i hi) (rw (unmoved member xs, either_same beyond xs) at (changed_if beyond (λ _ x. x) (λ _ y. two *ᶠ m -ᶠ y) (mirror_y m) (λ k h. rw (lifted k))))

both_mirrored : (member : ℕ → Bool) (xs ys rs : List Float) → length ys ≡ length xs → Lifted rs → (i : ℕ) → i < length xs
    → circles_of (mirrored member i xs) (mirrored member i ys) rs ≡ gauge.mirrored member i (circles_of xs ys rs)
unfolding mirrored gauge.mirrored
both_mirrored member xs ys rs even lifted i h =
    let across = middle_of (range_over member (length xs) (at xs) (at xs)) in
    let up = middle_of (range_over member (length ys) (at ys) (at ys)) in
    let long = mirrored-long member i across xs in
    rw (centres-box member xs ys rs even, ← x-mirrored member xs ys rs even lifted i h across)
    (y-mirrored member (mirrored_at member i across xs) ys rs (even ∙ sym long) lifted i (rw long h) up)

module _ (member : ℕ → Bool) (xs ys rs : List Float) (even : length ys ≡ length xs) (lifted : Lifted rs) where
  pub one-stays : length xs ≤ least (length xs) (another member (length xs)) → circles_of xs ys rs ≡ rotate_cluster member (circles_of xs ys rs)
  unfolding rotate_cluster
  one-stays h = rw (length_shown xs ys rs, le-ltb (least (length xs) (another member (length xs))) (length xs) h)

  pub two_rotate : (i j : ℕ) → i ≡ least (length xs) member → j ≡ least (length xs) (another member (length xs)) → i < length xs → j < length xs
      → circles_of (mirrored member i (turned_xs member i j xs ys)) (mirrored member i (turned_ys member i j xs ys)) rs ≡ rotate_cluster member (circles_of xs ys rs)
  unfolding rotate_cluster
  two_rotate i j ei ej hi hj =
      let long = turned-long member xs ys even i j in
      let below : least (length xs) (another member (length xs)) < length xs = omega arith in
      both_mirrored member _ _ rs (long.1 ∙ sym long.0) lifted i (rw long.0 hi)
      ∙ rw (turned_shown member xs ys rs even lifted i hi j hj, length_shown xs ys rs, lt-ltb (least (length xs) (another member (length xs))) (length xs) below, ei, ej)
