-- The circles that lists of numbers show: their count, each of them, and when they are those of a definition by `tab`; with inks put on. Lists that were changed
-- number by number.
use Prim.Native.Nat.{ℕ, suc, ◌≤◌, ◌<◌}
use native.Mathlib.Omega.{arith}
use mathlib.Core.Path.{◌≡◌, refl, ◌∙◌}
use mathlib.Core.Logic.{inl, inr, ⊎_elim}
use mathlib.Core.Bool.{Bool, true, false, not, cond, ◌&&◌, ◌||◌}
use mathlib.Core.List.{List, append-nil}
use lib.ListN.{length, get_or, take, drop}
use lib.Seq.{take-length, drop-length, length-take-le, drop-cons, get_or_at, ext_get_or}
use lib.Dec.{T}
use lib.Ieee.{Float, nan}
use Rattle.shapes.specs.declared.circle.Circle.{Circle}
use Rattle.shapes.specs.declared.rectangle.Rectangle.{Rectangle}
use Rattle.scope.specs.Numbers.{◌+ᶠ◌}
use Rattle.scope.specs.Runs.{tab, any}
use Rattle.scope.specs.Links.{circle, nowhere}
use Rattle.scope.specs.Refusals.{inks}
use Rattle.scope.specs.Packing.{rectangle}
use Rattle.scope.specs.Offset.{translated}
use Rattle.scope.specs.Centring.{all_translated}
use Rattle.laws.specs.Inks.{inked}
use Rattle.laws.proofs.Accepted.{ink_at_lem}
use Rattle.laws.proofs.Inks.{length-inked, inked_at}
use Rattle.laws.proofs.Cases.{or_iff, same_test}
use Rattle.laws.proofs.Runs.{length-tab, get_or_tab, tab_equal, any_at}
use Rattle.intake.specs.Columns.{at, bare_circle, circles_of, xs_of, ys_of, radii_of, widths_of, heights_of, each, members, Lifted}
use Rattle.intake.proofs.InPlace.{so_far, rewritten, all_rewritten}

-- ---- a loop over a whole list that writes each element anew: its end, and what it has not come to yet
module _ {A : Type 0} (g : ℕ → A → A) (d : A) (l : List A) where
  pub whole_rewritten : (i : ℕ) {m : List A} → i ≤ length l → length l ≤ i → m ≡ so_far g d i l → m ≡ rewritten g d l
  whole_rewritten i low high e = all_rewritten g d l (length l) i (omega arith) low high e ∙ rw (take-length l, drop-length l) (append-nil (rewritten g d l))

  pub untouched : (i : ℕ) {m : List A} → i < length l → m ≡ so_far g d i l → get_or m i d ≡ get_or l i d
  unfolding so_far
  untouched i {m} h e =
      let long : length (take i (rewritten g d l)) ≡ i = length-take-le i (rewritten g d l) (rw (length-tab (length l) (λ k. g k (get_or l k d))) (omega arith)) in
      rw (e, drop-cons l i d h) (get_or_at (take i (rewritten g d l)) (get_or l i d) (drop (suc i) l) d i long)

-- ---- the circles shown
pub length_shown : (xs ys rs : List Float) → length (circles_of xs ys rs) ≡ length xs
unfolding circles_of
length_shown xs ys rs = length-tab (length xs) (λ i. bare_circle (at xs i) (at ys i) (at rs i))

pub shown_at : (xs ys rs : List Float) (i : ℕ) → i < length xs → circle (circles_of xs ys rs) i ≡ bare_circle (at xs i) (at ys i) (at rs i)
unfolding circles_of
shown_at xs ys rs i h = get_or_tab (length xs) (λ k. bare_circle (at xs k) (at ys k) (at rs k)) i nowhere h

-- they are those of a definition by `tab`, if each is
pub shown_equal : (xs ys rs : List Float) (n : ℕ) (f : ℕ → Circle) → length xs ≡ n → ((i : ℕ) → i < n → bare_circle (at xs i) (at ys i) (at rs i) ≡ f i) → circles_of xs ys rs ≡ tab n f
unfolding circles_of
shown_equal xs ys rs n f e same = rw e (tab_equal n (λ i. bare_circle (at xs i) (at ys i) (at rs i)) f same)

-- ---- the lists of a run
pub length_xs : (cs : List Circle) → length (xs_of cs) ≡ length cs
unfolding xs_of
length_xs cs = length-tab (length cs) (λ i. (circle cs i).center.x)

pub length_ys : (cs : List Circle) → length (ys_of cs) ≡ length cs
unfolding ys_of
length_ys cs = length-tab (length cs) (λ i. (circle cs i).center.y)

pub length-radii : (cs : List Circle) → length (radii_of cs) ≡ length cs
unfolding radii_of
length-radii cs = length-tab (length cs) (λ i. (circle cs i).radius)

pub x_at : (cs : List Circle) (i : ℕ) → i < length cs → at (xs_of cs) i ≡ (circle cs i).center.x
unfolding xs_of
x_at cs i h = get_or_tab (length cs) (λ k. (circle cs k).center.x) i nan h

pub y_at : (cs : List Circle) (i : ℕ) → i < length cs → at (ys_of cs) i ≡ (circle cs i).center.y
unfolding ys_of
y_at cs i h = get_or_tab (length cs) (λ k. (circle cs k).center.y) i nan h

pub radius_at : (cs : List Circle) (i : ℕ) → i < length cs → at (radii_of cs) i ≡ (circle cs i).radius
unfolding radii_of
radius_at cs i h = get_or_tab (length cs) (λ k. (circle cs k).radius) i nan h

-- a run is shown by its four lists
pub shown_back : (cs : List Circle) → inked (inks cs) (circles_of (xs_of cs) (ys_of cs) (radii_of cs)) ≡ cs
shown_back cs =
    let bare = circles_of (xs_of cs) (ys_of cs) (radii_of cs) in
    let count : length bare ≡ length cs = length_shown _ _ _ ∙ length_xs cs in
    ext_get_or nowhere _ cs (length-inked (inks cs) bare ∙ count) (λ i h.
    let below : i < length cs = rw (length-inked (inks cs) bare, count) at h in
    inked_at (inks cs) bare i (rw count below)
    ∙ rw (shown_at (xs_of cs) (ys_of cs) (radii_of cs) i (rw (length_xs cs) below), x_at cs i below, y_at cs i below, radius_at cs i below, ink_at_lem cs i))

-- ---- the lists of a run of boxes
pub length_widths : (rects : List Rectangle) → length (widths_of rects) ≡ length rects
unfolding widths_of
length_widths rects = length-tab (length rects) (λ i. (rectangle rects i).width)

pub length_heights : (rects : List Rectangle) → length (heights_of rects) ≡ length rects
unfolding heights_of
length_heights rects = length-tab (length rects) (λ i. (rectangle rects i).height)

pub width_at_lem : (rects : List Rectangle) (i : ℕ) → i < length rects → at (widths_of rects) i ≡ (rectangle rects i).width
unfolding widths_of
width_at_lem rects i h = get_or_tab (length rects) (λ k. (rectangle rects k).width) i nan h

pub height_at_lem : (rects : List Rectangle) (i : ℕ) → i < length rects → at (heights_of rects) i ≡ (rectangle rects i).height
unfolding heights_of
height_at_lem rects i h = get_or_tab (length rects) (λ k. (rectangle rects k).height) i nan h

-- ---- lists changed at a cluster's members
pub length-members : (member : ℕ → Bool) (f : ℕ → Float → Float) (l : List Float) → length (members member f l) ≡ length l
length-members member f l = length-tab (length l) (λ i. cond (member i) (f i (at l i)) (at l i))

pub members_at : (member : ℕ → Bool) (f : ℕ → Float → Float) (l : List Float) (i : ℕ) → i < length l → at (members member f l) i ≡ cond (member i) (f i (at l i)) (at l i)
members_at member f l i h = get_or_tab (length l) (λ k. cond (member k) (f k (at l k)) (at l k)) i nan h

-- ---- every circle translated
pub translated_shown : (xs ys rs : List Float) (dx dy : Float) → length ys ≡ length xs → Lifted rs
    → circles_of (each (λ _ x. x +ᶠ dx) xs) (each (λ _ y. y +ᶠ dy) ys) rs ≡ all_translated dx dy (circles_of xs ys rs)
unfolding all_translated translated
translated_shown xs ys rs dx dy e lifted =
    rw (length_shown xs ys rs)
    (shown_equal _ _ rs (length xs) (λ i. translated (circle (circles_of xs ys rs) i) dx dy) (length-tab (length xs) (λ i. at xs i +ᶠ dx))
    (λ i h. rw (shown_at xs ys rs i h, lifted i, get_or_tab (length xs) (λ k. at xs k +ᶠ dx) i nan h, get_or_tab (length ys) (λ k. at ys k +ᶠ dy) i nan (rw e h))))

-- ---- tests of the circles, list by list
-- a record fails if either of two numbers does: one of the records fails exactly if a number of either list does
pub any-either : {A : Type 0} (p : A → Bool) (q : Float → Bool) (l : List A) (d : A) (xs ys : List Float) → length l ≡ length xs → length ys ≡ length xs
    → ((i : ℕ) → i < length xs → p (get_or l i d) ≡ q (at xs i) || q (at ys i)) → any p l ≡ any q xs || any q ys
any-either p q l d xs ys e f same =
    same_test (any p l) (any q xs || any q ys) (
      λ t.
          let g = (any_at p l d).0 t in
          let i = g.0 in
          let below : i < length xs = rw e at g.1 in
          (or_iff (any q xs) (any q ys)).1
          (⊎_elim (λ u. inl ((any_at q xs nan).1 (i, below, u))) (λ u. inr ((any_at q ys nan).1 (i, rw f below, u))) ((or_iff (q (at xs i)) (q (at ys i))).0 (rw (same i below) at g.2))),
      λ t. ⊎_elim
          (λ u. let g = (any_at q xs nan).0 u in found g.0 g.1 ((or_iff (q (at xs g.0)) (q (at ys g.0))).1 (inl g.2)))
          (λ u. let g = (any_at q ys nan).0 u in found g.0 (rw f at g.1) ((or_iff (q (at xs g.0)) (q (at ys g.0))).1 (inr g.2)))
          ((or_iff (any q xs) (any q ys)).0 t),
    )
  where
    found : (i : ℕ) → i < length xs → T (q (at xs i) || q (at ys i)) → T (any p l)
    found i h t = (any_at p l d).1 (i, rw e h, rw (same i h) t)

pub not_both : (a b : Bool) → not (a && b) ≡ not a || not b
not_both true b = refl
not_both false b = refl
