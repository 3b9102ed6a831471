-- What is in the way of a child, where it is moved to, the lists after the move, and the circles after all have been tried.
use Prim.Native.Nat.{ℕ, zero, suc, ◌+◌, ◌^◌, ◌≤◌, ◌<◌}
use native.Mathlib.Omega.{arith}
use native.Mathlib.Numerals.{add-one}
use native.Mathlib.Decide.{ℕ_discrete}
use mathlib.Core.Path.{◌≡◌, refl, sym, ap, ◌∙◌}
use mathlib.Core.Bool.{Bool, true, false, not, ◌&&◌, ◌||◌, cond}
use mathlib.Core.List.{List}
use mathlib.Core.Option.{Option, none, some}
use lib.Dec.{eqb}
use lib.Ieee.{Float, nan}
use lib.ListN.{length, get_or, set, take, length-set}
use lib.Seq.{get_or-set_same, get_or-set_other, ext_get_or, take_all}
use Rattle.std.proofs.Common.{zero-add}
use Rattle.std.specs.List.{list_any, range_with_len}
use Rattle.std.proofs.lemmas.List.Folds.{list_any_more}
use Rattle.std.proofs.lemmas.List.FromFn.{length-range_with_len, get_or-range_with_len}
use borrow.Author.Tests.{lt-ltb, le-ltb}
use Rattle.shapes.specs.declared.point.Point.{Point}
use Rattle.shapes.specs.declared.circle.Circle.{Circle}
use Rattle.shapes.specs.Lift.{lift}
use Rattle.scope.specs.Numbers.{◌*ᶠ◌, ◌≤ᶠ◌, nought, half}
use Rattle.scope.specs.Runs.{in_turn, some_below}
use Rattle.scope.specs.Distance.{contains}
use Rattle.scope.specs.Links.{Region, circle, nowhere, overlap}
use Rattle.scope.specs.Offset.{parent_of, parents, only_child, translated, move, child_at, max_contained_offset, direction, blocked, there, repositioned, Moved, replaced, tried, offset}
use Rattle.intake.specs.Columns.{at, circles_of, Lifted}
use Rattle.intake.proofs.Columns.{length_shown, shown_at}
use Rattle.laws.proofs.Runs.{get_or_tab}
use Rattle.layout.specs.Offsets.{parent_at, ParentsOf, moment}

-- ---- what is in the way, and the moved child

-- circle k is another than the two, and overlaps c
abbrev pub barred : List Circle → ℕ → ℕ → Circle → ℕ → Bool
barred cs p i c k = not (eqb k i) && not (eqb k p) && overlap c (circle cs k)

-- the tests of the first i numbers, one more at a time
any_first : (f : ℕ → Bool) (n i : ℕ) → i ≤ n → list_any f (take i (range_with_len 0 n)) ≡ some_below i f
unfolding some_below
any_first f n zero h = refl
any_first f n (suc i) h =
    rw (add-one i) at (list_any_more f (range_with_len 0 n) i 0 (rw (length-range_with_len 0 n) h))
    ∙ rw (any_first f n i (omega arith), get_or-range_with_len 0 n i 0 (omega arith), zero-add i)

module _ (cs : List Circle) (p i : ℕ) where
  pub any_barred : (c : Circle) (n : ℕ) → n ≡ length cs → list_any (barred cs p i c) (range_with_len 0 n) ≡ blocked cs p i c
  unfolding blocked
  any_barred c n e =
      sym (ap (list_any (barred cs p i c)) (take_all n (range_with_len 0 n) (omega (arith, length-range_with_len 0 n))))
      ∙ any_first (barred cs p i c) n n (omega arith) ∙ ap (λ (m : ℕ). some_below m (barred cs p i c)) e

  -- the definition at what the code has worked out
  module _ (parent small : Circle) (a : parent ≡ circle cs p) (b : small ≡ circle cs i) (u : Point) (dMax : Float) (d : u ≡ direction parent small) (e : dMax ≡ max_contained_offset parent small u) where
    pub repositioned_by : (c : Circle) → c ≡ child_at parent small u (half *ᶠ dMax)
        → cond (((dMax ≤ᶠ nought) || there (move parent small u (half *ᶠ dMax)) dMax) || not (contains parent c) || blocked cs p i c) none (some c)
        ≡ repositioned cs p i
    unfolding repositioned
    repositioned_by c f = rw (f, e, d, a, b)

  -- a moved child has its radius, lifted, and its ink
  pub moved-kept : (c : Circle) → some c ≡ repositioned cs p i → (c.radius ≡ lift (circle cs i).radius) × (c.ink ≡ (circle cs i).ink)
  unfolding repositioned child_at translated
  moved-kept c e =
      let parent = circle cs p in
      let small = circle cs i in
      let u = direction parent small in
      let dMax = max_contained_offset parent small u in
      let m = child_at parent small u (half *ᶠ dMax) in
      let stays = ((dMax ≤ᶠ nought) || there (move parent small u (half *ᶠ dMax)) dMax) || not (contains parent m) || blocked cs p i m in
      let same = the_moved stays m e in
      (ap (λ (o : Circle). o.radius) same, ap (λ (o : Circle). o.ink) same)
    where
      the_moved : (stays : Bool) (m : Circle) → some c ≡ cond stays none (some m) → c ≡ m
      the_moved true m e = let z : ◌≡◌ {A = ℕ} 0 1 = cc in absurd (omega arith)
      the_moved false m e = cc

-- ---- one circle of the lists put elsewhere

module _ (xs ys rs : List Float) (i : ℕ) (c : Circle) (long : length ys ≡ length xs) (h : i < length xs) where
  pub one-moved : c.radius ≡ at rs i → c.ink ≡ 0 → circles_of (set xs i c.center.x) (set ys i c.center.y) rs ≡ set (circles_of xs ys rs) i c
  one-moved e k =
      ext_get_or nowhere _ _ (length_shown _ _ rs ∙ length-set xs i c.center.x ∙ sym (length-set (circles_of xs ys rs) i c ∙ length_shown xs ys rs))
      (λ j l. there_or_not j (rw (length_shown (set xs i c.center.x) (set ys i c.center.y) rs, length-set xs i c.center.x) at l))
    where
      there_or_not : (j : ℕ) → j < length xs → circle (circles_of (set xs i c.center.x) (set ys i c.center.y) rs) j ≡ circle (set (circles_of xs ys rs) i c) j
      there_or_not j l =
          shown_at (set xs i c.center.x) (set ys i c.center.y) rs j (rw (length-set xs i c.center.x) l)
          ∙ elim (ℕ_discrete j i) [
            | yes d ↦ rw (d, get_or-set_same xs i c.center.x nan h, get_or-set_same ys i c.center.y nan (rw long h), ← e, ← k, get_or-set_same (circles_of xs ys rs) i c nowhere (rw (length_shown xs ys rs) h))
            | no d ↦ rw (get_or-set_other xs i j c.center.x nan d, get_or-set_other ys i j c.center.y nan d, get_or-set_other (circles_of xs ys rs) i j c nowhere d) (sym (shown_at xs ys rs j l))
          ]

-- a moved child, written over its place in the lists
pub child-moved : (xs ys rs : List Float) (p i : ℕ) (c : Circle) → length ys ≡ length xs → i < length xs → Lifted rs → some c ≡ repositioned (circles_of xs ys rs) p i
    → circles_of (set xs i c.center.x) (set ys i c.center.y) rs ≡ set (circles_of xs ys rs) i c
child-moved xs ys rs p i c long h lifted e =
    let kept = moved-kept (circles_of xs ys rs) p i c e in
    one-moved xs ys rs i c long h (kept.0 ∙ ap (λ (o : Circle). lift o.radius) (shown_at xs ys rs i h) ∙ lifted i)
    (kept.1 ∙ ap (λ (o : Circle). o.ink) (shown_at xs ys rs i h))

-- ---- one circle tried

module _ (ps : List (Option ℕ)) (s : Moved) (i : ℕ) where
  pub tried-none : s ≡ tried ps s i none
  unfolding tried
  tried-none = refl

  pub tried_left : (p : ℕ) → only_child ps p ≡ false → s ≡ tried ps s i (some p)
  unfolding tried
  tried_left p h = rw h

  pub tried-stays : (p : ℕ) → only_child ps p ≡ true → none ≡ repositioned s.circles p i → s ≡ tried ps s i (some p)
  unfolding tried replaced
  tried-stays p h e = rw (h, ← e)

  pub tried-moved : (p : ℕ) (c : Circle) → only_child ps p ≡ true → some c ≡ repositioned s.circles p i → moment (set s.circles i c) (s.mask + 2 ^ i) ≡ tried ps s i (some p)
  unfolding tried replaced
  tried-moved p c h e = rw (h, ← e)

-- the circles after the first i have been tried
abbrev pub tried_first : ℕ → List Region → ℕ → Moved → Moved
tried_first n rs i z = in_turn i (λ k u. tried (parents n rs) u k (get_or (parents n rs) k none)) z

module _ (n : ℕ) (rs : List Region) (ps : List ℕ) (shows : ParentsOf n rs ps) where
  pub tried_next : (z s t : Moved) (i : ℕ) → i < n → s ≡ tried_first n rs i z → t ≡ tried (parents n rs) s i (parent_at n ps i) → t ≡ tried_first n rs (i + 1) z
  unfolding in_turn parents
  tried_next z s t i h e d = rw (add-one i, get_or_tab n (parent_of n rs) i none h, ← e, ← shows i h) d

  none_tried : ((i : ℕ) → i < n → parent_at n ps i ≡ none) → (z : Moved) (i : ℕ) → i ≤ n → z ≡ tried_first n rs i z
  unfolding in_turn
  none_tried f z zero h = refl
  none_tried f z (suc i) h =
      rw (add-one i) at (tried_next z z z i h (none_tried f z i (omega arith)) (tried-none (parents n rs) z i ∙ ap (tried (parents n rs) z i) (sym (f i h))))

-- ---- all circles

module _ (cs : List Circle) (rs : List Region) where
  pub offset_few : length cs < 2 → moment cs 0 ≡ offset cs rs
  unfolding offset
  offset_few h = rw (lt-ltb (length cs) 2 h)

  pub offset_all : 2 ≤ length cs → tried_first (length cs) rs (length cs) (moment cs 0) ≡ offset cs rs
  unfolding offset
  offset_all h = rw (le-ltb (length cs) 2 h)

  pub offset-none : 2 ≤ length cs → (ps : List ℕ) → ParentsOf (length cs) rs ps → ((i : ℕ) → i < length cs → parent_at (length cs) ps i ≡ none) → moment cs 0 ≡ offset cs rs
  offset-none h ps shows f = none_tried (length cs) rs ps shows f (moment cs 0) (length cs) (omega arith) ∙ offset_all h
