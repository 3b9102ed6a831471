-- The offset step: a circle whose bit is clear stands where it was handed in; one whose bit is set stands inside its parent, which itself is not moved.
use mathlib.Core.Path.{◌≡◌, refl, sym, ◌∙◌, subst}
use mathlib.Core.Bool.{Bool, true, false, not, ◌||◌, cond}
use mathlib.Core.List.{List}
use mathlib.Core.Option.{Option, none, some}
use Prim.Native.Nat.{ℕ, zero, suc, ◌+◌, ◌^◌, ◌≤◌, ◌<◌}
use native.Mathlib.Nat.{pow-succ'}
use native.Mathlib.Omega.{arith}
use native.Mathlib.Decide.{ℕ_discrete}
use lib.Dec.{T, ltb}
use lib.Pow.{pow_pos}
use lib.ListN.{get_or, length, set, length-set}
use lib.Seq.{get_or-set_same, get_or-set_other}
use lib.Ieee.{Float, binary64, fits}
use lib.Ieee.Fits.{add-fits}
use Rattle.shapes.specs.declared.point.Point.{Point}
use Rattle.shapes.specs.declared.circle.Circle.{Circle}
use Rattle.shapes.specs.Lift.{lift}
use Rattle.scope.specs.Numbers.{◌*ᶠ◌, ◌≤ᶠ◌, nought, half}
use Rattle.scope.specs.Runs.{in_turn, bit}
use Rattle.scope.specs.Distance.{contains}
use Rattle.scope.specs.Links.{Region, circle, nowhere}
use Rattle.scope.specs.Offset.{parent_of, parents, only_child, translated, move, child_at, direction, max_contained_offset, blocked, there, repositioned, Moved, replaced, tried, offset}
use Rattle.laws.proofs.Runs.{get_or_tab}
use Rattle.laws.proofs.MaskBits.{bit_put, bit_put_other, bit_past}
use Rattle.promises.proofs.offset.Parents.{parent_is_no_child}

-- ---- one move
-- `after` is the circle `before` moved into `parent`
pub record InsideParent (parent before after : Circle) : Type 0 where
  pub contained : T (contains parent after)
  pub fits-x : T (fits binary64 after.center.x)
  pub fits-y : T (fits binary64 after.center.y)
  pub radius : after.radius ≡ lift before.radius

child-inside : (parent c : Circle) (u : Point) (d : Float) → T (contains parent (child_at parent c u d)) → InsideParent parent c (child_at parent c u d)
unfolding child_at translated
child-inside parent c u d h = record { contained = h; fits-x = add-fits binary64 c.center.x (move parent c u d).x; fits-y = add-fits binary64 c.center.y (move parent c u d).y; radius = refl }

some_other : (b : Bool) (c after : Circle) → cond b none (some c) ≡ some after → (¬ T b) × (c ≡ after)
some_other true c after e = let z : ◌≡◌ {A = ℕ} 0 1 = cc in absurd (omega arith)
some_other false c after e = (λ t. t, cc)

middle-holds : (a b c : Bool) → ¬ T (a || not b || c) → T b
middle-holds true b c h = absurd (h tt)
middle-holds false true c h = tt
middle-holds false false c h = absurd (h tt)

repositioned-inside : (cs : List Circle) (p i : ℕ) (after : Circle) → repositioned cs p i ≡ some after → InsideParent (circle cs p) (circle cs i) after
unfolding repositioned
repositioned-inside cs p i after e =
    let parent = circle cs p in
    let child = circle cs i in
    let u = direction parent child in
    let dMax = max_contained_offset parent child u in
    let d = half *ᶠ dMax in
    let moved = child_at parent child u d in
    let stays = (dMax ≤ᶠ nought) || there (move parent child u d) dMax in
    let r = some_other (stays || not (contains parent moved) || blocked cs p i moved) moved after e in
    subst (InsideParent parent child) r.1 (child-inside parent child u d (middle-holds stays (contains parent moved) (blocked cs p i moved) r.0))

-- ---- the circles in turn
module _ (cs : List Circle) (rs : List Region) where
  -- circle i stands inside its parent
  pub record MovedInside (after : List Circle) (i : ℕ) : Type 0 where
    pub parent : ℕ
    pub is_parent_lem : parent_of (length cs) rs i ≡ some parent
    pub inside : InsideParent (circle cs parent) (circle cs i) (circle after i)

  -- after the circles below m
  pub record MovedBelow (m : ℕ) (s : Moved) : Type 0 where
    pub length-kept : length s.circles ≡ length cs
    pub mask_below : s.mask < 2 ^ m
    pub stands : (i : ℕ) → ¬ T (bit s.mask i) → circle s.circles i ≡ circle cs i
    pub moved : (i : ℕ) → T (bit s.mask i) → MovedInside s.circles i

  none-moved : MovedBelow 0 (record { circles = cs; mask = 0 })
  none-moved = record { length-kept = refl; mask_below = pow_pos 0; stands = λ i h. refl; moved = λ i t. absurd (bit_past 0 i (pow_pos i) t) }

  longer : (m : ℕ) (s : Moved) → MovedBelow m s → MovedBelow (suc m) s
  longer m s h = record { length-kept = h.length-kept; mask_below = (let l = h.mask_below in omega (arith, pow-succ' 2 m)); stands = h.stands; moved = h.moved }

  -- a parent's bit is clear
  pub parent_stands : (m : ℕ) (s : Moved) → MovedBelow m s → (i p : ℕ) → parent_of (length cs) rs i ≡ some p → circle s.circles p ≡ circle cs p
  parent_stands m s h i p e = h.stands p (λ t. let q = h.moved p t in parent_is_no_child (length cs) rs i p e q.parent q.is_parent_lem)

  module _ (m : ℕ) (s : Moved) (h : MovedBelow m s) (below : m < length cs) where
    clear : ¬ T (bit s.mask m)
    clear = bit_past s.mask m h.mask_below

    moved-one : (p : ℕ) (c : Circle) → parent_of (length cs) rs m ≡ some p → InsideParent (circle s.circles p) (circle s.circles m) c
        → MovedBelow (suc m) (record { circles = set s.circles m c; mask = s.mask + 2 ^ m })
    moved-one p c e r = record {
      length-kept = length-set s.circles m c ∙ h.length-kept;
      mask_below = (let l = h.mask_below in omega (arith, pow-succ' 2 m));
      stands = λ i t.
          let apart : i ≡ m → ⊥ = λ q. t (subst (λ (k : ℕ). T (bit (s.mask + 2 ^ m) k)) (sym q) (bit_put s.mask m clear)) in
          get_or-set_other s.circles m i c nowhere apart ∙ h.stands i (λ b. t ((bit_put_other s.mask m i clear (λ q. apart (sym q))).1 b));
      moved = λ i t. elim (ℕ_discrete i m) [ yes q ↦ subst (MovedInside (set s.circles m c)) (sym q) new | no q ↦ old i q (h.moved i ((bit_put_other s.mask m i clear (λ k. q (sym k))).0 t)) ];
    }
      where
        here : circle (set s.circles m c) m ≡ c
        here = get_or-set_same s.circles m c nowhere (rw h.length-kept below)

        new : MovedInside (set s.circles m c) m
        new = record { parent = p; is_parent_lem = e; inside = rw here (rw (parent_stands m s h m p e, h.stands m clear) at r) }

        old : (i : ℕ) → (i ≡ m → ⊥) → MovedInside s.circles i → MovedInside (set s.circles m c) i
        old i q v = record { parent = v.parent; is_parent_lem = v.is_parent_lem; inside = rw (get_or-set_other s.circles m i c nowhere q) v.inside }

    replaced-below : (p : ℕ) → parent_of (length cs) rs m ≡ some p → (o : Option Circle) → repositioned s.circles p m ≡ o → MovedBelow (suc m) (replaced m s o)
    unfolding replaced
    replaced-below p e none q = longer m s h
    replaced-below p e (some c) q = moved-one p c e (repositioned-inside s.circles p m c q)

    tried-below : (o : Option ℕ) → parent_of (length cs) rs m ≡ o → MovedBelow (suc m) (tried (parents (length cs) rs) s m o)
    unfolding tried
    tried-below none e = longer m s h
    tried-below (some p) e = pick (only_child (parents (length cs) rs) p)
      where
        pick : (b : Bool) → MovedBelow (suc m) (cond b (replaced m s (repositioned s.circles p m)) s)
        pick true = replaced-below p e (repositioned s.circles p m) refl
        pick false = longer m s h

  abbrev step : ℕ → Moved → Moved
  step i s = tried (parents (length cs) rs) s i (get_or (parents (length cs) rs) i none)

  abbrev start : Moved
  start = record { circles = cs; mask = 0 }

  parent_at_lem : (m : ℕ) → m < length cs → get_or (parents (length cs) rs) m none ≡ parent_of (length cs) rs m
  unfolding parents
  parent_at_lem m l = get_or_tab (length cs) (parent_of (length cs) rs) m none l

  turns : (m : ℕ) → m ≤ length cs → MovedBelow m (in_turn m step start)
  unfolding in_turn
  turns zero l = none-moved
  turns (suc m) l = tried-below m (in_turn m step start) (turns m (omega arith)) l (get_or (parents (length cs) rs) m none) (sym (parent_at_lem m l))

  pub offset_moves : MovedBelow (length cs) (offset cs rs)
  unfolding offset
  offset_moves = pick (ltb (length cs) 2)
    where
      pick : (b : Bool) → MovedBelow (length cs) (cond b start (in_turn (length cs) step start))
      pick true = record { length-kept = refl; mask_below = pow_pos (length cs); stands = λ i h. refl; moved = λ i t. absurd (bit_past 0 i (pow_pos i) t) }
      pick false = turns (length cs) (omega arith)
