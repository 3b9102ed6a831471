-- A batch of the front of two arrays. Of more points than there may be all of the second array are looked at, and only where none of what comes before is a
-- cause is their number one.
use Prim.Native.Nat.{ℕ, ◌≤◌}
use native.Mathlib.Omega.{arith}
use mathlib.Core.Path.{◌≡◌, refl, sym, ◌∙◌}
use mathlib.Core.Bool.{Bool, true, false, cond}
use mathlib.Core.List.{List}
use borrow.Author.Tests.{ltb-false}
use lib.Dec.{ltb→lt}
use lib.ListN.{length, take}
use lib.Seq.{take_all, length-take-le}
use Rattle.shapes.specs.declared.point.Point.{Point}
use Rattle.shapes.specs.declared.circle.Circle.{Circle}
use Rattle.scope.specs.Limits.{point_cap}
use Rattle.scope.specs.Refusals.{front_to_back, too_many, too_many_points, too_few_answers, touch_refusal}
use Rattle.scope.specs.Touch.{refused_touch, touched}
use Rattle.scope.specs.Twins.{first_touched}
use Rattle.laws.proofs.Cases.{is_false}
use Rattle.laws.proofs.AfterRefusal.{counted_touch-answers}
use Rattle.laws.proofs.EntryPoints.{touch_reads}
use Rattle.laws.proofs.Touch.{not_too_many_points_iff, not_too_few_answers_iff}
use Rattle.intake.specs.Limits.{max_points}

-- four causes before a number
abbrev before : Bool → Bool → Bool → Bool → ℕ → ℕ
before a b c d k = cond a 1 (cond b 3 (cond c 4 (cond d 14 k)))

decided : (a b c d : Bool) (k : ℕ) → (before a b c d 0 ≡ 0 → ⊥) → before a b c d k ≡ before a b c d 0
decided true b c d k h = refl
decided false true c d k h = refl
decided false false true d k h = refl
decided false false false true k h = refl
decided false false false false k h = absurd (h refl)

left_open : (a b c d : Bool) (k : ℕ) → before a b c d 0 ≡ 0 → before a b c d k ≡ k
left_open true b c d k h = absurd (omega arith)
left_open false true c d k h = absurd (omega arith)
left_open false false true d k h = absurd (omega arith)
left_open false false false true k h = absurd (omega arith)
left_open false false false false k h = refl

pub few_points : (m : ℕ) (ps : List Point) → too_many_points m ≡ false → length ps ≡ max_points → m ≤ length ps
unfolding too_many_points point_cap
few_points m ps h wide = let room = ltb-false max_points m h in omega arith

module _ (n : ℕ) (cs : List Circle) (few : too_many n ≡ false) (m : ℕ) (ps : List Point) (out : List ℕ) where
  -- as many as there may be: the front of both
  pub as_runs : m ≤ length ps → touched (take n cs) (take m ps) out ≡ first_touched n cs m ps out
  unfolding first_touched touched
  as_runs h = rw (few, length-take-le m ps h) refl

  module _ (many : too_many_points m ≡ true) (wide : length ps ≡ max_points) where
    whole : take m ps ≡ ps
    unfolding too_many_points point_cap
    whole = let more = ltb→lt max_points m (rw many tt) in take_all m ps (omega arith)

    -- the array's own batch, with room for all its answers
    abbrev pub of_array : ℕ
    of_array = touch_refusal (take n cs) ps (length ps) max_points

    pub many-refused : (k : ℕ) → k ≡ of_array → (k ≡ 0 → ⊥) → refused_touch out k ≡ first_touched n cs m ps out
    unfolding first_touched front_to_back point_cap
    many-refused k e there =
        let fits = is_false (too_many_points (length ps)) ((not_too_many_points_iff (length ps)).1 (omega arith)) in
        let room = is_false (too_few_answers max_points (length ps)) ((not_too_few_answers_iff max_points (length ps)).1 (omega arith)) in
        let own = rw ((touch_reads (take n cs) ps (length ps) max_points).runs, fits, room) at e in
        let all = rw many at (touch_reads (take n cs) ps m (length out)).runs in
        let same = all ∙ decided _ _ _ _ 18 (λ z. there (own ∙ z)) ∙ sym own in
        rw (few, whole) (sym (rw same at ((counted_touch-answers m (take n cs) ps out).at_refusal (λ z. there (sym same ∙ z)))))

    pub many-counted : 0 ≡ of_array → refused_touch out 18 ≡ first_touched n cs m ps out
    unfolding first_touched front_to_back point_cap
    many-counted e =
        let fits = is_false (too_many_points (length ps)) ((not_too_many_points_iff (length ps)).1 (omega arith)) in
        let room = is_false (too_few_answers max_points (length ps)) ((not_too_few_answers_iff max_points (length ps)).1 (omega arith)) in
        let own = rw ((touch_reads (take n cs) ps (length ps) max_points).runs, fits, room) at e in
        let all = rw many at (touch_reads (take n cs) ps m (length out)).runs in
        let same = all ∙ left_open _ _ _ _ 18 (sym own) in
        rw (few, whole) (sym (rw same at ((counted_touch-answers m (take n cs) ps out).at_refusal (λ z. absurd (omega (arith, sym same ∙ z))))))
