-- Document 02, 8/14: a batch answers as its points do singly. What a mask of touched circles holds, and what an accepted batch keeps.
use Prim.Native.Nat.{ℕ, zero, suc, ◌+◌, ◌-◌, ◌^◌, ◌≤◌, ◌<◌}
use native.Mathlib.Omega.{arith}
use mathlib.Core.Path.{◌≡◌, refl, sym, ap, ◌∙◌, subst}
use mathlib.Core.Logic.Iff
use mathlib.Core.Logic.{◌↔◌, inl, inr, ⊎_elim}
use mathlib.Core.Bool.{Bool, true}
use mathlib.Core.List.{List, [], ◌∷◌, ◌++◌, map}
use lib.Dec.{T, ltb, ltb→lt}
use lib.ListN.{length, get_or, take, drop, take-append-drop, length-append, length-drop, length-map, get_or-append}
use lib.Seq.{get_or-append-add, length-take-le}
use borrow.Author.Tests.{lt-ltb}
use Rattle.shapes.specs.declared.point.Point.{Point}
use Rattle.shapes.specs.declared.circle.Circle.{Circle}
use Rattle.scope.specs.Runs.{bit, any}
use Rattle.scope.specs.Limits.{point_cap}
use Rattle.scope.specs.Refusals.{Answer, refused, given, too_many, bad_point, bad_centre, bad_radius, same_ink, too_many_points, too_few_answers, touch_refusal, circle_point_refusal}
use Rattle.scope.specs.Distance.{contains_point, contains_point_answer}
use Rattle.scope.specs.Links.{circle, nowhere}
use Rattle.scope.specs.PackedRows.{packed_row}
use Rattle.scope.specs.Touch.{Touched, touch_mask, touched}
use Rattle.laws.specs.Inks.{inked}
use Rattle.laws.specs.Touch.{no_point, point_in, answer_at, Singly}
use Rattle.laws.proofs.Cases.{or_iff, and_iff, not_ltb_iff, is_true}
use Rattle.laws.proofs.Runs.{none_at, gather_equal}
use Rattle.laws.proofs.Inks.{length-inked, inked_at}
use Rattle.laws.proofs.PackedRows.{bit-packed}
use Rattle.laws.proofs.EntryPoints.{touch_reads, circle_point_reads}
use Rattle.laws.proofs.AfterRefusal.{touch_answers, contains_point-answers}

-- ---- the mask of a point: exactly the circles that hold it
pub touch_bit : (cs : List Circle) (p : Point) (j : ℕ) → T (bit (touch_mask cs p) j) ↔ ((j < length cs) × T (contains_point (circle cs j) p))
unfolding touch_mask
touch_bit cs p j =
    let both = and_iff (ltb j (length cs)) (contains_point (circle cs j) p) in
    rw (bit-packed (length cs) (λ i. contains_point (circle cs i) p) j) (
      λ t. (ltb→lt j (length cs) (both.0 t).0, (both.0 t).1),
      λ t. both.1 (rw (lt-ltb j (length cs) t.0) tt, t.1),
    )

-- it does not look at the inks
pub touch_blind : (is : List ℕ) (cs : List Circle) (p : Point) → touch_mask (inked is cs) p ≡ touch_mask cs p
unfolding touch_mask packed_row contains_point
touch_blind is cs p =
    rw (length-inked is cs)
    (gather_equal ◌+◌ 0 (λ i. contains_point (circle (inked is cs) i) p) (λ i. contains_point (circle cs i) p) (length cs) (λ j. 2 ^ j) (λ j. 2 ^ j)
    (λ i h. rw (inked_at is cs i h)) (λ i h. refl))

-- ---- a batch that is accepted
pub not_too_many_points_iff : (m : ℕ) → (¬ T (too_many_points m)) ↔ (m ≤ point_cap)
unfolding too_many_points
not_too_many_points_iff m = not_ltb_iff point_cap m

pub not_too_few_answers_iff : (room m : ℕ) → (¬ T (too_few_answers room m)) ↔ (m ≤ room)
unfolding too_few_answers
not_too_few_answers_iff room m = not_ltb_iff room m

one-fits : 1 ≤ point_cap
unfolding point_cap
one-fits = omega arith

yes_of : {b : Bool} → ◌≡◌ {A = Answer Bool} (given b) (given true) → T b
yes_of {b} e = subst Yes (sym e) tt
  where
    Yes : Answer Bool → Type 0
    Yes (refused k) = ⊥
    Yes (given b) = T b

module _ (cs : List Circle) (ps : List Point) (out : List ℕ) (z : (touched cs ps out).refusal ≡ 0) where
  accepted : touch_refusal cs ps (length ps) (length out) ≡ 0
  accepted = sym (touch_answers cs ps out).says ∙ z

  none : (¬ T (too_many (length cs))) × (¬ T (any bad_centre cs)) × (¬ T (any bad_point ps)) × (¬ T (any bad_radius cs)) × (¬ T (same_ink cs)) × (length ps ≤ length out)
  none =
      let n = (touch_reads cs ps (length ps) (length out)).accepted.0 accepted in (
        n.0,
        λ t. n.1.0 ((or_iff (any bad_centre cs) (any bad_point ps)).1 (inl t)),
        λ t. n.1.0 ((or_iff (any bad_centre cs) (any bad_point ps)).1 (inr t)),
        n.1.1.0,
        n.1.1.1.0,
        (not_too_few_answers_iff (length out) (length ps)).0 n.1.1.1.1.1.0,
      )

  answered : (touched cs ps out).answers ≡ map (touch_mask cs) ps ++ drop (length ps) out
  answered = ap (λ (t : Touched). t.answers) ((touch_answers cs ps out).on_acceptance accepted)

  long : length (map (touch_mask cs) ps) ≡ length ps
  long = length-map ps (touch_mask cs)

  -- the answer of each point
  pub answer_is : (i : ℕ) → i < length ps → answer_at (touched cs ps out).answers i ≡ touch_mask cs (point_in ps i)
  answer_is i h =
      rw answered (get_or-append (map (touch_mask cs) ps) (drop (length ps) out) 0 i (rw long h)) ∙ mapped ps i h
    where
      mapped : (l : List Point) (i : ℕ) → i < length l → get_or (map (touch_mask cs) l) i 0 ≡ touch_mask cs (point_in l i)
      mapped [] i h = absurd (omega arith)
      mapped (p ∷ l) zero h = refl
      mapped (p ∷ l) (suc i) h = mapped l i (omega arith)

  pub as_long_as : length (touched cs ps out).answers ≡ length out
  as_long_as = rw (answered, length-append (map (touch_mask cs) ps) (drop (length ps) out), long, length-drop) (omega (arith, none.5))

  -- what lies beyond the points' answers
  pub stays-beyond : (i : ℕ) → length ps ≤ i → answer_at (touched cs ps out).answers i ≡ answer_at out i
  stays-beyond i h =
      let k = i - length ps in
      let back : length ps + k ≡ i = omega arith in
      let rest = drop (length ps) out in
      let there : length (take (length ps) out) ≡ length ps = length-take-le (length ps) out none.5 in
      rw answered (subst (λ (n : ℕ). answer_at (map (touch_mask cs) ps ++ rest) n ≡ answer_at out n) back
      (subst (λ (n : ℕ). answer_at (map (touch_mask cs) ps ++ rest) (n + k) ≡ get_or rest k 0) long (get_or-append-add (map (touch_mask cs) ps) rest k 0)
      ∙ sym (subst (λ (l : List ℕ). answer_at l (length ps + k) ≡ get_or rest k 0) (take-append-drop (length ps) out)
      (subst (λ (n : ℕ). answer_at (take (length ps) out ++ rest) (n + k) ≡ get_or rest k 0) there (get_or-append-add (take (length ps) out) rest k 0)))))

  -- a circle of the batch and a point of it are accepted
  pair-accepted : (i j : ℕ) → i < length ps → j < length cs → circle_point_refusal (circle cs j) (point_in ps i) ≡ 0
  pair-accepted i j hi hj =
      (circle_point_reads (circle cs j) (point_in ps i)).accepted.1 (
        λ t. ⊎_elim ((none_at bad_centre cs nowhere).0 none.1 j hj) ((none_at bad_point ps no_point).0 none.2 i hi) ((or_iff (bad_centre (circle cs j)) (bad_point (point_in ps i))).0 t),
        ((none_at bad_radius cs nowhere).0 none.3 j hj, tt),
      )

  says-yes : (i j : ℕ) → i < length ps → j < length cs → T (contains_point (circle cs j) (point_in ps i)) ↔ (contains_point_answer (circle cs j) (point_in ps i) ≡ given true)
  says-yes i j hi hj =
      let is = (contains_point-answers (circle cs j) (point_in ps i)).on_acceptance (pair-accepted i j hi hj) in
      (λ t. is ∙ ap given (is_true _ t), λ e. yes_of (sym is ∙ e))

  one-accepted : (i : ℕ) → i < length ps → touch_refusal cs (point_in ps i ∷ []) 1 1 ≡ 0
  one-accepted i h =
      (touch_reads cs (point_in ps i ∷ []) 1 1).accepted.1 (
        none.0,
        (
          λ t. ⊎_elim none.1 ((none_at bad_point (point_in ps i ∷ []) no_point).1 (good i h)) ((or_iff (any bad_centre cs) (any bad_point (point_in ps i ∷ []))).0 t),
          (none.3, (none.4, ((not_too_many_points_iff 1).1 one-fits, ((not_too_few_answers_iff 1 1).1 (omega arith), tt)))),
        ),
      )
    where
      good : (i : ℕ) → i < length ps → (k : ℕ) → k < 1 → ¬ T (bad_point (get_or (point_in ps i ∷ []) k no_point))
      good i h zero l = (none_at bad_point ps no_point).0 none.2 i h
      good i h (suc k) l = absurd (omega arith)

  pub batch_as_singly : Singly cs ps out
  batch_as_singly = record {
    alone = λ i h a. (touch_answers cs (point_in ps i ∷ []) (a ∷ [])).on_acceptance (one-accepted i h) ∙ rw (answer_is i h);
    exactly = λ i h j. rw (answer_is i h) (Iff.trans (touch_bit cs (point_in ps i) j) (
      λ t. (t.0, (says-yes i j h t.0).0 t.1),
      λ t. (t.0, (says-yes i j h t.0).1 t.1),
    ));
    beyond = stays-beyond;
    as_long = as_long_as;
  }
