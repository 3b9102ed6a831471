-- What the checks of a field say of the bytes at its place, and what the answer of a refused call is.
use Prim.Native.Nat.{ℕ, ◌+◌, ◌≤◌}
use native.Mathlib.Omega.{arith}
use mathlib.Core.Path.{◌≡◌, refl, sym, subst}
use mathlib.Core.Bool.{Bool, true, false, not, ◌&&◌, ◌||◌, true≢false}
use mathlib.Core.List.{List}
use lib.Dec.{eqb}
use lib.ListN.{length, drop, length-drop}
use borrow.Author.Tests.{ltb-false}
use Rattle.scope.specs.Refusals.{refused, given, answer}
use Rattle.scope.specs.CardFile.{Card, tag, length_of_body, head_length, body_cut, unknown, misplaced, field_refusal}
use Rattle.laws.proofs.Cases.{is_false}
use Rattle.laws.proofs.EntryPoints.{field_reads}
use Rattle.laws.proofs.AfterRefusal.{answer-answers}
use Rattle.card_file.specs.declared.tags.Tag.{Tag}
use Rattle.card_file.specs.declared.tags.Tag.TheVariants.{Factor, Circle, Region}
use Rattle.card_file.specs.Tags.{number, HasTag}

-- a body that is not cut lies in the file
pub body-inside : (l : List ℕ) (at : ℕ) → body_cut (drop at l) ≡ false → at + head_length + length_of_body (tag (drop at l)) ≤ length l
unfolding body_cut
body-inside l at h = omega (arith, ltb-false (length (drop at l)) (head_length + length_of_body (tag (drop at l))) h, length-drop at l)

pub tagged-inside : (l : List ℕ) (at : ℕ) (t : Tag) → HasTag (drop at l) t → body_cut (drop at l) ≡ false
    → HasTag (drop at l) t × (at + head_length + length_of_body (number t) ≤ length l)
tagged-inside l at t is h = (is, subst (λ (n : ℕ). at + head_length + length_of_body n ≤ length l) is (body-inside l at h))

pub accepted_is_whole : (rest : List ℕ) → field_refusal rest ≡ 0 → body_cut rest ≡ false
accepted_is_whole rest e = is_false (body_cut rest) ((field_reads rest).accepted.0 e).1.1.1.0

pub refused-answer : {A : Type 0} (k : ℕ) (a : A) → (k ≡ 0 → ⊥) → answer k a ≡ refused k
refused-answer k a h = (answer-answers k a).at_refusal h

pub given-answer : {A : Type 0} (k : ℕ) (a : A) → k ≡ 0 → answer k a ≡ given a
given-answer k a h = (answer-answers k a).on_acceptance h

-- ---- the number at a field's start is a tag's, or it is unknown

known_number : (t : Tag) → unknown (number t) ≡ false
unfolding unknown
known_number Factor = refl
known_number Circle = refl
known_number Region = refl

pub known : (rest : List ℕ) (t : Tag) → HasTag rest t → unknown (tag rest) ≡ false
known rest t is = rw is (known_number t)

pub unknown_no_factor : (n : ℕ) → unknown n ≡ true → eqb n 1 ≡ false
unfolding unknown
unknown_no_factor n h = first_of (eqb n 1) _ _ h
  where
    first_of : (a b c : Bool) → not (a || b || c) ≡ true → a ≡ false
    first_of true b c h = absurd (true≢false (sym h))
    first_of false b c h = refl

-- what is unknown is out of place everywhere
pub unknown_misplaced : (card : Card) (n : ℕ) → unknown n ≡ true → misplaced card n ≡ true
unfolding unknown misplaced
unknown_misplaced card n h = none_of (eqb n 1) (eqb n 2) (eqb n 3) _ h
  where
    none_of : (a b c x : Bool) → not (a || b || c) ≡ true → not (b && x || c) ≡ true
    none_of true b c x h = absurd (true≢false (sym h))
    none_of false true c x h = absurd (true≢false (sym h))
    none_of false false c x h = h
