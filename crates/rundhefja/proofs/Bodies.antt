-- Where a field's body lies in its file. A body has 8 bytes or more, so that its length tells whether the field is refused.
use Prim.Native.Nat.{ℕ, zero, suc, ◌+◌, ◌≤◌}
use native.Mathlib.Omega.{arith}
use mathlib.Core.Path.{◌≡◌, refl, sym, ap, ◌∙◌}
use mathlib.Core.Bool.{Bool, true, false, not, ◌||◌, cond}
use mathlib.Core.Logic.{◌≢◌}
use mathlib.Core.List.{List, []}
use lib.Dec.{eqb}
use borrow.Author.Tests.{ne_eqb}
use lib.ListN.{length, take, drop, length-take, length-drop}
use lib.Seq.{drop-drop}
use Rattle.scope.specs.Refusals.{Answer, refused, given}
use Rattle.scope.specs.CardFile.{Field, factor_field, circle_field, region_field, tag, length_of_body, body, head_length, unknown, field_refusal, read_field, field_body}
use Rattle.laws.proofs.Cases.{is_false}
use Rattle.laws.proofs.EntryPoints.{field_reads}
use Rattle.card_file.specs.Parts.{body_place}
use Rattle.card_file.proofs.FieldLaws.{body-inside, accepted_is_whole}
use Rattle.rundhefja.specs.declared.answers.FieldRead.{FieldRead}
use Rattle.rundhefja.specs.Answers.{field_read}

pub record Lies (file : List ℕ) (at : ℕ) : Type 0 where
  pub nowhere : length (field_body file at) ≡ 0 → body_place file at ≡ 0
  pub somewhere : length (field_body file at) ≢ 0 → (body_place file at ≡ at + head_length) × (at + head_length ≤ length file)
  pub part : take (length (field_body file at)) (drop (body_place file at) file) ≡ field_body file at

one_of_three_has_length : (a b c : Bool) → not (a || b || c) ≡ false → ◌≢◌ {A = ℕ} (cond a 8 (cond b 26 (cond c 16 0))) 0
one_of_three_has_length true b c h e = omega arith
one_of_three_has_length false true c h e = omega arith
one_of_three_has_length false false true h e = omega arith
one_of_three_has_length false false false h e = let z : ◌≡◌ {A = ℕ} 0 1 = cc in omega arith

known_has_length : (t : ℕ) → unknown t ≡ false → length_of_body t ≢ 0
unfolding unknown length_of_body
known_has_length t h = one_of_three_has_length (eqb t 1) (eqb t 2) (eqb t 3) h

module _ (file : List ℕ) (at : ℕ) where
  lies_by : (k : ℕ) → field_refusal (drop at file) ≡ k → Lies file at
  unfolding field_body body
  lies_by zero e =
      let place_is : body_place file at ≡ at + head_length = rw e in
      let body_is : field_body file at ≡ body (drop at file) = rw e in
      let known : length_of_body (tag (drop at file)) ≢ 0 = known_has_length _ (is_false _ ((field_reads (drop at file)).accepted.0 e).1.0) in
      let inside : at + head_length + length_of_body (tag (drop at file)) ≤ length file = body-inside file at (accepted_is_whole _ e) in
      let whole : length (body (drop at file)) ≡ length_of_body (tag (drop at file)) = simp (length-take, length-drop) (omega arith) in
      record {
        nowhere = λ h. absurd (known (sym (ap length body_is ∙ whole) ∙ h));
        somewhere = λ h. (place_is, omega arith);
        part = rw (body_is, place_is, whole, drop-drop);
      }
  lies_by (suc k) e =
      let away : eqb (field_refusal (drop at file)) 0 ≡ false = ne_eqb (field_refusal (drop at file)) 0 (λ z. omega arith) in
      let place_is : body_place file at ≡ 0 = rw away in
      let body_is : field_body file at ≡ [] = rw away in
      record { nowhere = λ h. place_is; somewhere = λ h. absurd (h (ap length body_is)); part = rw body_is }

  pub lies : Lies file at
  lies = lies_by (field_refusal (drop at file)) refl

  -- what is read beside it leaves the body's place and length alone
  read_keeps_body : (a : Answer Field) (start n : ℕ) → take (field_read a start n).body_length (drop (field_read a start n).body_start file) ≡ take n (drop start file)
  read_keeps_body (refused k) start n = refl
  read_keeps_body (given (factor_field x)) start n = refl
  read_keeps_body (given (circle_field c)) start n = refl
  read_keeps_body (given (region_field mask area)) start n = refl

  pub read_with_body : (r : FieldRead) (a : Answer Field) (start n : ℕ)
      → r ≡ field_read a start n → a ≡ read_field file at → start ≡ body_place file at → n ≡ length (field_body file at)
      → (r ≡ field_read (read_field file at) (body_place file at) (length (field_body file at)))
      × (take r.body_length (drop r.body_start file) ≡ field_body file at)
  read_with_body r a start n is read place long = (rw (is, read, place, long), rw (is, read_keeps_body a start n, place, long) lies.part)
