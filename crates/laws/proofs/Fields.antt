-- A field of any tag: written it is read again, and read it is written again. Between tag and body stands a number, so both rest on its bytes.
use Prim.Native.Nat.{ℕ, zero, suc, ◌+◌, ◌^◌, ◌≤◌, ◌<◌}
use native.Mathlib.Omega.{arith}
use mathlib.Core.Path.{◌≡◌, refl, sym, ap, ◌∙◌}
use mathlib.Core.Logic.Iff
use mathlib.Core.Logic.{◌↔◌}
use mathlib.Core.Bool.{Bool, true, false, cond, ◌&&◌}
use mathlib.Core.List.{List, [], ◌∷◌, ◌++◌}
use lib.Dec.{T, eqb}
use lib.ListN.{length, take, drop, length-append, length-drop, take-append-drop}
use lib.Seq.{take_at, drop_at, length-take-le}
use Rattle.scope.specs.Refusals.{too_many, too_many_regions}
use Rattle.scope.specs.CardFile.{head_length, tag, stated_length, short_word, length_of_body, body, head_cut, wrong_length, body_cut, little_endian, Card, misplaced, first_refusal, next_refusal}
use Rattle.scope.specs.Saving.{low_bytes, field}
use Rattle.laws.specs.Bytes.{AreBytes}
use Rattle.laws.specs.CardFiles.{after_field}
use Rattle.laws.specs.Fields.{Whole, Starts}
use Rattle.laws.proofs.Cases.{not_not_iff, not_ltb_iff, eqb_iff}
use Rattle.laws.proofs.EntryPoints.{first_field_reads, next_field_reads}
use Rattle.laws.proofs.Bytes.{low_read, low-written}
use Rattle.laws.proofs.Saving.{field-length}

-- no body is longer than two bytes can say
either-below : (b : Bool) (x y z : ℕ) → x < z → y < z → cond b x y < z
either-below true x y z h k = h
either-below false x y z h k = k

bodies_short : (t : ℕ) → length_of_body t < 256 ^ 2
unfolding length_of_body
bodies_short t =
    either-below (eqb t 1) _ _ _ (omega arith) (either-below (eqb t 2) _ _ _ (omega arith) (either-below (eqb t 3) _ _ _ (omega arith) (omega arith)))

not_wrong_iff : (rest : List ℕ) → (¬ T (wrong_length rest)) ↔ (stated_length rest ≡ length_of_body (tag rest))
unfolding wrong_length
not_wrong_iff rest =
    Iff.trans (not_not_iff (eqb (stated_length rest) (length_of_body (tag rest)))) (eqb_iff (stated_length rest) (length_of_body (tag rest)))

-- ---- written, then read

module _ (t : ℕ) (bs more : List ℕ) (fits : length bs ≡ length_of_body t) where
  abbrev written : List ℕ
  written = field t bs ++ more

  stated_read : stated_length written ≡ length_of_body t
  unfolding stated_length short_word field low_bytes
  stated_read = low_read 2 (length bs) (rw fits (bodies_short t)) ∙ fits

  long_enough : head_length + length_of_body t ≤ length written
  long_enough = rw (length-append, field-length, fits) (omega arith)

  body-read : body written ≡ bs
  unfolding body field low_bytes
  body-read = take_at bs more (length_of_body t) fits

  after_read : after_field written ≡ more
  unfolding field low_bytes
  after_read =
      let three : head_length + length_of_body t ≡ suc (suc (suc (length_of_body t))) = omega arith in
      rw three (drop_at bs more (length_of_body t) fits)

  pub written_then_read : Starts written t bs more
  unfolding head_cut body_cut field
  written_then_read = record {
    whole = record {
      head_whole = (not_ltb_iff (length written) head_length).1 (omega (arith, long_enough));
      length_right = (not_wrong_iff written).1 stated_read;
      body-whole = (not_ltb_iff (length written) (head_length + length_of_body t)).1 long_enough;
    };
    tagged = refl;
    holds = body-read;
    leaves = after_read;
  }

-- ---- read, then written

pub head_there : (rest : List ℕ) → Whole rest → head_length ≤ length rest
unfolding head_cut
head_there rest w = (not_ltb_iff (length rest) head_length).0 w.head_whole

body-there : (rest : List ℕ) → Whole rest → head_length + length_of_body (tag rest) ≤ length rest
unfolding body_cut
body-there rest w = (not_ltb_iff (length rest) (head_length + length_of_body (tag rest))).0 w.body-whole

again : (rest : List ℕ) → AreBytes rest → Whole rest → rest ≡ field (tag rest) (body rest) ++ after_field rest
unfolding field body stated_length short_word
again [] small w = absurd (omega (arith, head_there [] w))
again (t ∷ []) small w = absurd (omega (arith, head_there (t ∷ []) w))
again (t ∷ a ∷ []) small w = absurd (omega (arith, head_there (t ∷ a ∷ []) w))
again (t ∷ a ∷ b ∷ bs) small w =
    let rest = t ∷ a ∷ b ∷ bs in
    let three : head_length + length_of_body t ≡ suc (suc (suc (length_of_body t))) = omega arith in
    let stated : little_endian (a ∷ b ∷ []) ≡ length_of_body t = (not_wrong_iff rest).0 w.length_right in
    let taken : length (take (length_of_body t) bs) ≡ length_of_body t = length-take-le (length_of_body t) bs (omega (arith, body-there rest w)) in
    let low = low-written 2 (a ∷ b ∷ []) refl (two (small 1 (omega arith)) (small 2 (omega arith))) in
    let said : low_bytes 2 (length (take (length_of_body t) bs)) ≡ a ∷ b ∷ [] = rw (taken, ← stated) low in
    rw (three, said) (ap (λ l. t ∷ a ∷ b ∷ l) (sym (take-append-drop (length_of_body t) bs)))
  where
    two : a < 2 ^ 8 → b < 2 ^ 8 → AreBytes (a ∷ b ∷ [])
    two h k zero l = h
    two h k (suc zero) l = k
    two h k (suc (suc i)) l = absurd (omega arith)

pub read_then_written : (rest : List ℕ) (t : ℕ) (bs more : List ℕ) → AreBytes rest → Starts rest t bs more → rest ≡ field t bs ++ more
read_then_written rest t bs more small s = rw (← s.tagged, ← s.holds, ← s.leaves) (again rest small s.whole)

-- the body of a field that is read has its tag's length
pub body-length : (rest : List ℕ) → Whole rest → length (body rest) ≡ length_of_body (tag rest)
unfolding body
body-length rest w = length-take-le (length_of_body (tag rest)) (drop head_length rest) (omega (arith, length-drop head_length rest, body-there rest w))

-- ---- the reader's checks of the first field and of one after it

pub first_accepted_iff : (file : List ℕ) → (first_refusal file ≡ 0) ↔ (Whole file × (tag file ≡ 1))
first_accepted_iff file = Iff.trans (first_field_reads file).accepted (
  λ h. (
    record { head_whole = h.1.0; length_right = h.1.1.1.0; body-whole = h.1.1.1.1.0 },
    (eqb_iff (tag file) 1).0 ((not_not_iff (eqb (tag file) 1)).0 h.1.1.0),
  ),
  λ a.
      let some : ¬ T (eqb (length file) 0) = λ e. let none = (eqb_iff (length file) 0).0 e in absurd (omega (arith, head_there file a.0)) in
      (some, (a.0.head_whole, ((not_not_iff (eqb (tag file) 1)).1 ((eqb_iff (tag file) 1).1 a.1), (a.0.length_right, (a.0.body-whole, tt))))),
)

pub next_accepted_iff : (card : Card) (rest : List ℕ) (t : ℕ) → tag rest ≡ t
    → (next_refusal card rest ≡ 0)
    ↔ (Whole rest × (¬ T (misplaced card t)) × (¬ T (eqb t 2 && too_many (suc (length card.circles))))
    × (¬ T (eqb t 3 && too_many_regions (suc (length card.masks)))))
next_accepted_iff card rest t e = Iff.trans (next_field_reads card rest).accepted (rw e (
  λ h. (record { head_whole = h.0; length_right = h.1.1.1.1.0; body-whole = h.1.1.1.1.1.0 }, h.1.0, h.1.1.0, h.1.1.1.0),
  λ a. (a.0.head_whole, (a.1, (a.2, (a.3, (a.0.length_right, (a.0.body-whole, tt)))))),
))
