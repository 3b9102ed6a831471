-- A cause as a word with one bit. No check answers a word now; what docs/landings/02-save-a-card.md names of them stands here.
use Prim.Native.Nat.{ℕ, ◌^◌}
use mathlib.Core.Path.{◌≡◌, sym, ◌∙◌}
use mathlib.Core.Bool.{Bool, true, false, cond, or-false, and-true, and-false}
use mathlib.Core.List.{[], ◌∷◌}
use lib.Dec.{eqb}
use Rattle.scope.specs.Refusals.{cause_holds}
use Rattle.laws.proofs.PackedRows.{bit-none, bit_single}
use Rattle.intake.specs.CauseWords.{Says}

one_cause : (j : ℕ) (b : Bool) {w : ℕ} → w ≡ cond b (2 ^ j) 0 → Says w ((j, b) ∷ [])
unfolding cause_holds
one_cause j true e k = rw e (bit_single j k ∙ sym (or-false _ ∙ and-true (eqb j k)))
one_cause j false e k = rw e (bit-none k ∙ sym (or-false _ ∙ and-false (eqb j k)))

-- by what a flag and the test behind it ensure
pub flagged : (j : ℕ) {holds test : Bool} {w : ℕ} → w ≡ cond holds (2 ^ j) 0 → holds ≡ test → Says w ((j, test) ∷ [])
flagged j {test} flag e = one_cause j test (flag ∙ rw e)
