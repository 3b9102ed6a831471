-- What a caller of `root` needs: which values have no root, by their sign, and that its answer is the nearest root of every other.
use Prim.Native.Nat.{ℕ, zero, suc, ◌+◌, ◌*◌}
use native.Mathlib.Nat.{mul-pos}
use native.Mathlib.Omega.{arith}
use mathlib.Core.Path.{◌≡◌, refl, sym, ◌∙◌, subst}
use mathlib.Core.Bool.{Bool, true, false, not, false≢true}
use lib.IntN.{ℤ}
use lib.Dec.{T}
use lib.Ieee.{Float, nan, inf, fin, binary64, of_bits, is_nan, lt, up, down}
use lib.Ieee.Fits.{up_pos}
use borrow.Author.Tests.{lt-ltb, le-ltb}
use Rattle.rounding.specs.Root.{root}
use Rattle.rounding.specs.Value.{negative, Fin}
use Rattle.scope.specs.Refusals.{causes, cause_holds, first, refusal, refused, given, answer}
use Rattle.scope.specs.Distance.{no_root, root_refusal, root_answer}
use Rattle.std.specs.Prelude.{Result, Ok, Err}
use Rattle.refusals.specs.declared.Refusal.{Refusal}
use Rattle.refusals.specs.Numbers.{answer_of}

-- ---- scope's answer, where there is a root and where not

pub answer-refused : (x : Float) → no_root x ≡ true → root_answer x ≡ refused 12
unfolding root_answer root_refusal answer refusal first cause_holds causes
answer-refused x h = rw h

pub answer-given : (x : Float) → no_root x ≡ false → root_answer x ≡ given (root binary64 x)
unfolding root_answer root_refusal answer refusal first cause_holds causes
answer-given x h = rw h

-- ---- the sign decides, but for the zeros

zero_has_root : (s : Bool) (e : ℤ) → no_root (fin s zero e) ≡ false
unfolding no_root is_nan lt of_bits
zero_has_root true e = le-ltb 0 (0 * up e * 1 + 0 * down e) (omega arith)
zero_has_root false e = le-ltb (0 * up e * 1) (0 * down e) (omega arith)

pub no_root_by_sign : (s : Bool) (m : ℕ) (e : ℤ) → no_root (fin s (suc m) e) ≡ s
unfolding no_root is_nan lt of_bits
no_root_by_sign true m e = lt-ltb 0 (suc m * up e * 1 + 0 * down e) (omega (arith, mul-pos {m = suc m} (omega arith) (up_pos e)))
no_root_by_sign false m e = le-ltb (suc m * up e * 1) (0 * down e) (omega arith)

unsigned_has_root : (x : Float) → (x ≡ nan → ⊥) → negative x ≡ false → no_root x ≡ false
unfolding no_root is_nan lt of_bits negative
unsigned_has_root nan n s = absurd (n refl)
unsigned_has_root (inf t) n s = s
unsigned_has_root (fin t zero e) n s = zero_has_root t e
unsigned_has_root (fin t (suc m) e) n s = no_root_by_sign t m e ∙ s

root_of_none : (x : Float) → no_root x ≡ true → root binary64 x ≡ nan
unfolding no_root is_nan lt of_bits root
root_of_none nan h = refl
root_of_none (inf true) h = refl
root_of_none (inf false) h = absurd (false≢true h)
root_of_none (fin s zero e) h = absurd (false≢true (sym (zero_has_root s e) ∙ h))
root_of_none (fin true (suc m) e) h = refl
root_of_none (fin false (suc m) e) h = absurd (false≢true (sym (no_root_by_sign false m e) ∙ h))

-- ---- the answer of the code

-- every value that is neither NaN nor has a sign, so +infinity too
pub root_not_below : (x : Float) (r : Result Float Refusal) → answer_of r ≡ root_answer x → (x ≡ nan → ⊥) → negative x ≡ false → r ≡ Ok (root binary64 x)
root_not_below x r e n s = is_given r (e ∙ answer-given x (unsigned_has_root x n s))
  where
    is_given : (r : Result Float Refusal) → answer_of r ≡ given (root binary64 x) → r ≡ Ok (root binary64 x)
    is_given (Ok y) e = cc
    is_given (Err k) e = cc

-- every finite value of the format that has no sign
pub root-finite : (x : Float) (r : Result Float Refusal) → answer_of r ≡ root_answer x → Fin binary64 x → negative x ≡ false → r ≡ Ok (root binary64 x)
unfolding Fin is_nan
root-finite nan r e h s = absurd h
root-finite (inf t) r e h s = absurd h
root-finite (fin t m d) r e h s = root_not_below (fin t m d) r e (λ (q : fin t m d ≡ nan). subst (λ (z : Float). T (not (is_nan z))) q tt) s

-- a root that was given, and a refusal, which stands for a NaN
pub root-given : (x y : Float) → given y ≡ root_answer x → y ≡ root binary64 x
root-given x y e = by_cause (no_root x) refl
  where
    by_cause : (b : Bool) → no_root x ≡ b → y ≡ root binary64 x
    by_cause true h = let none = e ∙ answer-refused x h in cc
    by_cause false h = let found = e ∙ answer-given x h in cc

pub root-refused : (x : Float) (k : ℕ) → refused k ≡ root_answer x → nan ≡ root binary64 x
root-refused x k e = by_cause (no_root x) refl
  where
    by_cause : (b : Bool) → no_root x ≡ b → nan ≡ root binary64 x
    by_cause true h = sym (root_of_none x h)
    by_cause false h = let found = e ∙ answer-given x h in cc
