-- `float_of` meets its contract: a pattern is a NaN's where the exponent field is 2047 and there are digits, and only there.
use mathlib.Core.Path.{◌≡◌, refl, sym, ◌∙◌, ap, subst}
use mathlib.Core.Bool.{Bool, true, false, not, cond, ◌&&◌}
use Prim.Native.Nat.{ℕ, ◌%◌, ◌/◌}
use lib.Dec.{T, eqb}
use lib.Ieee.{inf, nan, binary64, of_fields, of_bits, div, nan_bits}
use Rattle.scope.specs.CardFile.{float_of}
use borrow.Author.Tests.{eq-eqb, ne_eqb}
use Rattle.bits.proofs.float_of.Goals as goal
use Rattle.bits.proofs.float_of.Goals.{else-pattern-eq2047-via-then-pattern-eq2047+else-pattern-ne0}
use Rattle.bits.proofs.float_of.Goals.{else-pattern-eq2047-via-else-pattern-eq2047}

number-by_field : (a t : ℕ) → (a ≡ 2047 → ⊥) → T (not (eqb a 2047 && not (eqb t 0)))
number-by_field a t h = subst (λ (z : Bool). T (not (z && not (eqb t 0)))) (sym (ne_eqb a 2047 h)) tt

and_false_is_false : (z : Bool) → T (not (z && false))
and_false_is_false true = tt
and_false_is_false false = tt

number_by_digits : (a t : ℕ) → t ≡ 0 → T (not (eqb a 2047 && not (eqb t 0)))
number_by_digits a t h = subst (λ (z : Bool). T (not (eqb a 2047 && not z))) (sym (eq-eqb t 0 h)) (and_false_is_false (eqb a 2047))

is_nan_lem : (s : Bool) (a t : ℕ) → a ≡ 2047 → (t ≡ 0 → ⊥) → of_fields binary64 s a t ≡ nan
unfolding of_fields
is_nan_lem s a t e h = ap (λ (z : ℕ). of_fields binary64 s z t) e ∙ ap (λ (z : Bool). cond z (inf s) nan) (ne_eqb t 0 h)

pub returns-then-pattern-ne0 : goal.returns-then-pattern-ne0
unfolding of_bits float_of div
returns-then-pattern-ne0 c = sym (is_nan_lem _ _ _ c.if-pattern-eq2047.true c.if-pattern-ne0.true)

pub float_from_bits-result : goal.float_from_bits-result
unfolding nan_bits
float_from_bits-result c =
    let a = c.args.pattern % 9223372036854775808 / 4503599627370496 in
    let t = c.args.pattern % 4503599627370496 in
    elim c.else-pattern-eq2047.branch [
      | else-pattern-eq2047-via-then-pattern-eq2047+else-pattern-ne0 w ↦ number_by_digits a t w.if-pattern-ne0.false
      | else-pattern-eq2047-via-else-pattern-eq2047 w ↦ number-by_field a t w.if-pattern-eq2047.false
    ]

pub returns-else-pattern-eq2047 : goal.returns-else-pattern-eq2047
unfolding float_of
returns-else-pattern-eq2047 c = refl
