-- `pattern_of` meets its contract.
use mathlib.Core.Path.{◌≡◌, refl, sym, ap, ◌∙◌}
use mathlib.Core.Bool.{true, true≢false}
use lib.Ieee.{Float, nan, inf, fin, to_bits, is_nan}
use Rattle.scope.specs.CardFile.{pattern_of}
use Rattle.bits.proofs.pattern_of.Goals as goal

is_nan_lem : (x : Float) → is_nan x ≡ true → x ≡ nan
unfolding is_nan
is_nan_lem nan h = refl
is_nan_lem (inf s) h = absurd (true≢false (sym h))
is_nan_lem (fin s m e) h = absurd (true≢false (sym h))

nan_pattern : pattern_of nan ≡ 9221120237041090560
unfolding pattern_of to_bits
nan_pattern = refl

pub returns-then-is_nan : goal.returns-then-is_nan
returns-then-is_nan c =
    sym (ap pattern_of (is_nan_lem c.args.x (sym c.is_nan.ensures.value ∙ c.if-is_nan.true)) ∙ nan_pattern)

pub returns-else-is_nan : goal.returns-else-is_nan
unfolding pattern_of
returns-else-is_nan c = refl
