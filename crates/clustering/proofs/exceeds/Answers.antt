-- `exceeds` meets its contract.
use mathlib.Core.Path.{◌≡◌, refl, sym, ◌∙◌}
use lib.Ieee.{Float, nan, inf, fin}
use lib.Ieee.Scale.{finite}
use Rattle.std.specs.Float.{float_is_finite}
use Rattle.clustering.proofs.exceeds.Goals as goal

same_test : (x : Float) → float_is_finite x ≡ finite x
unfolding float_is_finite
same_test nan = refl
same_test (inf s) = refl
same_test (fin s m e) = refl

pub returns-then-is_finite : goal.returns-then-is_finite
returns-then-is_finite c = rw (sym (same_test c.args.area) ∙ sym c.is_finite.ensures.value ∙ c.if-is_finite.true)

pub returns-else-is_finite : goal.returns-else-is_finite
returns-else-is_finite c = rw (sym (same_test c.args.area) ∙ sym c.is_finite.ensures.value ∙ c.if-is_finite.false) c.if-is_finite.false
