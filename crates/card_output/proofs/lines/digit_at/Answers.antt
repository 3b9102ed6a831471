-- `digit_at` meets its contract: a shift by four times k divides by 16 ^ k.
use Prim.Native.Nat.{ℕ, ◌/◌, ◌%◌}
use mathlib.Core.Path.{ap, ◌∙◌}
use Rattle.scope.specs.Print.{hex_digit}
use Rattle.card_output.proofs.Digits.{sixteen_power}
use Rattle.card_output.proofs.lines.digit_at.Goals as goal

pub returns : goal.returns
returns c = c.hexadecimal_digit.ensures ∙ ap (λ (p : ℕ). hex_digit (c.args.n / p % 16)) (sixteen_power c.args.k)
