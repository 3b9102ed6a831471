-- `put_float` meets its contract.
use Prim.Native.Nat.{ℕ}
use native.Mathlib.Omega.{arith}
use mathlib.Core.Path.{ap}
use mathlib.Core.List.{◌++◌}
use Rattle.scope.specs.Text.{bytes}
use Rattle.scope.specs.Print.{sixteen_digits, float}
use Rattle.card_output.proofs.Putting.{put_equal}
use Rattle.card_output.proofs.lines.put_float.Goals as goal

pub returns : goal.returns
unfolding float bytes
returns c =
    let digits = c.put_digits.ensures in
    (put_equal (ap (λ (n : ℕ). bytes " " ++ sixteen_digits n) c.bits_of.ensures) digits.0, omega (arith, digits.1))
