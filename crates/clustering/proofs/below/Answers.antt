-- `below` meets its contract.
use native.Mathlib.Omega.{arith}
use mathlib.Core.Path.{◌≡◌}
use Rattle.laws.proofs.PackedRows.{single_shifted}
use Rattle.intake.specs.Limits.{max_circles}
use Rattle.clustering.proofs.Places.{bit_below}
use Rattle.clustering.proofs.below.Goals as goal

pub returns-then-n-lt-MAX_CIRCLES : goal.returns-then-n-lt-MAX_CIRCLES
returns-then-n-lt-MAX_CIRCLES c = let n = c.args.n in rw (single_shifted max_circles n c.if-n-lt-MAX_CIRCLES.true) (bit_below n)

pub returns : goal.returns
returns c = let e : c.args.n ≡ max_circles = omega (arith, c.requires, c.if-n-lt-MAX_CIRCLES.false) in rw e (bit_below max_circles)
