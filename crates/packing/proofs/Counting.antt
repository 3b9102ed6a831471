-- A count of boxes is an f64, so its cast loses nothing.
use Rattle.std.proofs.Common.{ℕ, ◌^◌, ◌≤◌, T, pos, le_trans, lit≤, le→leb}
use lib.Ieee.{binary64, in_float}
use Rattle.intake.specs.Limits.{max_circles}

pub count_small : (n : ℕ) → n ≤ max_circles → n ≤ 2 ^ 53
count_small n h = le_trans h (lit≤ tt)

pub count_held : (n : ℕ) → n ≤ max_circles → T (in_float binary64 (pos n))
unfolding in_float
count_held n h = le→leb n (2 ^ 53) (count_small n h)
