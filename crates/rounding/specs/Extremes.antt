-- Document 01, "Root and distance": minimum and maximum keep the first operand unless the second is strictly beyond it.
-- So a NaN as the second operand is passed over, one as the first stays, and of two zeros the first is kept.
use Rattle.std.specs.Prelude.{cond, Float}
use Rattle.std.specs.Float.Ieee.{lt}

unfoldable pub minimum : Float → Float → Float
unfolding lt
minimum x y = cond (lt y x) y x

unfoldable pub maximum : Float → Float → Float
unfolding lt
maximum x y = cond (lt x y) y x
