-- The card of three circles, computed.
use native.Mathlib.Nat.{not-le_of_lt}
use mathlib.Core.Path.{refl}
use lib.Dec.{lit<}
use Rattle.rounding.specs.Value.{val, mag, negative}
use Rattle.rounding.specs.Scale.{pow2}
use Rattle.scope.specs.Computing.{computing}
use Rattle.laws.proofs.FirstTwo.{first_two_of}
use Rattle.promises.specs.Tight.{child_second, their_layout, LevelTight}

pub level_is_tight : LevelTight
unfolding computing val mag negative pow2 child_second their_layout
level_is_tight = record {
  accepted = refl;
  first_two = first_two_of 3 (lit< tt) _ refl;
  not_level = λ l. not-le_of_lt (lit< tt) l.above;
}
