-- `started_hundreds` meets its contract.
use mathlib.Core.Path.{refl}
use Rattle.scope.specs.CardStock.{started_hundreds}
use Rattle.card_stock.proofs.started_hundreds.Goals as goal

pub returns : goal.returns
unfolding started_hundreds
returns c = refl
