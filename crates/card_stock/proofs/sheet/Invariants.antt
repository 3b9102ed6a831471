-- `sheet` meets its contract, circle by circle.
use mathlib.Core.Path.{◌≡◌}
use Rattle.card_stock.proofs.Sheets.{first_box}
use Rattle.card_stock.proofs.sheet.Given as goal

abbrev pub invariant-loop-c : goal.invariant-loop-c
invariant-loop-c l = l.b ≡ first_box l.circles l.c-index
