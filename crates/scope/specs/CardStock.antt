-- Document 02, 5/14, "Card stock charged to the cent": what a layout's finished sheet costs, exact over whole numbers.
use Rattle.std.specs.Prelude.{ℕ, zero, suc, ◌+◌, ◌*◌, ◌/◌, List, [], ◌∷◌, Float}
use Rattle.shapes.specs.declared.bounds.Bounds.{Bounds}
use Rattle.shapes.specs.declared.circle.Circle.{Circle}
use Rattle.shapes.specs.Boxes.{width_of, height_of}
use Rattle.scope.specs.Numbers.{raised}
use Rattle.scope.specs.Runs.{always}
use Rattle.scope.specs.Refusals.{stock_refusal}
use Rattle.scope.specs.Padding.{box_all}
use Rattle.scope.specs.Layout.{layout}

-- ---- the sheet

-- "the finished width and height as `Bounds` computes them": of the box of all circles
abbrev pub sheet : List Circle → Bounds
sheet cs = box_all always cs

-- "each raised to whole millimetres", as the columns are
unfoldable pub wide : List Circle → ℕ
wide cs = raised (width_of (sheet cs))

unfoldable pub tall : List Circle → ℕ
tall cs = raised (height_of (sheet cs))

-- ---- the charge

-- "the number of started hundreds of square millimetres"
unfoldable pub started_hundreds : ℕ → ℕ
started_hundreds area = (area + 99) / 100

-- "times the price in cents"; "An empty layout costs 0"
unfoldable pub stock_for : List Circle → ℕ → ℕ
stock_for [] cents = 0
stock_for (c ∷ cs) cents = started_hundreds (wide (c ∷ cs) * tall (c ∷ cs)) * cents

-- the number, and the amount in cents: 0 after a refusal
pub record Charge : Type 0 where
  pub refusal : ℕ
  pub amount : ℕ

abbrev pub refused_charge : ℕ → Charge
refused_charge k = record { refusal = k; amount = 0 }

unfoldable pub charged : ℕ → ℕ → Charge
charged zero amount = record { refusal = 0; amount = amount }
charged (suc k) amount = refused_charge (suc k)

-- "Given a whole layout's inputs and a price, lay it out": the circles are those that the whole layout hands back. They are lent to be read, so "The circles
-- handed in are not rewritten".
unfoldable pub card_stock : List Circle → Float → List ℕ → List Float → Float → ℕ → Charge
card_stock cs factor masks areas proportion cents =
    charged (stock_refusal cs factor masks areas proportion cents) (stock_for (layout cs factor masks areas proportion).circles cents)
