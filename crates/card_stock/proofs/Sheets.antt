-- The box of the first circles of a list grows by one circle at a time, and with all of them it is the sheet; what the sheet costs, in numbers that do not wrap.
use Prim.Native.Nat.{ℕ, ◌+◌, ◌*◌, ◌<◌}
use native.Mathlib.Numerals.{add-one}
use native.Mathlib.Omega.{arith}
use mathlib.Core.Path.{◌≡◌, refl, sym, ◌∙◌}
use mathlib.Core.List.{List, [], ◌∷◌}
use mathlib.Core.Bool.{true, false}
use borrow.Author.Tests.{eqb-true, eqb-false}
use lib.Dec.{eqb}
use lib.Ieee.{Float}
use lib.ListN.{length}
use Rattle.shapes.specs.declared.bounds.Bounds.{Bounds}
use Rattle.shapes.specs.declared.circle.Circle.{Circle}
use Rattle.shapes.specs.Boxes.{circle_box, union_of, width_of, height_of}
use Rattle.scope.specs.Runs.{gather, always}
use Rattle.scope.specs.Links.{circle}
use Rattle.scope.specs.Gauge.{nothing}
use Rattle.scope.specs.Padding.{box_all}
use Rattle.scope.specs.CardStock.{sheet, wide, tall, started_hundreds, stock_for}
use Rattle.laws.proofs.Runs.{gather-takes}
use Rattle.packing.specs.Raised.{raised_word}
use Rattle.packing.proofs.RaisedWord.{raised_word_is, raised_is_word}
use Rattle.card_stock.specs.Sheets.{SheetSmall}

module _ (cs : List Circle) where
  abbrev pub first_box : ℕ → Bounds
  first_box i = gather union_of nothing always i (λ k. circle_box (circle cs k))

  pub first_box_next : (i : ℕ) → union_of (first_box i) (circle_box (circle cs i)) ≡ first_box (i + 1)
  first_box_next i = rw (add-one i) (sym (gather-takes union_of nothing always i (λ k. circle_box (circle cs k)) tt))

  pub first-box_all : first_box (length cs) ≡ sheet cs
  unfolding box_all
  first-box_all = refl

-- ---- what it costs, with a circle and with none
pub none_there : (cs : List Circle) → eqb (length cs) 0 ≡ true → length cs ≡ 0
none_there cs e = eqb-true (length cs) 0 e

pub some_there : (cs : List Circle) → eqb (length cs) 0 ≡ false → 0 < length cs
some_there cs e = let away = eqb-false (length cs) 0 e in omega (arith, away)

pub stock_of_none : (cs : List Circle) (cents : ℕ) → length cs ≡ 0 → 0 ≡ stock_for cs cents
unfolding stock_for
stock_of_none [] cents h = refl
stock_of_none (c ∷ cs) cents h = absurd (omega arith)

pub stock_of_some : (cs : List Circle) (cents : ℕ) → 0 < length cs → started_hundreds (wide cs * tall cs) * cents ≡ stock_for cs cents
unfolding stock_for
stock_of_some [] cents h = absurd (omega arith)
stock_of_some (c ∷ cs) cents h = refl

-- a side that was worked out and raised is that of a small sheet
module _ (cs : List Circle) (small : SheetSmall cs) (b : Bounds) (is : b ≡ sheet cs) (x : Float) (k : ℕ) (raises : k ≡ raised_word x) where
  pub wide_is : x ≡ width_of b → k ≡ wide cs
  unfolding wide
  wide_is e = raises ∙ raised_word_is x (raised_is_word x (rw (e, is) small.0.width)) ∙ rw (e, is)

  pub tall_is : x ≡ height_of b → k ≡ tall cs
  unfolding tall
  tall_is e = raises ∙ raised_word_is x (raised_is_word x (rw (e, is) small.0.height)) ∙ rw (e, is)
