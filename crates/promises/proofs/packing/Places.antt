-- Boxes of finite areas get distinct places below their count, and two places lie in different columns or in different rows.
-- The order of the boxes is total, and what goes before a box goes before every box that it goes before.
use Prim.Native.Nat.{ℕ, ◌+◌, ◌-◌, ◌*◌, ◌/◌, ◌%◌, ◌≤◌, ◌<◌}
use native.Mathlib.Nat.{le_trans, mod-lt, div-add-mod', div-mul-le_self, div-lt_iff_lt-mul, eq-or-lt_of_le, le_of_suc-le-suc}
use native.Mathlib.Omega.{arith}
use native.Mathlib.Decide.{dec_lt}
use mathlib.Core.Path.{◌≡◌, sym, ap, ◌∙◌}
use mathlib.Core.Logic.Iff
use mathlib.Core.Logic.{◌⊎◌, inl, inr, ◌↔◌}
use mathlib.Core.Bool.{true, ◌&&◌}
use mathlib.Core.List.{List}
use lib.Dec.{T, ltb, ltb→lt, lt→ltb}
use lib.ListN.{get_or, length}
use lib.Ieee.{Float, binary64, lt, eq}
use Rattle.algebra.specs.Integer.{◌≺◌, ◌≈◌}
use Rattle.algebra.proofs.Size.{either}
use Rattle.rounding.specs.Value.{Fin}
use Rattle.rounding.proofs.Order.{lt_is, eq_is}
use Rattle.shapes.specs.declared.rectangle.Rectangle.{Rectangle}
use Rattle.scope.specs.Numbers.{nought}
use Rattle.scope.specs.Runs.{tab}
use Rattle.scope.specs.Packing.{before, place, places, rectangle, rectangle_area, rows}
use Rattle.scope.specs.Promises.{units}
use Rattle.laws.proofs.Cases.{or_iff, and_iff, sum_iff}
use Rattle.laws.proofs.Runs.{get_or_tab, many_at_most, many_weaker_once}

-- ---- the order of the boxes, as an order of whole numbers: box j goes before box i
abbrev Before : (ℕ → Float) → ℕ → ℕ → Type 0
Before area i j = (units (area i) ≺ units (area j)) ⊎ ((units (area i) ≈ units (area j)) × (j < i))

before-joined : (area : ℕ → Float) (a b c : ℕ) → Before area a b → Before area b c → Before area a c
before-joined area a b c (inl h) (inl g) = inl (omega arith)
before-joined area a b c (inl h) (inr g) = inl (omega arith)
before-joined area a b c (inr h) (inl g) = inl (omega arith)
before-joined area a b c (inr h) (inr g) = inr (omega arith, omega arith)

not_before_itself : (area : ℕ → Float) (a : ℕ) → Before area a a → ⊥
not_before_itself area a (inl h) = omega arith
not_before_itself area a (inr h) = omega arith

one-before : (area : ℕ → Float) (a b : ℕ) → a < b → Before area a b ⊎ Before area b a
one-before area a b l = elim (either ((units (area a)).p + (units (area b)).n) ((units (area b)).p + (units (area a)).n)) [
  | inl h ↦ inl (inl h)
  | inr h ↦ elim (eq-or-lt_of_le h) [ inl e ↦ inr (inr (omega arith, l)) | inr g ↦ inr (inl g) ]
]

module _ (k : ℕ) (area : ℕ → Float) (finite : (a : ℕ) → a < k → Fin binary64 (area a)) where
  before_is : (i j : ℕ) → i < k → j < k → T (before area i j) ↔ Before area i j
  unfolding before
  before_is i j l m =
      Iff.trans (or_iff (lt (area i) (area j)) (eq (area i) (area j) && ltb j i))
      (sum_iff (lt_is binary64 (area i) (area j) (finite i l) (finite j m))
      (Iff.trans (and_iff (eq (area i) (area j)) (ltb j i))
      (λ h. ((eq_is binary64 (area i) (area j) (finite i l) (finite j m)).0 h.0, ltb→lt j i h.1), λ h. ((eq_is binary64 (area i) (area j) (finite i l) (finite j m)).1 h.0, lt→ltb j i h.1))))

  not_itself : (i : ℕ) → i < k → ¬ T (before area i i)
  not_itself i l t = not_before_itself area i ((before_is i i l l).0 t)

  earlier_is_lower : (i j : ℕ) → i < k → j < k → Before area j i → place k area i < place k area j
  unfolding place
  earlier_is_lower i j l m h =
      let more = many_weaker_once (before area i) (before area j) k (λ a la t. (before_is j a m la).1 (before-joined area j i a h ((before_is i a l la).0 t))) i l (not_itself i l) ((before_is j i m l).1 h) in
      omega arith

  pub place_below_count : (i : ℕ) → i < k → place k area i < k
  unfolding place
  place_below_count i l = omega (arith, many_weaker_once (before area i) (λ a. true) k (λ a la t. tt) i l (not_itself i l) tt, many_at_most k (λ a. true))

  places-differ : (i j : ℕ) → i < k → j < k → i < j → place k area i ≡ place k area j → ⊥
  places-differ i j l m h e = elim (one-before area i j h) [ inl b ↦ (let x = earlier_is_lower j i m l b in omega arith) | inr b ↦ (let x = earlier_is_lower i j l m b in omega arith) ]

  pub same_place_same_box : (i j : ℕ) → i < k → j < k → place k area i ≡ place k area j → i ≡ j
  same_place_same_box i j l m e =
      elim (dec_lt i j) [
        | yes h ↦ absurd (places-differ i j l m h e)
        | no h ↦ elim (dec_lt j i) [ yes g ↦ absurd (places-differ j i m l g (sym e)) | no g ↦ omega arith ]
      ]

-- ---- of a list of rectangles
module _ (rects : List Rectangle) (finite : (a : ℕ) → a < length rects → Fin binary64 (rectangle_area (rectangle rects a))) where
  areas : ℕ → Float
  areas i = get_or (tab (length rects) (λ j. rectangle_area (rectangle rects j))) i nought

  area-finite : (a : ℕ) → a < length rects → Fin binary64 (areas a)
  unfolding areas
  area-finite a h = rw (get_or_tab (length rects) (λ j. rectangle_area (rectangle rects j)) a nought h) (finite a h)

  places_at : (a : ℕ) → a < length rects → get_or (places rects) a 0 ≡ place (length rects) areas a
  unfolding places areas
  places_at a h = get_or_tab (length rects) (place (length rects) (λ i. areas i)) a 0 h

  pub listed_place_below_count : (a : ℕ) → a < length rects → get_or (places rects) a 0 < length rects
  listed_place_below_count a h = rw (places_at a h) (place_below_count (length rects) areas area-finite a h)

  pub same_listed_place_same_box : (a b : ℕ) → a < length rects → b < length rects → get_or (places rects) a 0 ≡ get_or (places rects) b 0 → a ≡ b
  same_listed_place_same_box a b h g e = same_place_same_box (length rects) areas area-finite a b h g (sym (places_at a h) ∙ e ∙ places_at b g)

-- ---- cells
-- one before the other
abbrev pub Differ : ℕ → ℕ → Type 0
Differ a b = (a < b) ⊎ (b < a)

differ_or_same : (a b : ℕ) → (a ≡ b) ⊎ Differ a b
differ_or_same a b = elim (dec_lt a b) [ yes h ↦ inr (inl h) | no h ↦ elim (dec_lt b a) [ yes g ↦ inr (inr g) | no g ↦ inl (omega arith) ] ]

pub cells-differ : (cols a b : ℕ) → (a ≡ b → ⊥) → Differ (a % cols) (b % cols) ⊎ Differ (a / cols) (b / cols)
cells-differ cols a b n = elim (differ_or_same (a % cols) (b % cols)) [
  | inr h ↦ inl h
  | inl e ↦ elim (differ_or_same (a / cols) (b / cols)) [
    | inr h ↦ inr h
    | inl d ↦ absurd (n (sym (div-add-mod' a cols) ∙ ap (λ (z : ℕ). z * cols + a % cols) d ∙ ap (λ (z : ℕ). b / cols * cols + z) e ∙ div-add-mod' b cols))
  ]
]

pub column_below : (cols a : ℕ) → 0 < cols → a % cols < cols
column_below cols a p = mod-lt a p

-- the rows of k boxes hold them all
pub rows_hold : (k cols : ℕ) → 0 < cols → k ≤ rows k cols * cols
unfolding rows
rows_hold k cols p = let d = div-add-mod' (k + (cols - 1)) cols in let m = mod-lt (k + (cols - 1)) p in omega arith

-- and no fewer do
pub rows_at_most : (k cols r : ℕ) → 0 < cols → k ≤ r * cols → rows k cols ≤ r
unfolding rows
rows_at_most k cols r p h = le_of_suc-le-suc ((div-lt_iff_lt-mul p).1 (omega arith))

-- the last row is not empty
pub rows-filled : (k cols : ℕ) → 0 < cols → cols * rows k cols < k + cols
unfolding rows
rows-filled k cols p = omega (arith, div-mul-le_self (k + (cols - 1)) cols)

pub row_below : (k cols a : ℕ) → 0 < cols → a < k → a / cols < rows k cols
row_below k cols a p l = (div-lt_iff_lt-mul p).1 (le_trans l (rows_hold k cols p))
