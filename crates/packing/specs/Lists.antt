-- Lists that hold the values of a function, the lines of a grid, and how long lists are.
use Rattle.std.specs.Prelude.{◌≡◌, ℕ, ◌/◌, ◌%◌, ◌<◌, ◌≤◌, List, length, slice_index, slice_index_or, Float}
use Rattle.scope.specs.Packing.{columns}
use Rattle.intake.specs.Limits.{max_circles}

-- the first n entries are f's values; z is what is read past the end
pub record At {A : Type 0} (n : ℕ) (l : List A) (z : A) (f : ℕ → A) : Type 0 where
  pub fits : n ≤ length l
  pub is : (i : ℕ) → i < n → slice_index_or l i z ≡ f i

-- the columns and the rows of n boxes, by their places
pub record Lined (proportion : Float) (n : ℕ) (place : ℕ → ℕ) (cols rows : List ℕ) : Type 0 where
  pub across : At n cols 0 (λ i. place i % columns n proportion)
  pub down : At n rows 0 (λ i. place i / columns n proportion)

-- the line that box b stands in, and each of n boxes stands in one of n lines
abbrev pub line_of : List ℕ → ℕ → ℕ
line_of lines b = slice_index lines b

abbrev pub InLines : ℕ → List ℕ → Type 0
InLines n lines = (i : ℕ) → i < n → line_of lines i < n

-- four lists as long as an array
abbrev pub FullLength : List Float → List Float → List Float → List Float → Type 0
FullLength a b c d = (length a ≡ max_circles) × (length b ≡ max_circles) × (length c ≡ max_circles) × (length d ≡ max_circles)
