-- The text that is printed, in its array, and the parts that it is put together from.
use Rattle.std.specs.Prelude.{ℕ, ◌+◌, ◌*◌, ◌-◌, ◌≤◌, ◌<◌, ◌≡◌, List, [], ◌++◌, length, get_or}
use Rattle.shapes.specs.declared.circle.Circle.{Circle}
use Rattle.scope.specs.Runs.{filled, in_turn}
use Rattle.scope.specs.Links.{circle}
use Rattle.scope.specs.Layout.{Layout}
use Rattle.scope.specs.Print.{line}
use Rattle.layout.specs.declared.normalize.Arrangement.{Arrangement}
use Rattle.layout.specs.Answers.{outcome_of}

abbrev pub max_text : ℕ
max_text = 4096

-- the first n bytes are the text, and the rest is 0
abbrev pub IsText : List ℕ → ℕ → List ℕ → Type 0
IsText text n bytes = (n ≡ length text) × (bytes ≡ filled max_text 0 text) × (n ≤ max_text)

-- clusters are numbered by smallest member, so that no circle's cluster has a number above the circle's
abbrev pub NoneAbove : ℕ → List ℕ → Type 0
NoneAbove n numbers = (i : ℕ) → i < n → get_or numbers i 0 ≤ i

-- the lines of the first i circles, as `printed` runs through them
abbrev pub lines_of : List Circle → List ℕ → ℕ → List ℕ
lines_of circles numbers i = in_turn i (λ i text. text ++ line i (get_or numbers i 0) (circle circles i)) []

-- how long they are at most: of the first ten circles, circle and cluster have one digit, and from there on at most two
abbrev pub lines_room : ℕ → ℕ
lines_room i = 61 * i + 2 * (i - 10)

-- an accepted layout
abbrev pub layout_of : Arrangement → List Circle → Layout
layout_of a circles = record { result = outcome_of a; circles = circles }
