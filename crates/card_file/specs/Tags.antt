-- A tag as document 01's number, and what it says of bytes.
use Rattle.std.specs.Prelude.{ℕ, ◌≡◌, true, List, Option, MatchOption}
use Rattle.scope.specs.CardFile.{tag, unknown}
use Rattle.card_file.specs.declared.tags.Tag.{Tag}
use Rattle.card_file.specs.declared.tags.Tag.TheVariants.{Factor, Circle, Region}

abbrev pub number : Tag → ℕ
number Factor = 1
number Circle = 2
number Region = 3

-- the field that starts these bytes has this tag
abbrev pub HasTag : List ℕ → Tag → Type 0
HasTag rest t = tag rest ≡ number t

-- the tag with a number, or none where the number is no tag's
abbrev pub TagOf : ℕ → Option Tag → Type 0
TagOf n r = MatchOption r (unknown n ≡ true) (λ t. n ≡ number t)
