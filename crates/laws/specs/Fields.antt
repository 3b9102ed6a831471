-- Lets one say which field starts bytes (its tag, its body and what stands behind it, where no check of the bytes alone refuses it), and what a card is with a
-- circle or a region more.
use Rattle.std.specs.Prelude.{ℕ, ◌≡◌, List, [], ◌∷◌, ◌++◌, T}
use Rattle.shapes.specs.declared.circle.Circle.{Circle}
use Rattle.scope.specs.CardFile.{tag, body, float_of, head_cut, wrong_length, body_cut, Card}
use Rattle.laws.specs.CardFiles.{after_field}

-- all bytes of the field are there, and its length is that of its tag
pub record Whole (rest : List ℕ) : Type 0 where
  pub head_whole : ¬ T (head_cut rest)
  pub length_right : ¬ T (wrong_length rest)
  pub body-whole : ¬ T (body_cut rest)

pub record Starts (rest : List ℕ) (t : ℕ) (bs more : List ℕ) : Type 0 where
  pub whole : Whole rest
  pub tagged : tag rest ≡ t
  pub holds : body rest ≡ bs
  pub leaves : after_field rest ≡ more

abbrev pub with_circle : Card → Circle → Card
with_circle card c =
    record { factor = card.factor; circles = card.circles ++ c ∷ []; masks = card.masks; patterns = card.patterns; areas = card.areas }

abbrev pub with_region : Card → ℕ → ℕ → Card
with_region card mask pattern = record {
  factor = card.factor;
  circles = card.circles;
  masks = card.masks ++ mask ∷ [];
  patterns = card.patterns ++ pattern ∷ [];
  areas = card.areas ++ float_of pattern ∷ [];
}
