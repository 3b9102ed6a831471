-- What `shown` does not show of a card: how much of the arrays is used, and that the rest of them is 0.
use Rattle.std.specs.Prelude.{ℕ, ◌-◌, ◌≤◌, ◌≡◌, List, length, drop, replicate, Some}
use Rattle.scope.specs.Numbers.{nought}
use Rattle.intake.specs.Blanks.{blank}
use Rattle.intake.specs.Limits.{max_circles, max_regions}
use Rattle.refusals.specs.declared.Refusal.{Refusal}
use Rattle.card_file.specs.declared.card.Card.{Card}

-- an array of `room` entries, of which the first n are used
pub record Uses {A : Type 0} (room : ℕ) (z : A) (n : ℕ) (l : List A) : Type 0 where
  pub long : length l ≡ room
  pub fits : n ≤ room
  pub unused : drop n l ≡ replicate (room - n) z

-- all but the refusal is 0
pub record IsBlank (r : Card) : Type 0 where
  pub factor : r.factor ≡ nought
  pub no_circles : r.n ≡ 0
  pub circles : r.circles ≡ replicate max_circles blank
  pub no_regions : r.m ≡ 0
  pub masks : r.masks ≡ replicate max_regions 0
  pub patterns : r.patterns ≡ replicate max_regions 0
  pub areas : r.areas ≡ replicate max_regions nought

-- the arrays, and that a refusal comes with nothing
pub record RestIsBlank (r : Card) : Type 0 where
  pub circles : Uses max_circles blank r.n r.circles
  pub masks : Uses max_regions 0 r.m r.masks
  pub patterns : Uses max_regions 0 r.m r.patterns
  pub areas : Uses max_regions nought r.m r.areas
  pub nothing : (e : Refusal) → r.refusal ≡ Some e → IsBlank r
