-- The answers of the calls as document 01's: a refusal's number, or what is given.
use Rattle.std.specs.Prelude.{ℕ, List, take, Float, Option, Some, None, Result, Ok, Err}
use Rattle.shapes.specs.declared.circle.Circle as shapes
use Rattle.scope.specs.Refusals.{Answer, refused, given}
use Rattle.scope.specs.CardFile.{factor_field, circle_field, region_field}
use Rattle.scope.specs.CardFile as scope
use Rattle.refusals.specs.declared.Refusal.{Refusal}
use Rattle.refusals.specs.Numbers.{number}
use Rattle.card_file.specs.declared.fields.Field.{Field}
use Rattle.card_file.specs.declared.fields.Field.TheVariants.{Factor, Circle, Region}
use Rattle.card_file.specs.declared.card.Card.{Card}

abbrev pub field_answer : Result Field Refusal → Answer scope.Field
field_answer (Ok (Factor x)) = given (factor_field x)
field_answer (Ok (Circle c)) = given (circle_field c)
field_answer (Ok (Region mask area)) = given (region_field mask area)
field_answer (Err r) = refused (number r)

-- document 01's card
abbrev pub ReadCard : Type 0
ReadCard = scope.Card

-- what the arrays hold, as lists
abbrev pub listed : Float → ℕ → List shapes.Circle → ℕ → List ℕ → List ℕ → List Float → ReadCard
listed factor n circles m masks patterns areas =
    record { factor = factor; circles = take n circles; masks = take m masks; patterns = take m patterns; areas = take m areas }

abbrev pub shown : Card → ReadCard
shown c = listed c.factor c.n c.circles c.m c.masks c.patterns c.areas

-- a card, or what was refused
abbrev pub read_or_refused : Option Refusal → ReadCard → Answer ReadCard
read_or_refused None card = given card
read_or_refused (Some r) card = refused (number r)

abbrev pub card_answer : Card → Answer ReadCard
card_answer c = read_or_refused c.refusal (shown c)
